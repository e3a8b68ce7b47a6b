-- `write_brun` meets its contract. The invariant: the rows left, put at here, give what the contract says, and what is left of the plan is theirs.
use Prim.Native.Nat.{◌+◌, ◌-◌}
use native.Mathlib.Nat.{sub-zero}
use native.Mathlib.Omega.{arith}
use Rattle.house_full.proofs.Laws.{row_length, filling_first, filled_in, filled_room, filled_types, filling_more, filling_done}
use Rattle.house_full.proofs.write_brun.Goals as goal

pub loop-init : goal.loop-init
loop-init c = rw sub-zero (filling_first c.args.out.now c.args.at c.requires.0 c.requires.1 c.requires.2)

pub write_brun_row-here-requires : goal.write_brun_row-here-requires
write_brun_row-here-requires c =
    let rest = c.args.height - (c.loop.counter + 1) in
    let n = row_length c.args.width c.loop.from c.args.picture.now (filled_in c.loop.invariant rest (omega arith)) in
    (rw n c.requires.0.size.wide, filled_types c.loop.invariant rest (omega arith), filled_room c.loop.invariant rest (omega arith))

pub loop-preserved : goal.loop-preserved
loop-preserved c = filling_more c.loop.invariant (c.args.height - (c.loop.counter + 1)) (omega arith) c.write_brun_row-here.result
    c.write_brun_row-here.new.out c.write_brun_row-here.ensures.0 c.write_brun_row-here.ensures.1

pub overflow_sub-result : goal.overflow_sub-result
overflow_sub-result c = omega (arith, (filling_done c.loop.invariant (omega arith)).0)

pub returns : goal.returns
returns c = let d = filling_done c.loop.invariant (omega arith) in (omega (arith, d.0), d.1)
