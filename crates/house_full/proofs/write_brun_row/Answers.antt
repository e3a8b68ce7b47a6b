-- `write_brun_row` meets its contract: the packets are written first, and their count in front of them.
use native.Mathlib.Omega.{arith}
use Rattle.house_full.proofs.Laws.{length_row, put_row}
use Rattle.house_full.proofs.write_brun_row.Goals as goal

pub write_row-written-requires : goal.write_row-written-requires
write_row-written-requires c = (c.requires.0, c.requires.1, omega (arith, length_row c.args.row.now))

pub bounds-out-at : goal.bounds-out-at
bounds-out-at c = omega (arith, length_row c.args.row.now)

pub returns : goal.returns
returns c =
    let a = c.args in
    let l = length_row a.row.now in (
      omega (arith, c.write_row-written.ensures.1),
      put_row a.out.now a.row.now c.write_row-written.new.out a.at c.write_row-written.result.packets _
          c.write_row-written.ensures.0 c.write_row-written.ensures.2 (omega arith) (omega (arith, c.min.ensures)),
    )
