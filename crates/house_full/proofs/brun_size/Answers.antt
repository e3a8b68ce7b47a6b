-- `brun_size` meets its contract. The invariant: size and the size of the rows left make the body's, and what is planned of them would make the plan
-- whole; no row takes over three bytes a pixel, so the sums fit.
use Prim.Native.Nat.{◌+◌, ◌-◌}
use native.Mathlib.Omega.{arith}
use Rattle.house_full.proofs.Laws.{sized_small, measured_in, measuring_more, measuring_done, measured_types}
use Rattle.house_full.proofs.brun_size.Goals as goal

pub overflow_add-size : goal.overflow_add-size
overflow_add-size c =
    let m = measuring_more c.loop.invariant (c.args.height - (c.loop.counter + 1)) (omega arith) c.requires.0.size.some_wide c.plan_row-row.result.bytes
    c.plan_row-row.new.first c.plan_row-row.ensures.size_is c.plan_row-row.ensures.types_are in
    omega (arith, m.small, measured_in c.loop.invariant (c.args.height - (c.loop.counter + 1)) (omega arith), sized_small c.requires.0)

pub overflow_add-size-in-loop : goal.overflow_add-size-in-loop
overflow_add-size-in-loop c =
    let m = measuring_more c.loop.invariant (c.args.height - (c.loop.counter + 1)) (omega arith) c.requires.0.size.some_wide c.plan_row-row.result.bytes
    c.plan_row-row.new.first c.plan_row-row.ensures.size_is c.plan_row-row.ensures.types_are in
    omega (arith, m.small, measured_in c.loop.invariant (c.args.height - (c.loop.counter + 1)) (omega arith), sized_small c.requires.0)

pub loop-preserved : goal.loop-preserved
loop-preserved c = measuring_more c.loop.invariant (c.args.height - (c.loop.counter + 1)) (omega arith) c.requires.0.size.some_wide c.plan_row-row.result.bytes
    c.plan_row-row.new.first c.plan_row-row.ensures.size_is c.plan_row-row.ensures.types_are

pub returns : goal.returns
returns c = (measuring_done c.loop.invariant (omega arith), measured_types c.loop.invariant (omega arith) c.requires.0 c.requires.1)
