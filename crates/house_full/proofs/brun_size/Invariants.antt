-- `brun_size` meets its contract. The invariant: size and the size of the rows left make the body's, and what is planned of them would make the plan
-- whole; no row takes over three bytes a pixel, so the sums fit.
use Prim.Native.Nat.{◌-◌}
use Rattle.house_full.proofs.Laws.{Measuring}
use Rattle.house_full.proofs.brun_size.Given as goal

abbrev pub invariant-loop : goal.invariant-loop
invariant-loop l = Measuring l.width l.height l.picture l.initial.plan l.plan l.size l.from (l.height - l.counter)
