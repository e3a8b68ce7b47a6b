-- `write_brun` meets its contract. The invariant: the rows left, put at here, give what the contract says, and what is left of the plan is theirs.
use Prim.Native.Nat.{◌-◌}
use Rattle.house_full.proofs.Laws.{Filling}
use Rattle.house_full.proofs.write_brun.Given as goal

abbrev pub invariant-loop : goal.invariant-loop
invariant-loop l = Filling l.width l.height l.picture l.plan l.initial.out l.at l.out l.here l.from (l.height - l.counter)
