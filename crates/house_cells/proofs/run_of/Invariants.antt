-- Invariant: the run from cell i on is the cells up to j and the run from cell j on.
use Rattle.house_cells.proofs.RunLaws.{Running}
use Rattle.house_cells.proofs.run_of.Given as goal

abbrev pub invariant-loop-j : goal.invariant-loop-j
invariant-loop-j l = Running l.p l.q l.k l.n l.i l.sought l.j
