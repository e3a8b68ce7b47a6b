-- Invariant: no row from row r on is changed.
use Rattle.house_lc.proofs.RowLaws.{Still}
use Rattle.house_lc.proofs.up_to_last.Given as goal

abbrev pub invariant-loop-r : goal.invariant-loop-r
invariant-loop-r l = Still l.width l.height l.previous l.next l.r
