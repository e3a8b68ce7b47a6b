-- The invariant: the rows that are left, on the picture as it is now, give what the body gives on the picture as it was.
use Rattle.read_lc.specs.Lc.{rows, lc}
use Rattle.walk.proofs.Laws.{seen}
use lib.ListN.{length}
use Prim.Native.Nat.{◌≤◌, ◌-◌}
use mathlib.Core.Path.{◌≡◌}
use Rattle.read_lc.proofs.walk_lc.Given as goal

abbrev pub invariant-loop-row : goal.invariant-loop-row
invariant-loop-row l =
    (l.at ≤ length l.body)
    × (seen l.pass (lc l.width l.height l.body) l.initial.picture ≡ seen l.pass (rows l.width l.body (l.end - l.row) l.row l.at) l.picture)
