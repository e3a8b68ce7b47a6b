-- The invariant: the lines that are left, from this row and offset on, on the picture as it is now, give what the body gives on the picture as it
-- was. A skip goes down at least one row, a line counts one less: the measure is lines and rows left.
use mathlib.Core.Path.{◌≡◌}
use Prim.Native.Nat.{◌≤◌, ◌-◌, ◌+◌}
use lib.ListN.{length}
use Rattle.walk.proofs.Laws.{seen}
use Rattle.read_ss2.specs.Ss2.{ss2}
use Rattle.read_ss2.proofs.Laws.{lines_from}
use Rattle.read_ss2.proofs.walk_ss2.Given as goal

abbrev pub invariant-loop-left : goal.invariant-loop-left
invariant-loop-left l =
    (l.at ≤ length l.body) × (l.row ≤ l.height)
    × (seen l.pass (ss2 l.width l.height l.body) l.initial.picture ≡ seen l.pass (lines_from l.width l.height l.body l.left l.row l.at) l.picture)

abbrev pub decreases-loop-left : goal.decreases-loop-left
decreases-loop-left l = l.left + (l.height - l.row)
