-- `walk_brun` meets its contract. The invariant: the rows left, from this row on the picture as it is, give what the body gives on the picture as found.
use Rattle.read_brun.proofs.Laws.{shown}
use Rattle.read_brun.specs.Brun.{rows, brun}
use Rattle.walk.proofs.Laws.{seen}
use lib.ListN.{length}
use Prim.Native.Nat.{◌≤◌, ◌-◌, ◌*◌}
use mathlib.Core.Path.{◌≡◌}
use Rattle.read_brun.proofs.walk_brun.Given as goal

abbrev pub invariant-loop-row : goal.invariant-loop-row
invariant-loop-row l =
    (l.at ≤ length l.body) × (length l.picture ≡ length l.initial.picture)
    × (seen l.pass (brun l.width l.height l.body) l.initial.picture ≡ shown l.pass (rows l.width l.body (l.height - l.row) l.at) l.picture (l.row * l.width))
