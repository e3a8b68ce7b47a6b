-- `walk_row` meets its contract. The invariant: the packets left, from here on the picture as it is, give what the row gives from its place on the
-- picture as found.
use Rattle.read_brun.proofs.Laws.{shown}
use Rattle.read_brun.specs.Brun.{packets, row}
use lib.ListN.{length}
use Prim.Native.Nat.{◌≤◌, ◌+◌}
use mathlib.Core.Path.{◌≡◌}
use Rattle.read_brun.proofs.walk_row.Given as goal

abbrev pub invariant-loop-left : goal.invariant-loop-left
invariant-loop-left l =
    (l.at ≤ length l.body) × (l.to + l.left ≡ l.place + l.width) × (length l.picture ≡ length l.initial.picture)
    × (shown l.pass (row l.width l.body l.from) l.initial.picture l.place ≡ shown l.pass (packets l.body l.left 0 l.at) l.picture l.to)

abbrev pub decreases-loop-left : goal.decreases-loop-left
decreases-loop-left l = l.left
