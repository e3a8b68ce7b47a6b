-- `next_at` meets its contract: the next frame from the start is the next frame from here, whatever was stepped over.
use mathlib.Core.Path.{◌≡◌}
use Prim.Native.Nat.{◌-◌, ◌≤◌}
use lib.ListN.{length}
use Rattle.chunks.specs.Spans.{next_at}
use Rattle.chunks.specs.declared.Layout.TheVariants.{Loose}
use Rattle.chunks.proofs.next_at.Given as goal

abbrev pub invariant-loop-at : goal.invariant-loop-at
invariant-loop-at l = (l.at ≤ length l.b) × (next_at Loose l.b l.start ≡ next_at Loose l.b l.at)

abbrev pub decreases-loop-at : goal.decreases-loop-at
decreases-loop-at l = length l.b - l.at
