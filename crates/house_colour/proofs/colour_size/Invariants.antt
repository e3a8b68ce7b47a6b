-- Invariant: size is the bytes of the stretches before entry i, and what is left is those from entry i on.
use Rattle.house_colour.specs.Colours.{colour_packet}
use Rattle.house_cells.proofs.StretchLaws.{Measured}
use Prim.Native.Nat.{◌-◌, ◌≤◌, ◌*◌}
use Rattle.house_colour.proofs.colour_size.Given as goal

abbrev pub invariant-loop-s : goal.invariant-loop-s
invariant-loop-s l = (l.i ≤ 256) × (l.size ≤ 5 * l.i) × Measured 3 256 l.previous l.next colour_packet l.i l.size

abbrev pub decreases-loop-s : goal.decreases-loop-s
decreases-loop-s l = 256 - l.i
