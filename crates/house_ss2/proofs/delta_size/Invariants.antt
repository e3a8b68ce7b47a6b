-- Invariant: size is that of the stretches before row i, and the stretches from row i on give the rest.
use Rattle.house_ss2.specs.Delta.{stretch_lines}
use Rattle.house_ss2.specs.Line.{line_most}
use Rattle.house_cells.proofs.StretchLaws.{Measured}
use Prim.Native.Nat.{◌-◌, ◌+◌, ◌≤◌, ◌*◌}
use Rattle.house_ss2.proofs.delta_size.Given as goal

abbrev pub invariant-loop-s : goal.invariant-loop-s
invariant-loop-s l = (l.i ≤ l.height) × (l.size ≤ (2 + line_most) * l.i) × Measured l.width l.height l.previous l.next (stretch_lines l.width) l.i l.size

abbrev pub decreases-loop-s : goal.decreases-loop-s
decreases-loop-s l = l.height - l.i
