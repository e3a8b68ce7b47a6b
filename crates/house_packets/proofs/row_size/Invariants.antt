-- Invariant: size is that of the stretches before unit i, and the stretches from unit i on give the rest.
use Rattle.house_packets.proofs.RowLaws.{stretch_bytes}
use Rattle.house_cells.proofs.StretchLaws.{Measured}
use Prim.Native.Nat.{◌-◌, ◌≤◌, ◌*◌}
use Rattle.house_packets.proofs.row_size.Given as goal

abbrev pub invariant-loop-s : goal.invariant-loop-s
invariant-loop-s l = (l.i ≤ l.n) × (l.size ≤ 4 * l.i) × Measured l.form.unit l.n l.a l.b (stretch_bytes l.form.unit l.form.least l.form.longest) l.i l.size

abbrev pub decreases-loop-s : goal.decreases-loop-s
decreases-loop-s l = l.n - l.i
