-- Invariant: all packets stored at at are the count stored so far, and those of the stretches from unit i on stored at here.
use Rattle.house_packets.proofs.RowLaws.{stretch_bytes}
use Rattle.house_packets.specs.Packets.{stretch_packets}
use Rattle.house_cells.proofs.StretchLaws.{Measured, Written}
use Prim.Native.Nat.{◌-◌, ◌≤◌, ◌*◌}
use Rattle.house_packets.proofs.put_row.Given as goal

abbrev pub invariant-loop-s : goal.invariant-loop-s
invariant-loop-s l =
    (l.i ≤ l.n) × (l.count ≤ 2 * l.i) × Measured l.form.unit l.n l.a l.b (stretch_packets l.form.unit l.form.least l.form.longest) l.i l.count
    × Written l.form.unit l.n l.a l.b (stretch_bytes l.form.unit l.form.least l.form.longest) l.initial.out l.at l.out l.here l.i

abbrev pub decreases-loop-s : goal.decreases-loop-s
decreases-loop-s l = l.n - l.i
