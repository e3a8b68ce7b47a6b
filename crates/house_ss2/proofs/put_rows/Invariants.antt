-- Invariant: all stretches stored at at are those stored so far, of count rows, and those from row i on stored at here.
use Rattle.house_ss2.proofs.RowLaws.{rows}
use Rattle.house_ss2.specs.Delta.{stretch_lines}
use Rattle.house_cells.proofs.StretchLaws.{Measured, Written}
use Prim.Native.Nat.{◌-◌, ◌≤◌}
use Rattle.house_ss2.proofs.put_rows.Given as goal

abbrev pub invariant-loop-s : goal.invariant-loop-s
invariant-loop-s l =
    (l.i ≤ l.height) × (l.count ≤ l.i) × Measured l.width l.height l.previous l.next rows l.i l.count
    × Written l.width l.height l.previous l.next (stretch_lines l.width) l.initial.out l.at l.out l.here l.i

abbrev pub decreases-loop-s : goal.decreases-loop-s
decreases-loop-s l = l.height - l.i
