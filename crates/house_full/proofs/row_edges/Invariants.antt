-- The invariant: what was counted and the edges from here on make all of them.
use mathlib.Core.Path.{◌≡◌}
use Prim.Native.Nat.{◌+◌, ◌≤◌}
use lib.ListN.{drop}
use Rattle.house_full.specs.Edges.{edges}
use Rattle.house_full.proofs.row_edges.Given as goal

abbrev pub invariant-loop-i : goal.invariant-loop-i
invariant-loop-i l = (l.count ≤ l.i) × (l.count + edges (drop l.i l.row) ≡ edges l.row)
