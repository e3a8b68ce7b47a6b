-- `sweep` meets its contract. Before place j: low is the lowest end from t + 1 to j - 1, and far has the lowest end up to each place passed; one place
-- more joins a range of one on the right.
use mathlib.Core.Path.{◌≡◌}
use Prim.Native.Nat.{◌+◌, ◌-◌, ◌<◌}
use lib.ListN.{length}
use Rattle.format.specs.Limits.{max_width}
use Rattle.house_rows.specs.Window.{LowestEnd, sum_at}
use Rattle.house_rows.proofs.Windows.{Swept}
use Rattle.house_rows.proofs.sweep.Given as goal

abbrev pub invariant-loop-j : goal.invariant-loop-j
invariant-loop-j l =
    (length l.far ≡ max_width + 1) × (l.turns + l.t + 1 ≡ l.j) × (l.low.sum < 65536)
    × (l.j ≡ l.t + 1 → l.low.sum ≡ sum_at l.sums l.j)
    × (l.t + 1 < l.j → LowestEnd (sum_at l.sums) (l.t + 1) (l.j - 1) l.low) × Swept (sum_at l.sums) l.t (l.j - 1) l.far
