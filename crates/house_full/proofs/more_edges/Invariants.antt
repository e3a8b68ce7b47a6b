-- The invariant: what was counted and the edges of the rows left make all of them; a row has at most as many as pixels, so the sum fits.
use mathlib.Core.Path.{◌≡◌}
use Rattle.std.specs.Slice.Iter.{chunks_exact_rest, chunks_exact_size}
use Rattle.house_full.proofs.Edges.{Counting}
use Rattle.house_full.proofs.more_edges.Given as goal

abbrev pub invariant-loop-row : goal.invariant-loop-row
invariant-loop-row l =
    (goal.iterator-loop-row).can_next l.row-iterator × (goal.iterator-loop-row).is_finite l.row-iterator
    × (chunks_exact_size l.row-iterator ≡ l.width) × Counting l.width l.height l.picture (chunks_exact_rest l.row-iterator) l.count
