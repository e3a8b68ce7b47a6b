-- `put_index` meets its contract. The invariant: the whole index stored at the front of the bytes as found is the rest of the index stored behind the
-- entries that stand there.
use mathlib.Core.Path.{◌≡◌}
use Prim.Native.Nat.{◌≤◌, ◌-◌, ◌*◌}
use lib.ListN.{length}
use Rattle.words.specs.Writes.{put}
use Rattle.chunks.specs.Spans.{HEADER_BYTES, top_frames}
use Rattle.reel_trailer.specs.Trailer.{index}
use Rattle.reel_trailer.proofs.put_index.Given as goal

abbrev pub invariant-loop-k : goal.invariant-loop-k
invariant-loop-k l =
    (l.at ≤ length l.b) × (length l.out ≡ length l.initial.out)
    × (put l.initial.out 0 (index (top_frames l.b l.count HEADER_BYTES).offsets) ≡ put l.out (4 * l.k) (index (top_frames l.b (l.count - l.k) l.at).offsets))
