-- A frame (document 01, "Frames, chunks and rows"): what its sub-chunks do, in file order.
use Rattle.std.specs.Prelude.{ℕ, ◌+◌, List, [], ◌∷◌, ◌++◌, take, Ok, Err}
use Rattle.words.specs.Words.{part}
use Rattle.words.specs.Writes.{Write}
use Rattle.format.specs.declared.Size.{Size}
use Rattle.chunks.specs.Headers.{Whole, frame_header}
use Rattle.chunks.specs.Spans.{Span, sub_spans}
use Rattle.read_chunk.specs.Chunk.{ChunkWalk, sub_chunk}
use Rattle.answer.specs.Answer.{refused_at, Answer}
use Rattle.walk.specs.Walk.{Verdict}

-- What a frame says: the writes met before the first fault, in order, and the answer to it.
pub record FrameWalk : Type 0 where
  pub pixels : List Write
  pub colours : List Write
  pub answer : Answer

abbrev pub stop : Answer → FrameWalk
stop a = record { pixels = []; colours = []; answer = a }

-- how the frame is answered after a sub-chunk at offset at: "the offset .. of the chunk header at fault"
abbrev pub answer_after : ℕ → Verdict → Answer → Answer
answer_after at (Ok end) a = a
answer_after at (Err e) a = Err (refused_at e at)

-- the writes of what follows a sub-chunk that came out so: a fault ends the walk
abbrev pub writes_after : Verdict → List Write → List Write
writes_after (Ok end) ws = ws
writes_after (Err e) ws = []

-- a sub-chunk at offset at, and then the rest of the frame: "Sub-chunks act in file order"
abbrev pub chunk_then : ℕ → ChunkWalk → FrameWalk → FrameWalk
chunk_then at c f =
    record {
      pixels = c.pixels ++ writes_after c.verdict f.pixels;
      colours = c.colours ++ writes_after c.verdict f.colours;
      answer = answer_after at c.verdict f.answer;
    }

module _ (z : Size) (b : List ℕ) where
  -- sub-chunks in file order, and then how the walk over them is answered: "each sub-chunk's body is the part of the bytes handed in that begins
  -- right after its six-byte header and ends where its size .. ends"
  abbrev pub acted : List Span → Answer → FrameWalk
  acted [] a = stop a
  acted (s ∷ ss) a = chunk_then s.from (sub_chunk z s.kind (part b (s.from + 6) s.end)) (acted ss a)

  -- "Then as many sub-chunks as the count says": count of them from offset at on
  unfoldable pub sub_chunks : ℕ → ℕ → FrameWalk
  unfolding sub_spans sub_chunk
  sub_chunks count at = acted (sub_spans b count at).met (sub_spans b count at).answer

-- "any fault of .. frame header in a single-frame call" has place 0; "Bytes .. after a single frame's size, are ignored"
abbrev pub after_frame_header : Size → List ℕ → Whole → FrameWalk
after_frame_header z b (Err e) = stop (Err (refused_at e 0))
after_frame_header z b (Ok h) = sub_chunks z (take h.size b) h.count 16

unfoldable pub frame : Size → List ℕ → FrameWalk
unfolding frame_header sub_chunks
frame z b = after_frame_header z b (frame_header b)
