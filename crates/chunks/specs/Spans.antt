-- Where chunks lie: the sub-chunks of a frame, and the top-level chunks of a reel (document 01, "Frames, chunks and rows", "Reels and the trailer").
-- b is a frame up to its size; or the reel up to its size, or up to the record's end in a reel being closed.
use Rattle.std.specs.Prelude.{ℕ, zero, suc, ◌+◌, ◌-◌, List, [], ◌∷◌, cond, length, drop, leb, eqb, Result, Ok, Err}
use Rattle.words.specs.Words.{require◌else◌then◌, u16_at}
use Rattle.format.specs.Format.{FRAME_TYPE}
use Rattle.answer.specs.declared.Refusal.TheVariants.{FewFrames}
use Rattle.answer.specs.Answer.{Answer, refused_at}
use Rattle.answer.specs.declared.Refused.{Refused}
use Rattle.chunks.specs.declared.Layout.{Layout}
use Rattle.chunks.specs.declared.Layout.TheVariants.{Loose, Packed}
use Rattle.chunks.specs.declared.Frame.{Frame}
use Rattle.chunks.specs.Headers.{Header, Whole, chunk_to, header_at, frame_header}

-- where a frame begins and ends
abbrev pub frame_to : ℕ → ℕ → Frame
frame_to from end = record { from = from; end = end }

-- the next frame, or the first fault with its place
abbrev pub Next : Type 0
Next = Result Frame Refused

-- how far a walk over frames went: where the last frame ends, or the first fault with its place
abbrev pub Extent : Type 0
Extent = Result ℕ Refused

-- the bytes of a reel's header: its chunks begin there
abbrev pub HEADER_BYTES : ℕ
HEADER_BYTES = 128

-- A chunk: its kind, and where it begins and ends.
pub record Span : Type 0 where
  pub kind : ℕ
  pub from : ℕ
  pub end : ℕ

abbrev pub span : ℕ → ℕ → ℕ → Span
span kind from end = record { kind = kind; from = from; end = end }

-- The chunks met before the first fault, and how the walk over them is answered.
pub record Spans : Type 0 where
  pub met : List Span
  pub answer : Answer

abbrev pub walked : List Span → Answer → Spans
walked ss a = record { met = ss; answer = a }

-- the chunk whose header stands at offset at, and then the rest; a fault has "the offset .. of the chunk header at fault"
abbrev pub after_header : ℕ → Header → (ℕ → ℕ → Spans) → Spans
after_header at (Err e) rest = walked [] (Err (refused_at e at))
after_header at (Ok c) rest = walked (span c.kind at c.end ∷ (rest c.kind c.end).met) (rest c.kind c.end).answer

-- "Then as many sub-chunks as the count says": count of them from offset at on
unfoldable pub sub_spans : List ℕ → ℕ → ℕ → Spans
unfolding header_at
sub_spans b zero at = walked [] (Ok tt)
sub_spans b (suc count) at = after_header at (header_at b at) (λ kind end. sub_spans b count end)

-- the frame that must begin at offset at: its header as that of a single frame, "length present (4), type (5 ..), size too small (6), size too large (4)"
abbrev pub framed : ℕ → Whole → Header
framed at (Err e) = Err e
framed at (Ok f) = Ok (chunk_to FRAME_TYPE (at + f.size))

-- the top-level chunk at offset at: in a reel being closed frames lie "back to back"; in a file,
-- "6 bytes there, else 15; an F1FA needs 16, else 4", then too small (6), too large (4)
unfoldable pub top_at : Layout → List ℕ → ℕ → Header
unfolding header_at frame_header
top_at Packed b at = framed at (frame_header (drop at b))
top_at Loose b at =
    require leb (at + 6) (length b) else Err FewFrames then
    cond (eqb (u16_at b (at + 4)) FRAME_TYPE) (framed at (frame_header (drop at b))) (header_at b at)

-- how many of suc count frames are left after a chunk: "Those not F1FA are stepped over"
abbrev pub left_after : ℕ → ℕ → ℕ
left_after kind count = cond (eqb kind FRAME_TYPE) count (suc count)

-- no more than so many chunks of spans
unfoldable pub spans_within : ℕ → Layout → List ℕ → ℕ → ℕ → Spans
unfolding top_at
-- a formality: a list of bytes has fewer chunks than `spans` allows
spans_within zero layout b count at = walked [] (Err (refused_at FewFrames at))
spans_within (suc chunks) layout b zero at = walked [] (Ok tt)
spans_within (suc chunks) layout b (suc count) at = after_header at (top_at layout b at) (λ kind end. spans_within chunks layout b (left_after kind count) end)

-- every top-level chunk from offset at on up to the last of count frames, those stepped over too; "no sub-chunk is opened"
unfoldable pub spans : Layout → List ℕ → ℕ → ℕ → Spans
unfolding spans_within
spans layout b count at = spans_within (suc (length b)) layout b count at

-- the frames among chunks
unfoldable pub only_frames : List Span → List Span
only_frames [] = []
only_frames (s ∷ ss) = cond (eqb s.kind FRAME_TYPE) (s ∷ only_frames ss) (only_frames ss)

-- count frames from offset at on
unfoldable pub frame_spans : Layout → List ℕ → ℕ → ℕ → Spans
unfolding spans only_frames
frame_spans layout b count at = walked (only_frames (spans layout b count at).met) (spans layout b count at).answer

-- the first of some frames, else how the walk to it is answered; the last line is a formality: a walk to one frame or more that is done has met it
abbrev pub first_of : List Span → Answer → Next
first_of (s ∷ ss) a = Ok (frame_to s.from s.end)
first_of [] (Err r) = Err r
first_of [] (Ok u) = Err (refused_at FewFrames 0)

-- the next frame from offset at on
unfoldable pub next_at : Layout → List ℕ → ℕ → Next
unfolding frame_spans
next_at layout b at = first_of (frame_spans layout b 1 at).met (frame_spans layout b 1 at).answer

-- frame k of a file, the first from offset at on being frame 1
unfoldable pub frame_at : List ℕ → ℕ → ℕ → Next
unfolding frame_spans
frame_at b k at = first_of (drop (k - 1) (frame_spans Loose b k at).met) (frame_spans Loose b k at).answer

-- where the last of chunks ends, at where there is none
abbrev pub end_of : ℕ → List Span → ℕ
end_of at [] = at
end_of at (s ∷ ss) = end_of s.end ss

abbrev pub extent_of : ℕ → List Span → Answer → Extent
extent_of at ss (Ok u) = Ok (end_of at ss)
extent_of at ss (Err r) = Err r

-- where the last of count frames of a file from offset at on ends, or how the walk is answered
unfoldable pub extent : List ℕ → ℕ → ℕ → Extent
unfolding frame_spans
extent b count at = extent_of at (frame_spans Loose b count at).met (frame_spans Loose b count at).answer

-- where spans begin
abbrev pub offsets : List Span → List ℕ
offsets [] = []
offsets (s ∷ ss) = s.from ∷ offsets ss

-- the frames of a reel: the offsets of those met before the first fault, and how the walk is answered
pub record Found : Type 0 where
  pub offsets : List ℕ
  pub answer : Answer

abbrev pub found : List ℕ → Answer → Found
found os a = record { offsets = os; answer = a }

-- count frames of a file from offset at on
unfoldable pub top_frames : List ℕ → ℕ → ℕ → Found
unfolding frame_spans
top_frames b count at = found (offsets (frame_spans Loose b count at).met) (frame_spans Loose b count at).answer
