-- The listing of a reel (document 01, "Reels and the trailer", third paragraph): its text.
use Rattle.std.specs.Prelude.{ℕ, zero, suc, ◌+◌, ◌-◌, List, [], ◌++◌, Bool, not, true, cond, leb, eqb, length, take, Ok, Err}
use Rattle.words.specs.Words.{require◌else◌then◌, u16_at}
use Rattle.answer.specs.Answer.{number}
use Rattle.format.specs.Format.{FRAME_TYPE, PREFIX_TYPE, FLI_PSTAMP}
use Rattle.answer.specs.declared.Refusal.TheVariants.{NoRoom}
use Rattle.chunks.specs.Headers.{header_at, Header}
use Rattle.state.specs.Outcome.{Outcome, fitted}
use Rattle.reel_header.specs.Head.{head_of, Headed}
use Rattle.chunks.specs.Spans.{HEADER_BYTES, extent, Extent}
use Rattle.reel_header.specs.declared.Takes.TheVariants.{FlcOnly}
use Rattle.list_text.specs.Text.{head_line, chunk_line, ok_line, refused_line}

-- "Chunks of kind 61696 and 61946 hold children after 16 bytes, as many as their count; kind 18 holds one after 12"
abbrev pub head_bytes : ℕ → ℕ
head_bytes kind = cond (eqb kind FLI_PSTAMP) 12 16

unfoldable pub count_at : List ℕ → ℕ → ℕ → ℕ
count_at b at kind = cond (eqb kind FLI_PSTAMP) 1 (u16_at b (at + 6))

-- "a child of one of these kinds is opened in its turn .. but an 18 directly inside an 18 is a colour table and stays shut"
unfoldable pub opens : ℕ → ℕ → Bool
opens kind parent = cond (eqb kind FLI_PSTAMP) (not (eqb parent FLI_PSTAMP)) (cond (eqb kind PREFIX_TYPE) true (eqb kind FRAME_TYPE))

-- a child at offset at of b, which ends where its container does, and then the rest: "stops at the first child that doesn't fit (header not whole,
-- size under 6 or past the container)"; inside: what is listed of a child that is opened
abbrev pub after_child : (ℕ → ℕ → ℕ → List ℕ) → ℕ → ℕ → ℕ → Header → (ℕ → List ℕ) → List ℕ
after_child inside depth parent at (Err e) rest = []
after_child inside depth parent at (Ok c) rest =
    chunk_line depth at c.kind (c.end - at) ++ (cond (opens c.kind parent) (inside at c.end c.kind) [] ++ rest c.end)

-- at most count children from offset at on, up to offset to
unfoldable pub children_by : (ℕ → ℕ → ℕ → List ℕ) → List ℕ → ℕ → ℕ → ℕ → ℕ → ℕ → List ℕ
unfolding header_at opens chunk_line
children_by inside b depth parent to zero at = []
children_by inside b depth parent to (suc count) at =
    after_child inside depth parent at (header_at (take to b) at) (λ end. children_by inside b depth parent to count end)

-- what is inside the container from offset at to offset end, at this depth, with so many levels below it;
-- "one shorter than its 16 or 12 bytes lists none"
unfoldable pub inside : ℕ → List ℕ → ℕ → ℕ → ℕ → ℕ → List ℕ
unfolding children_by count_at
inside zero b depth at end kind = []
inside (suc levels) b depth at end kind =
    require leb (head_bytes kind) (end - at) else [] then
    children_by (inside levels b (depth + 1)) b (depth + 1) kind end (count_at b at kind) (at + head_bytes kind)

-- "no line passing depth 8"
abbrev pub LIST_DEPTH : ℕ
LIST_DEPTH = 8

abbrev pub container_of : List ℕ → ℕ → ℕ → ℕ → ℕ → List ℕ
container_of b depth = inside (LIST_DEPTH - depth) b depth

abbrev pub children_of : List ℕ → ℕ → ℕ → ℕ → ℕ → ℕ → List ℕ
children_of b depth = children_by (inside (LIST_DEPTH - depth) b depth) b depth

-- "It lists up to the ring", which ends at offset end: all top-level chunks of the reel b (no more than its bytes) that end there or before
unfoldable pub chunk_lines : List ℕ → ℕ → List ℕ
unfolding children_by inside
chunk_lines b end = children_of b 0 0 end (length b) HEADER_BYTES

-- "the header line (width, height, frames), one line a chunk (depth, offset, kind, size), and `ok`"
abbrev pub reel_lines : List ℕ → ℕ → ℕ → ℕ → ℕ → List ℕ
reel_lines b width height frames end = head_line width height frames ++ (chunk_lines b end ++ ok_line)

-- "either one line `refused N PLACE`, or" these, by how far the walk over the frames went
abbrev pub walk_lines : List ℕ → ℕ → ℕ → ℕ → Extent → List ℕ
walk_lines b width height frames (Err r) = refused_line (number r.0) r.1
walk_lines b width height frames (Ok end) = reel_lines b width height frames end

-- "the other refusals are the trailer walk's, the trailer itself unread"
abbrev pub head_lines : List ℕ → Headed → List ℕ
head_lines bytes (Err e) = refused_line (number e) 0
head_lines bytes (Ok h) =
    walk_lines (take h.size bytes) h.picture.width h.picture.height h.frames (extent (take h.size bytes) (suc h.frames) HEADER_BYTES)

-- "reads up to 65,536 bytes .. Input past that is refused 3, place 0"; "Listing .. stay FLC" (document 02, Req 06)
abbrev pub LIST_INPUT : ℕ
LIST_INPUT = 65536

unfoldable pub listing : List ℕ → List ℕ
unfolding head_line refused_line chunk_lines head_of extent
listing bytes =
    require leb (length bytes) LIST_INPUT else refused_line (number NoRoom) 0 then
    head_lines bytes (head_of FlcOnly bytes)

-- the text at the front of the output and its rest unchanged, or refusal 3 where the output is shorter than the text
unfoldable pub list : List ℕ → List ℕ → Outcome
unfolding listing
list bytes out = fitted (listing bytes) out
