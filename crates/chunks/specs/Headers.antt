-- The header of a chunk and that of a frame (document 01, "Frames, chunks and rows").
use Rattle.std.specs.Prelude.{ℕ, ◌+◌, List, length, leb, eqb, Result, Ok, Err}
use Rattle.words.specs.Words.{require◌else◌then◌, u16_at, u32_at}
use Rattle.format.specs.Format.{FRAME_TYPE}
use Rattle.answer.specs.declared.Refusal.{Refusal}
use Rattle.answer.specs.declared.Refusal.TheVariants.{Cut, WrongType, SmallSize}
use Rattle.chunks.specs.declared.FrameHeader.{FrameHeader}
use Rattle.chunks.specs.declared.Chunk.{Chunk}

-- a chunk of this kind that ends there
abbrev pub chunk_to : ℕ → ℕ → Chunk
chunk_to kind end = record { kind = kind; end = end }

-- a frame's header with so many sub-chunks and this size
abbrev pub whole_of : ℕ → ℕ → FrameHeader
whole_of count size = record { count = count; size = size }

-- a chunk's header, or its first fault
abbrev pub Header : Type 0
Header = Result Chunk Refusal

-- the same of a frame
abbrev pub Whole : Type 0
Whole = Result FrameHeader Refusal

-- the size that stands at offset at, of what has at least so many bytes: "size too small (6), size too large (4)"
abbrev pub size_at : ℕ → List ℕ → ℕ → Result ℕ Refusal
size_at least b at =
    require leb least (u32_at b at) else Err SmallSize then
    require leb (at + u32_at b at) (length b) else Err Cut then
    Ok (u32_at b at)

-- the header of the chunk at offset at, "size 4 and type 2": "length present (4) .. size too small (6), size too large (4)"
unfoldable pub header_at : List ℕ → ℕ → Header
header_at b at =
    require leb (at + 6) (length b) else Err Cut then
    require leb 6 (u32_at b at) else Err SmallSize then
    require leb (at + u32_at b at) (length b) else Err Cut then
    Ok (chunk_to (u16_at b (at + 4)) (at + u32_at b at))

-- "Frame header: 16 bytes (size 4, type F1FA 2, count 2, reserved 8 ignored)", checked in the order
-- "length present (4), type (5, frames only), size too small (6), size too large (4)"
unfoldable pub frame_header : List ℕ → Whole
frame_header b =
    require leb 16 (length b) else Err Cut then
    require eqb (u16_at b 4) FRAME_TYPE else Err WrongType then
    require leb 16 (u32_at b 0) else Err SmallSize then
    require leb (u32_at b 0) (length b) else Err Cut then
    Ok (whole_of (u16_at b 6) (u32_at b 0))
