-- The room that a listing takes: what the contracts of the functions below `list_into` and of the listing program cite.
use Rattle.std.specs.Prelude.{ℕ, ◌+◌, ◌*◌, ◌-◌, ◌/◌, ◌≤◌, List, length}
use Rattle.format.specs.Limits.{Sized, max_frames}
use Rattle.chunks.specs.Spans.{HEADER_BYTES}
use Rattle.list_text.specs.Text.{head_most, line_most, ok_line}
use Rattle.list_chunks.specs.Listing.{LIST_INPUT}

-- a reel that is short enough to be listed
pub record Listed (b : List ℕ) (w h frames : ℕ) : Type 0 where
  pub long : HEADER_BYTES ≤ length b
  pub short : length b ≤ LIST_INPUT
  pub sized : Sized w h
  pub few : frames ≤ max_frames

-- from offset start of the output on, room for a line for each 6 of so many bytes
abbrev pub Lines : ℕ → ℕ → List ℕ → Type 0
Lines start bytes out = 6 * start + line_most * bytes ≤ 6 * length out

-- the most bytes of a listing: a line for each 6 bytes behind the header, the first line and the last
abbrev pub list_most : ℕ
list_most = (line_most * (LIST_INPUT - HEADER_BYTES)) / 6 + head_most + length ok_line
