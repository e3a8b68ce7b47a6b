-- Kind 12, LC (document 01, "Frames, chunks and rows"), as a walk over the body's bytes.
use Prim.Native.Nat.{ℕ, zero, suc, ◌+◌}
use Rattle.std.specs.Prelude.{List, length, get_or, leb, Result, Ok, Err}
use Rattle.words.specs.Words.{require◌else◌then◌, u16_at}
use Rattle.answer.specs.declared.Refusal.{Refusal}
use Rattle.answer.specs.declared.Refusal.TheVariants.{BodyEnds, PastHeight}
use Rattle.walk.specs.Walk.{Walk, ends, fault, followed}
use Rattle.read_packets.specs.Packets.{packets}
use Rattle.read_lc.specs.declared.Start.{Start}

-- the start of a row of so many packets, of which the first is at offset from
abbrev pub start_of : ℕ → ℕ → Start
start_of count from = record { count = count; from = from }

-- "rows begin with the packet count alone"; "A row start is one byte" (document 02, Req 04), 7 where it isn't there
unfoldable pub start_at : List ℕ → ℕ → Result Start Refusal
start_at b at =
    require leb (at + 1) (length b) else Err BodyEnds then
    Ok (start_of (get_or b at 0) (at + 1))

module _ (w : ℕ) (b : List ℕ) where
  -- a row's packets, on row row: "x starts at 0 and the first packet's skip does the work"
  abbrev pub after_start : ℕ → Result Start Refusal → Walk
  after_start row (Err e) = fault e
  after_start row (Ok s) = packets 1 w b s.count row s.from 0

  -- the row at offset at
  unfoldable pub row_at : ℕ → ℕ → Walk
  unfolding start_at
  row_at row at = after_start row (start_at b at)

  -- n rows from offset at on, the first being row row
  unfoldable pub rows : ℕ → ℕ → ℕ → Walk
  unfolding row_at
  rows zero row at = ends at
  rows (suc n) row at = followed (row_at row at) (λ end. rows n (row + 1) end)

-- "First row (2), row count (2); if their sum is over the height, 10"; "two bytes (7, also for each word ..)"
unfoldable pub lc : ℕ → ℕ → List ℕ → Walk
unfolding rows
lc w h b =
    require leb 4 (length b) else fault BodyEnds then
    require leb (u16_at b 0 + u16_at b 2) h else fault PastHeight then
    rows w b (u16_at b 2) (u16_at b 0) 4
