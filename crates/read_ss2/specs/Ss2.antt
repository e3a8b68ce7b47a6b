-- Kind 7, SS2 (document 01, "Frames, chunks and rows"), as a walk over the body's bytes.
use Prim.Native.Nat.{ℕ, zero, suc, ◌+◌, ◌-◌, ◌*◌, ◌/◌, ◌%◌}
use Rattle.std.specs.Prelude.{List, [], ◌∷◌, length, ltb, Option, Some, None, Result, Ok, Err}
use Rattle.std.proofs.Math.Dec.{leb}
use Rattle.words.specs.Words.{require◌else◌then◌, u16_at}
use Rattle.answer.specs.declared.Refusal.{Refusal}
use Rattle.answer.specs.declared.Refusal.TheVariants.{BodyEnds, PastHeight, BadWord}
use Rattle.walk.specs.Walk.{Walk, ends, fault, and_then, followed}
use Rattle.read_packets.specs.Packets.{packets}
use Rattle.read_ss2.specs.declared.Word.{Word}
use Rattle.read_ss2.specs.declared.Word.TheVariants.{Count, Bad, Last, Skip}
use Rattle.read_ss2.specs.declared.Line.{Line}
use Rattle.read_ss2.specs.declared.Line.TheVariants.{Down, Row}

-- the last pixel of a row, if a line sets it by a word of its own
abbrev pub LastPixel : Type 0
LastPixel = Option ℕ

-- a line, or its first fault
abbrev pub LineStep : Type 0
LineStep = Result Line Refusal

-- "00 packet count, 10 last pixel (low byte ..), 11 skip down by the absolute value as a signed word, 01 refused"
abbrev pub by_high : ℕ → ℕ → Word
by_high zero w = Count w
by_high (suc zero) w = Bad
by_high (suc (suc zero)) w = Last (w % 256)
by_high (suc (suc (suc n))) w = Skip (65536 - w)

-- "The two high bits of each word decide what it is"
unfoldable pub word_of : ℕ → Word
word_of w = by_high (w / 16384) w

-- the word after a last-pixel word of pixel v, the next byte being at offset at: "no packet count after a last-pixel word" is 11
abbrev pub count_after : ℕ → ℕ → Word → LineStep
count_after at v (Count n) = Ok (Row (Some v) n at)
count_after at v Bad = Err BadWord
count_after at v (Last v') = Err BadWord
count_after at v (Skip k) = Err BadWord

-- the packet count at offset at, after the last-pixel word of pixel v
unfoldable pub last_at : List ℕ → ℕ → ℕ → LineStep
unfolding word_of u16_at
last_at b at v =
    require leb (at + 2) (length b) else Err BodyEnds then
    count_after (at + 2) v (word_of (u16_at b at))

module _ (h : ℕ) (b : List ℕ) where
  -- a word on row row, the next one being at offset at: "A skip that reaches a row at or past the height,
  -- or a last-pixel word or packet count that stands on one, is refusal 10"
  abbrev pub line_of : ℕ → ℕ → Word → LineStep
  line_of at row (Count n) = require ltb row h else Err PastHeight then Ok (Row None n at)
  line_of at row Bad = Err BadWord
  line_of at row (Last v) = require ltb row h else Err PastHeight then last_at b at v
  line_of at row (Skip k) = require ltb (row + k) h else Err PastHeight then Ok (Down k)

  -- the line at offset at: "a word that isn't there is 7, before 11, and 11 before 10"
  unfoldable pub line_at : ℕ → ℕ → LineStep
  unfolding last_at
  line_at at row =
      require leb (at + 2) (length b) else Err BodyEnds then
      line_of (at + 2) row (word_of (u16_at b at))

module _ (w : ℕ) where
  -- "last pixel (low byte goes to column width - 1, at any width)", and then the walk k: "Packets act after the last-pixel word"
  abbrev pub last_first : ℕ → LastPixel → Walk → Walk
  last_first row None k = k
  last_first row (Some v) k = and_then (row * w + (w - 1)) (v ∷ []) k

  -- what a line does on row row: its last pixel, and then count packets of pixel pairs from offset from on
  unfoldable pub line_walk : List ℕ → ℕ → LastPixel → ℕ → ℕ → Walk
  line_walk b row last count from = last_first row last (packets 2 w b count row from 0)

module _ (w h : ℕ) (b : List ℕ) where
  -- a line on row row, and then the walk of the lines below it; down: the walk after a skip
  abbrev pub after_line : ℕ → LineStep → (ℕ → Walk) → (ℕ → Walk) → Walk
  after_line row (Err e) below down = fault e
  after_line row (Ok (Down k)) below down = down k
  after_line row (Ok (Row last count from)) below down = followed (line_walk w b row last count from) below

  -- n lines from offset at on, row row being the next; of the r rows down to the height, skip are stepped over first.
  -- "A packet count ends the line and moves down one row"
  unfoldable pub lines : ℕ → ℕ → ℕ → ℕ → ℕ → Walk
  unfolding line_at line_walk
  lines zero skip n row at = fault PastHeight
  lines (suc r) (suc skip) n row at = lines r skip n (row + 1) at
  lines (suc r) zero zero row at = ends at
  lines (suc r) zero (suc n) row at =
      after_line row (line_at h b at row) (λ end. lines r 0 n (row + 1) end) (λ k. lines r (k - 1) (suc n) (row + 1) (at + 2))

  -- "Line count (2), starting at row 0"; h + 1 rows, as a line may stand on row h, and is refused there
  unfoldable pub ss2 : Walk
  unfolding lines
  ss2 =
      require leb 2 (length b) else fault BodyEnds then
      lines (suc h) 0 (u16_at b 0) 0 2
