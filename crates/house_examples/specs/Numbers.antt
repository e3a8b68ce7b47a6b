-- Document 01, "Numbers to try (P: proved)", and numbers of the later requests: one table. `holds` computes each item from the definitions of reading and of the house form.
use Rattle.std.specs.Prelude.{ℕ, zero, suc, ◌+◌, ◌-◌, List, [], ◌∷◌, ◌++◌, Bool, true, false, ◌&&◌, eqb, length, get_or, replicate, Ok, Err}
use Rattle.words.specs.Words.{same}
use Rattle.words.specs.Writes.{Write}
use Rattle.answer.specs.Answer.{number}
use Rattle.state.specs.State.{State, blank}
use Rattle.format.specs.Format.{FLI_COLOR256, FLI_SS2, FLI_COLOR, FLI_LC, FLI_BLACK, FLI_BRUN, FLI_COPY, FLI_PSTAMP}
use Rattle.format.specs.Limits.{size_of}
use Rattle.format.specs.declared.Format.{Format}
use Rattle.format.specs.declared.Format.TheVariants.{Flc, Fli}
use Rattle.read_chunk.specs.Chunk.{sub_chunk}
use Rattle.house_rows.specs.Row.{house_bytes}
use Rattle.house_delta.specs.Delta.{delta_body}
use Rattle.house_frame.specs.House.{house_frame}
use Rattle.walk.specs.Walk.{Verdict}

-- what a body does: it is accepted and sets these bytes of the picture, or of the palette, from that index on and nothing else, or it is refused with
-- a number
pub data Effect : Type 0 where
  sets_pixels : ℕ → List ℕ → Effect
  sets_colours : ℕ → List ℕ → Effect
  refused_with : ℕ → Effect

-- an item of the table
pub data Number : Type 0 where
  -- the pixels of a row, and its BRUN packets
  row : (pixels bytes : List ℕ) → Number
  -- the pixels of a row, how many bytes its packets take, and the first of them
  row_takes : (pixels : List ℕ) (size first : ℕ) → Number
  -- a format, a size, a previous and a next state, and the frame that leads from one to the other
  writes : Format → (width height : ℕ) (old new : State) (bytes : List ℕ) → Number
  -- a format, a size, a previous and a next picture, and the body of the delta
  delta : Format → (width height : ℕ) (old new bytes : List ℕ) → Number
  -- the body of a sub-chunk of a kind, read in a picture of that format and size
  reads : Format → (width height kind : ℕ) (body : List ℕ) → Effect → Number

-- exactly one write, of v from index at on
abbrev pub is_one : List Write → ℕ → List ℕ → Bool
is_one [] at v = false
is_one (w ∷ []) at v = eqb w.at at && same w.bytes v
is_one (w ∷ (w' ∷ ws)) at v = false

abbrev pub is_none : List Write → Bool
is_none [] = true
is_none (w ∷ ws) = false

-- with these writes to the picture and to the palette
abbrev pub does : List Write → List Write → Verdict → Effect → Bool
does pixels colours (Ok end) (sets_pixels at v) = is_one pixels at v && is_none colours
does pixels colours (Ok end) (sets_colours at v) = is_none pixels && is_one colours at v
does pixels colours (Ok end) (refused_with n) = false
does pixels colours (Err e) (sets_pixels at v) = false
does pixels colours (Err e) (sets_colours at v) = false
does pixels colours (Err e) (refused_with n) = eqb (number e) n

unfoldable pub holds : Number → Bool
holds (row pixels bytes) = same (house_bytes pixels) bytes
holds (row_takes pixels size first) = eqb (length (house_bytes pixels)) size && eqb (get_or (house_bytes pixels) 0 0) first
holds (writes f w h old new bytes) = same (house_frame (size_of f w h) old new) bytes
holds (delta f w h old new bytes) = same (delta_body (size_of f w h) old new) bytes
holds (reads f w h kind body effect) =
    let c = sub_chunk (size_of f w h) kind body in
    does c.pixels c.colours c.verdict effect

unfoldable pub all : List Number → Bool
all [] = true
all (n ∷ ns) = holds n && all ns

-- a picture with the palette of blank
abbrev pub shows : List ℕ → State
shows p = record { picture = p; palette = replicate 768 0 }

-- n numbers that count up from i
unfoldable pub up_from : ℕ → ℕ → List ℕ
up_from i zero = []
up_from i (suc n) = i ∷ up_from (i + 1) n

-- a row of 320 pixels after a gap: pixels of 0, and n of 7 from column g on
abbrev pub sevens : ℕ → ℕ → List ℕ
sevens g n = replicate g 0 ++ (replicate n 7 ++ replicate (320 - g - n) 0)

-- the body of the delta of an FLI for one row
abbrev pub one_row : List ℕ → List ℕ
one_row line = 0x00 ∷ 0x00 ∷ 0x01 ∷ 0x00 ∷ line

-- a pixel of 1 and a pixel of 2, n times
unfoldable pub stripes : ℕ → List ℕ
stripes zero = []
stripes (suc n) = 1 ∷ 2 ∷ stripes n

unfoldable pub numbers : List Number
numbers =
    -- "`1 1 2` gives 02 01 01 02; `1 2 2 3` gives FC 01 02 02 03; 130 nines give 7F 09 03 09"
    row (1 ∷ 1 ∷ 2 ∷ []) (0x02 ∷ 0x01 ∷ 0x01 ∷ 0x02 ∷ [])
    ∷ row (1 ∷ 2 ∷ 2 ∷ 3 ∷ []) (0xfc ∷ 0x01 ∷ 0x02 ∷ 0x02 ∷ 0x03 ∷ [])
    ∷ row (replicate 130 9) (0x7f ∷ 0x09 ∷ 0x03 ∷ 0x09 ∷ [])
    -- "129 pixels, no neighbours equal, take 131 bytes, first packet a repeat of 1": all different, and only two colours
    ∷ row_takes (up_from 0 129) 131 1
    ∷ row_takes (2 ∷ stripes 64) 131 1
    -- "4 by 2, blank to rows `0 0 0 0`, `5 5 5 5`: 1C 00 00 00 FA F1 01 00, eight 00, 0C 00 00 00 0F 00 01 04 00 01 04 05"
    ∷ writes Flc 4 2 (blank 8) (shows (0 ∷ 0 ∷ 0 ∷ 0 ∷ 5 ∷ 5 ∷ 5 ∷ 5 ∷ []))
    (0x1c ∷ 0x00 ∷ 0x00 ∷ 0x00 ∷ 0xfa ∷ 0xf1 ∷ 0x01 ∷ 0x00 ∷ replicate 8 0x00 ++ (0x0c ∷ 0x00 ∷ 0x00 ∷ 0x00 ∷ 0x0f ∷ 0x00 ∷ 0x01 ∷ 0x04 ∷ 0x00 ∷ 0x01 ∷ 0x04 ∷ 0x05 ∷ []))
    -- "2 by 1, `0 0` to `1 2`: COPY, 8 bytes. No change at all: a 16-byte frame"
    ∷ writes Flc 2 1 (blank 2) (shows (1 ∷ 2 ∷ []))
    (0x18 ∷ 0x00 ∷ 0x00 ∷ 0x00 ∷ 0xfa ∷ 0xf1 ∷ 0x01 ∷ 0x00 ∷ replicate 8 0x00 ++ (0x08 ∷ 0x00 ∷ 0x00 ∷ 0x00 ∷ 0x10 ∷ 0x00 ∷ 0x01 ∷ 0x02 ∷ []))
    ∷ writes Flc 2 1 (shows (1 ∷ 2 ∷ [])) (shows (1 ∷ 2 ∷ [])) (0x10 ∷ 0x00 ∷ 0x00 ∷ 0x00 ∷ 0xfa ∷ 0xf1 ∷ replicate 10 0x00)
    -- "100 by 1, pixels 0 to 99, columns 10 and 11 to 0: kind 7 body 01 00 01 00 0A 01 00 00", in a frame of 30 bytes
    ∷ delta Flc 100 1 (up_from 0 100) (up_from 0 10 ++ (0 ∷ 0 ∷ up_from 12 88)) (0x01 ∷ 0x00 ∷ 0x01 ∷ 0x00 ∷ 0x0a ∷ 0x01 ∷ 0x00 ∷ 0x00 ∷ [])
    ∷ writes Flc 100 1 (shows (up_from 0 100)) (shows (up_from 0 10 ++ (0 ∷ 0 ∷ up_from 12 88)))
    (0x1e ∷ 0x00 ∷ 0x00 ∷ 0x00 ∷ 0xfa ∷ 0xf1 ∷ 0x01 ∷ 0x00 ∷ replicate 8 0x00 ++ (0x0e ∷ 0x00 ∷ 0x00 ∷ 0x00 ∷ 0x07 ∷ 0x00 ∷ 0x01 ∷ 0x00 ∷ 0x01 ∷ 0x00 ∷ 0x0a ∷ 0x01 ∷ 0x00 ∷ 0x00 ∷ []))
    -- "width 5, kind 7 body 01 00 09 80 00 00 sets column 4 to 9, nothing else"
    ∷ reads Flc 5 1 FLI_SS2 (0x01 ∷ 0x00 ∷ 0x09 ∷ 0x80 ∷ 0x00 ∷ 0x00 ∷ []) (sets_pixels 4 (9 ∷ []))
    -- "skip 255 count 1 is accepted; skip 255 count 2 is 12"
    ∷ reads Flc 1 1 FLI_COLOR256 (0x01 ∷ 0x00 ∷ 0xff ∷ 0x01 ∷ 7 ∷ 8 ∷ 9 ∷ []) (sets_colours 765 (7 ∷ 8 ∷ 9 ∷ []))
    ∷ reads Flc 1 1 FLI_COLOR256 (0x01 ∷ 0x00 ∷ 0xff ∷ 0x02 ∷ 7 ∷ 8 ∷ 9 ∷ 10 ∷ 11 ∷ 12 ∷ []) (refused_with 12)
    -- "Row skip FF FF on height 1 is 10"
    ∷ reads Flc 1 1 FLI_SS2 (0x01 ∷ 0x00 ∷ 0xff ∷ 0xff ∷ []) (refused_with 10)
    -- beside the paper's numbers, so that of each kind something is accepted: 11, 12, 13, 15 and 16; and a level over 63 is 13
    -- "0, 31, 32, 63 give 0, 125, 130, 255" (document 02, Req 02)
    ∷ reads Flc 1 1 FLI_COLOR (0x01 ∷ 0x00 ∷ 0x00 ∷ 0x02 ∷ 0 ∷ 31 ∷ 32 ∷ 63 ∷ 15 ∷ 16 ∷ []) (sets_colours 0 (0 ∷ 125 ∷ 130 ∷ 255 ∷ 60 ∷ 65 ∷ []))
    ∷ reads Flc 1 1 FLI_COLOR (0x01 ∷ 0x00 ∷ 0x00 ∷ 0x01 ∷ 64 ∷ 32 ∷ 1 ∷ []) (refused_with 13)
    ∷ reads Flc 4 1 FLI_LC (0x00 ∷ 0x00 ∷ 0x01 ∷ 0x00 ∷ 0x01 ∷ 0x01 ∷ 0x02 ∷ 5 ∷ 6 ∷ []) (sets_pixels 1 (5 ∷ 6 ∷ []))
    ∷ reads Flc 2 1 FLI_BLACK [] (sets_pixels 0 (0 ∷ 0 ∷ []))
    -- a byte of padding is no content, two are refused (document 02, Req 05)
    ∷ reads Flc 2 1 FLI_BLACK (9 ∷ []) (sets_pixels 0 (0 ∷ 0 ∷ []))
    ∷ reads Flc 2 1 FLI_BLACK (9 ∷ 9 ∷ []) (refused_with 19)
    ∷ reads Flc 1 1 FLI_SS2 (0x01 ∷ 0x00 ∷ 0x09 ∷ 0x80 ∷ 0x00 ∷ 0x00 ∷ 0 ∷ 0 ∷ []) (refused_with 19)
    ∷ reads Flc 2 1 FLI_BRUN (0x01 ∷ 0x02 ∷ 7 ∷ []) (sets_pixels 0 (7 ∷ 7 ∷ []))
    ∷ reads Flc 2 1 FLI_COPY (3 ∷ 4 ∷ []) (sets_pixels 0 (3 ∷ 4 ∷ []))
    -- the delta of an FLI (document 02, Req 06): "gaps over 255 use skip 255, type 0", gaps of 255, 256, 300, and of 511, which no FLI is wide enough for
    ∷ delta Fli 320 1 (replicate 320 0) (sevens 255 1) (one_row (0x01 ∷ 0xff ∷ 0x01 ∷ 7 ∷ []))
    ∷ delta Fli 320 1 (replicate 320 0) (sevens 256 1) (one_row (0x02 ∷ 0xff ∷ 0x00 ∷ 0x01 ∷ 0x01 ∷ 7 ∷ []))
    ∷ delta Fli 320 1 (replicate 320 0) (sevens 300 1) (one_row (0x02 ∷ 0xff ∷ 0x00 ∷ 0x2d ∷ 0x01 ∷ 7 ∷ []))
    ∷ delta Fli 512 1 (replicate 512 0) (replicate 511 0 ++ (7 ∷ [])) (one_row (0x03 ∷ 0xff ∷ 0x00 ∷ 0xff ∷ 0x00 ∷ 0x01 ∷ 0x01 ∷ 7 ∷ []))
    -- "three or more equal ones are repeated, at most 127, otherwise copied": 2, 3, 127, 128 and 130 equal pixels
    ∷ delta Fli 320 1 (replicate 320 0) (sevens 9 2) (one_row (0x01 ∷ 0x09 ∷ 0x02 ∷ 7 ∷ 7 ∷ []))
    ∷ delta Fli 320 1 (replicate 320 0) (sevens 9 3) (one_row (0x01 ∷ 0x09 ∷ 0xfd ∷ 7 ∷ []))
    ∷ delta Fli 320 1 (replicate 320 0) (sevens 9 127) (one_row (0x01 ∷ 0x09 ∷ 0x81 ∷ 7 ∷ []))
    ∷ delta Fli 320 1 (replicate 320 0) (sevens 9 128) (one_row (0x02 ∷ 0x09 ∷ 0x81 ∷ 7 ∷ 0x00 ∷ 0x01 ∷ 7 ∷ []))
    ∷ delta Fli 320 1 (replicate 320 0) (sevens 9 130) (one_row (0x02 ∷ 0x09 ∷ 0x81 ∷ 7 ∷ 0x00 ∷ 0xfd ∷ 7 ∷ []))
    -- "copied up to such a repeat, the end"
    ∷ delta Fli 8 1 (replicate 8 0) (1 ∷ 1 ∷ 2 ∷ 3 ∷ 3 ∷ 3 ∷ 4 ∷ 4 ∷ []) (one_row (0x03 ∷ 0x00 ∷ 0x03 ∷ 1 ∷ 1 ∷ 2 ∷ 0x00 ∷ 0xfd ∷ 3 ∷ 0x00 ∷ 0x02 ∷ 4 ∷ 4 ∷ []))
    -- "rows from the first changed to the last, a row without change having count 0"
    ∷ delta Fli 2 5 (replicate 10 0) (0 ∷ 0 ∷ 1 ∷ 0 ∷ 0 ∷ 0 ∷ 0 ∷ 2 ∷ 0 ∷ 0 ∷ [])
    (0x01 ∷ 0x00 ∷ 0x03 ∷ 0x00 ∷ 0x01 ∷ 0x00 ∷ 0x01 ∷ 1 ∷ 0x00 ∷ 0x01 ∷ 0x01 ∷ 0x01 ∷ 2 ∷ [])
    -- the frame with it, of 31 bytes, where an FLC has one of 30
    ∷ writes Fli 100 1 (shows (up_from 0 100)) (shows (up_from 0 10 ++ (0 ∷ 0 ∷ up_from 12 88)))
    (0x1f ∷ 0x00 ∷ 0x00 ∷ 0x00 ∷ 0xfa ∷ 0xf1 ∷ 0x01 ∷ 0x00 ∷ replicate 8 0x00 ++ (0x0f ∷ 0x00 ∷ 0x00 ∷ 0x00 ∷ 0x0c ∷ 0x00 ∷ 0x00 ∷ 0x00 ∷ 0x01 ∷ 0x00 ∷ 0x01 ∷ 0x0a ∷ 0x02 ∷ 0x00 ∷ 0x00 ∷ []))
    -- "kind 7 or 18 met is 20", before its body
    ∷ reads Fli 5 1 FLI_SS2 [] (refused_with 20)
    ∷ reads Fli 5 1 FLI_PSTAMP [] (refused_with 20)
    ∷ reads Fli 4 1 FLI_LC (0x00 ∷ 0x00 ∷ 0x01 ∷ 0x00 ∷ 0x01 ∷ 0x01 ∷ 0x02 ∷ 5 ∷ 6 ∷ []) (sets_pixels 1 (5 ∷ 6 ∷ []))
    ∷ []
