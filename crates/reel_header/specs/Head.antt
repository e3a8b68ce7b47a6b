-- The 128-byte header of a reel as a reader checks it (document 001, "The FLC file header"; document 01, "Refusal numbers"; document 02, Req 06).
use Rattle.std.specs.Prelude.{ℕ, List, Bool, ◌&&◌, ◌||◌, cond, length, leb, eqb, Ok, Err, Result}
use Rattle.words.specs.Words.{require◌else◌then◌, u16_at, u32_at}
use Rattle.format.specs.Limits.{size_fits, size_of, max_frames}
use Rattle.format.specs.Format.{FLC_MAGIC, FLI_MAGIC}
use Rattle.format.specs.declared.Format.{Format}
use Rattle.format.specs.declared.Format.TheVariants.{Flc, Fli}
use Rattle.format.specs.declared.Size.{Size}
use Rattle.delay.specs.declared.Milliseconds.{Milliseconds}
use Rattle.delay.specs.Delay.{jiffies, milliseconds, in_milliseconds}
use Rattle.answer.specs.declared.Refusal.TheVariants.{Cut, WrongType, SmallSize, BadSize, BadHeader}
use Rattle.chunks.specs.Spans.{HEADER_BYTES}
use Rattle.reel_header.specs.declared.Head.{Head}
use Rattle.reel_header.specs.declared.Takes.{Takes}
use Rattle.reel_header.specs.declared.Takes.TheVariants.{FlcOnly, Both}
use Rattle.answer.specs.declared.Refusal.{Refusal}

-- where document 001's table has the fields: size, speed, created, creator, updated, updater and both oframes have 4 bytes, the others 2
abbrev pub SIZE_AT : ℕ
SIZE_AT = 0

abbrev pub MAGIC_AT : ℕ
MAGIC_AT = 4

abbrev pub FRAMES_AT : ℕ
FRAMES_AT = 6

abbrev pub WIDTH_AT : ℕ
WIDTH_AT = 8

abbrev pub HEIGHT_AT : ℕ
HEIGHT_AT = 10

abbrev pub DEPTH_AT : ℕ
DEPTH_AT = 12

abbrev pub FLAGS_AT : ℕ
FLAGS_AT = 14

abbrev pub SPEED_AT : ℕ
SPEED_AT = 16

abbrev pub CREATOR_AT : ℕ
CREATOR_AT = 26

abbrev pub UPDATER_AT : ℕ
UPDATER_AT = 34

abbrev pub ASPECTX_AT : ℕ
ASPECTX_AT = 38

abbrev pub ASPECTY_AT : ℕ
ASPECTY_AT = 40

abbrev pub OFRAME1_AT : ℕ
OFRAME1_AT = 80

abbrev pub OFRAME2_AT : ℕ
OFRAME2_AT = 84

-- the depth of every reel, and the flags of a finished one: "flags 3", and of an FLI "flags 0" (document 02, Req 06)
abbrev pub DEPTH : ℕ
DEPTH = 8

abbrev pub finished : Format → ℕ
finished Flc = 3
finished Fli = 0

-- refusal 14: "depth not 8, frame count out of range, or flags not 3"; "FLI flags not 0 is 14"
abbrev pub form_ok : Format → ℕ → ℕ → ℕ → Bool
form_ok format depth frames flags = eqb depth DEPTH && (leb 1 frames && (leb frames max_frames && eqb flags (finished format)))

-- whether a file's magic is one that is taken: "The whole-reel check and a player's start go by the magic, 5 there meaning neither"; "Listing,
-- trailers and later work that checks a trailer stay FLC"
abbrev pub magic_ok : Takes → ℕ → Bool
magic_ok Both magic = eqb magic FLC_MAGIC || eqb magic FLI_MAGIC
magic_ok FlcOnly magic = eqb magic FLC_MAGIC

-- the format of a file by its magic
abbrev pub format_of : ℕ → Format
format_of magic = cond (eqb magic FLI_MAGIC) Fli Flc

-- a speed as the format's header has it, in milliseconds: "delay in jiffies of 1/70 second" of an FLI
abbrev pub delay_in : Format → ℕ → Milliseconds
delay_in Flc speed = milliseconds speed
delay_in Fli speed = in_milliseconds (jiffies speed)

-- the delay from frame to frame: of an FLI "2 bytes at offset 16"
abbrev pub delay_at : Format → List ℕ → Milliseconds
delay_at Flc b = delay_in Flc (u32_at b SPEED_AT)
delay_at Fli b = delay_in Fli (u16_at b SPEED_AT)

-- the format, the width and the height in a file's header
abbrev pub format_at : List ℕ → Format
format_at b = format_of (u16_at b MAGIC_AT)

abbrev pub size_at : List ℕ → Size
size_at b = size_of (format_at b) (u16_at b WIDTH_AT) (u16_at b HEIGHT_AT)

-- what a header says: pictures of this size, so many frames, a file of so many bytes, and this delay
abbrev pub head_with : Size → ℕ → ℕ → Milliseconds → Head
head_with picture frames size speed = record { picture = picture; frames = frames; size = size; speed = speed }

-- a reel's header, or its first fault
abbrev pub Headed : Type 0
Headed = Result Head Refusal

-- "Reel: 4, 5, size field 6 then 4, 2, 14"
unfoldable pub head_of : Takes → List ℕ → Headed
head_of takes b =
    require leb HEADER_BYTES (length b) else Err Cut then
    require magic_ok takes (u16_at b MAGIC_AT) else Err WrongType then
    require leb HEADER_BYTES (u32_at b SIZE_AT) else Err SmallSize then
    require leb (u32_at b SIZE_AT) (length b) else Err Cut then
    require size_fits (size_at b) else Err BadSize then
    require form_ok (format_at b) (u16_at b DEPTH_AT) (u16_at b FRAMES_AT) (u16_at b FLAGS_AT) else Err BadHeader then
    Ok (head_with (size_at b) (u16_at b FRAMES_AT) (u32_at b SIZE_AT) (delay_at (format_at b) b))
