-- The 128-byte header of a reel as it is written and closed (document 001, "The FLC file header"; document 01, "Reels and the trailer"; document 02, Req 06).
use Rattle.std.specs.Prelude.{ℕ, ◌+◌, ◌≤◌, ◌<◌, List, [], ◌++◌, ◌&&◌, cond, ◌≡◌, ◌⊎◌, eqb, replicate}
use Rattle.words.specs.Words.{u32_at, le16, le32}
use Rattle.words.specs.Writes.{put}
use Rattle.format.specs.Format.{FLC_MAGIC, FLI_MAGIC}
use Rattle.format.specs.declared.Format.{Format}
use Rattle.format.specs.declared.Format.TheVariants.{Flc, Fli}
use Rattle.delay.specs.declared.Jiffies.{Jiffies}
use Rattle.delay.specs.declared.Milliseconds.{Milliseconds}
use Rattle.delay.specs.Delay.{jiffies, milliseconds}
use Rattle.chunks.specs.Spans.{HEADER_BYTES}
use Rattle.reel_header.specs.Head.{SIZE_AT, FRAMES_AT, FLAGS_AT, OFRAME1_AT, OFRAME2_AT, DEPTH, finished}

-- "aspect 1:1 (6:5 at 320 by 200)": one side of it, x at 320 by 200
abbrev pub aspect : ℕ → ℕ → ℕ → ℕ
aspect w h x = cond (eqb w 320 && eqb h 200) x 1

-- "creator and updater hex 464C4942"
abbrev pub FLIB : ℕ
FLIB = 0x464C4942

-- n bytes "set to zeroes", in front of b
abbrev pub zeroes : ℕ → List ℕ → List ℕ
zeroes n b = replicate n 0 ++ b

-- document 001's table, field by field: size, magic, frames, width, height, depth, flags, speed, reserved, created, creator, updated, updater,
-- aspectx, aspecty, reserved, oframe1, oframe2, reserved; "created and updated 0", "Speed is the caller's"
unfoldable pub file_header : ℕ → ℕ → ℕ → ℕ → ℕ → ℕ → ℕ → ℕ → List ℕ
file_header size frames w h flags speed oframe1 oframe2 =
    le32 size
    (le16 FLC_MAGIC
    (le16 frames
    (le16 w
    (le16 h
    (le16 DEPTH
    (le16 flags
    (le32 speed
    (zeroes 2
    (le32 0
    (le32 FLIB
    (le32 0
    (le32 FLIB
    (le16 (aspect w h 6)
    (le16 (aspect w h 5)
    (zeroes 38
    (le32 oframe1
    (le32 oframe2
    (zeroes 40 []))))))))))))))))))

-- an FLI's (document 02, Req 06): size, magic, frames, width, height, depth, flags, speed in jiffies, and "bytes 18 to 127 written 0"
unfoldable pub fli_header : ℕ → ℕ → ℕ → ℕ → ℕ → List ℕ
fli_header size frames w h speed =
    le32 size (le16 FLI_MAGIC (le16 frames (le16 w (le16 h (le16 DEPTH (le16 (finished Fli) (le16 speed (zeroes 110 []))))))))

-- magic, width, height and depth, and zeros: what both have in common before the close (only inner contracts cite this)
unfoldable pub blank_header : ℕ → ℕ → ℕ → List ℕ
blank_header magic w h = le32 0 (le16 magic (le16 0 (le16 w (le16 h (le16 DEPTH (zeroes 114 []))))))

-- "Size, frames, flags and both oframes are 0 until the close"
unfoldable pub opened : ℕ → ℕ → Milliseconds → List ℕ
unfolding file_header
opened w h speed = file_header 0 0 w h 0 speed.0 0 0

unfoldable pub opened_fli : ℕ → ℕ → Jiffies → List ℕ
unfolding fli_header
opened_fli w h speed = fli_header 0 0 w h speed.0

-- the same by the format; speed in its own unit
unfoldable pub opened_in : Format → ℕ → ℕ → ℕ → List ℕ
unfolding opened opened_fli
opened_in Flc w h speed = opened w h (milliseconds speed)
opened_in Fli w h speed = opened_fli w h (jiffies speed)

-- "oframe1 128, oframe2 the second frame chunk (the ring, if there is one frame)": where frame 1 ends, by its size field
unfoldable pub second_at : List ℕ → ℕ
second_at b = HEADER_BYTES + u32_at b HEADER_BYTES

-- the size and the frames, which every close sets
abbrev pub counted : ℕ → ℕ → List ℕ → List ℕ
counted size frames b = put (put b SIZE_AT (le32 size [])) FRAMES_AT (le16 frames [])

-- the flags and both oframes, which the close of an FLC sets
abbrev pub flagged : ℕ → List ℕ → List ℕ
flagged second b = put (put (put b FLAGS_AT (le16 (finished Flc) [])) OFRAME1_AT (le32 HEADER_BYTES [])) OFRAME2_AT (le32 second [])

-- "Size, frames, flags and both oframes are 0 until the close, which sets no other header byte"; "flags 3 at the close". Of an FLI's header a close
-- sets size and frames alone
unfoldable pub closed_header : Format → ℕ → ℕ → ℕ → List ℕ → List ℕ
closed_header Flc size frames second b = flagged second (counted size frames b)
closed_header Fli size frames second b = counted size frames b

-- a byte of the header that lies in none of the fields that a close sets
pub record Other (f : Format) (i : ℕ) : Type 0 where
  pub in_header : i < HEADER_BYTES
  pub not_size : 4 ≤ i
  pub not_frames : (i < 6) ⊎ (8 ≤ i)
  pub not_flags : f ≡ Flc → (i < 14) ⊎ (16 ≤ i)
  pub not_oframes : f ≡ Flc → (i < 80) ⊎ (88 ≤ i)

-- the header of a closed file by its format; speed in its own unit, second: where the second frame chunk lies
unfoldable pub header_in : Format → ℕ → ℕ → ℕ → ℕ → ℕ → ℕ → List ℕ
unfolding file_header fli_header
header_in Flc size frames w h speed second = file_header size frames w h (finished Flc) speed HEADER_BYTES second
header_in Fli size frames w h speed second = fli_header size frames w h speed
