-- The magic of a file, the types of its chunks, the kinds of sub-chunks, by the names of document 001, and the levels of kind 11.
use Rattle.std.specs.Prelude.{ℕ, ◌+◌, ◌*◌, ◌/◌}

-- hex AF12
abbrev pub FLC_MAGIC : ℕ
FLC_MAGIC = 44818

-- hex AF11: "magic AF11" (document 02, Req 06)
abbrev pub FLI_MAGIC : ℕ
FLI_MAGIC = 44817

-- hex F1FA
abbrev pub FRAME_TYPE : ℕ
FRAME_TYPE = 61946

-- hex F100
abbrev pub PREFIX_TYPE : ℕ
PREFIX_TYPE = 61696

abbrev pub FLI_COLOR256 : ℕ
FLI_COLOR256 = 4

abbrev pub FLI_SS2 : ℕ
FLI_SS2 = 7

abbrev pub FLI_COLOR : ℕ
FLI_COLOR = 11

abbrev pub FLI_LC : ℕ
FLI_LC = 12

abbrev pub FLI_BLACK : ℕ
FLI_BLACK = 13

abbrev pub FLI_BRUN : ℕ
FLI_BRUN = 15

abbrev pub FLI_COPY : ℕ
FLI_COPY = 16

-- the postage stamp
abbrev pub FLI_PSTAMP : ℕ
FLI_PSTAMP = 18

-- "a kind 11 component over 63" is refused
abbrev pub max_level : ℕ
max_level = 63

-- one of 64 levels as one of 256, so that 63 is 255 (document 02, Req 02): "A 64-level component c becomes 4c plus c divided by 16, rounded down"
unfoldable pub raised : ℕ → ℕ
raised c = 4 * c + c / 16
