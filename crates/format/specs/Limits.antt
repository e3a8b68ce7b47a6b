-- The limits of a picture and of a reel (document 01, "What the boards need"), and a size within them. A bound that follows from a
-- limit is a definition over these.
use Rattle.std.specs.Prelude.{ℕ, zero, suc, ◌*◌, ◌≤◌, Bool, ◌&&◌, leb, eqb}
use Rattle.format.specs.declared.Format.{Format}
use Rattle.format.specs.declared.Format.TheVariants.{Flc, Fli}
use Rattle.format.specs.declared.Size.{Size}

-- "Width is 1 to 320, height 1 to 200"
abbrev pub max_width : ℕ
max_width = 320

abbrev pub max_height : ℕ
max_height = 200

-- the most pixels of a picture
abbrev pub max_area : ℕ
max_area = max_width * max_height

-- "frames 1 to 4,000"
abbrev pub max_frames : ℕ
max_frames = 4000

abbrev pub size_ok : ℕ → ℕ → Bool
size_ok width height = leb 1 width && (leb width max_width && (leb 1 height && leb height max_height))

-- the same by the format: "These take FLI only: .. size not 320 by 200 is 2" (document 02, Req 06)
abbrev pub size_in : Format → ℕ → ℕ → Bool
size_in Flc width height = size_ok width height
size_in Fli width height = eqb width 320 && eqb height 200

abbrev pub size_fits : Size → Bool
size_fits z = size_in z.format z.width z.height

-- the number of a format at the C boundary: "0 FLC, any other number FLI"
abbrev pub format_from : ℕ → Format
format_from zero = Flc
format_from (suc n) = Fli

abbrev pub format_number : Format → ℕ
format_number Flc = 0
format_number Fli = 1

abbrev pub size_of : Format → ℕ → ℕ → Size
size_of f w h = record { width = w; height = h; format = f }

-- the pixels of a picture of that size
abbrev pub area : Size → ℕ
area z = z.width * z.height

-- a width or a column, and a height or a row, that are not past the limits
abbrev pub Wide : ℕ → Type 0
Wide x = x ≤ max_width

abbrev pub High : ℕ → Type 0
High y = y ≤ max_height

-- a size in range, and what follows for its area
pub record Sized (width height : ℕ) : Type 0 where
  pub some_wide : 1 ≤ width
  pub wide : Wide width
  pub some_high : 1 ≤ height
  pub high : High height
  pub area : width * height ≤ max_area
