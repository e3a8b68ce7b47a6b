-- The house form's delta (document 01, "House form of a frame", Delta): kind 7. A row's line is `line`.
use Rattle.std.specs.Prelude.{ℕ, zero, suc, ◌+◌, ◌-◌, ◌*◌, length}
use mathlib.Core.List.{List, [], ◌++◌, flat_map}
use Rattle.words.specs.Words.{le16}
use Rattle.format.specs.Limits.{max_height}
use Rattle.house_cells.specs.Cells.{Cell, cells, Stretch, stretches}
use Rattle.house_ss2.specs.Line.{line, line_most}

-- the lines of rows of width pixels
abbrev pub lines : ℕ → List Cell → List ℕ
lines width = flat_map (line width)

-- "one skip word before each gap", that of a gap of g rows
unfoldable pub skip_word : ℕ → List ℕ
skip_word zero = []
skip_word (suc g) = le16 (65536 - suc g) []

-- a stretch of changed rows after its gap
unfoldable pub stretch_lines : ℕ → Stretch → List ℕ
unfolding skip_word
stretch_lines width s = skip_word s.gap ++ lines width s.changed

-- the stretches of changed rows from the previous picture to the next
unfoldable pub changed_rows : ℕ → ℕ → List ℕ → List ℕ → List Stretch
changed_rows width height previous next = stretches (cells width height previous next)

-- how many rows are changed
unfoldable pub line_count : ℕ → ℕ → List ℕ → List ℕ → ℕ
unfolding changed_rows flat_map
line_count width height previous next = length (flat_map (λ (s : Stretch). s.changed) (changed_rows width height previous next))

-- "Only rows with a change, one skip word before each gap, none after the last", and the line count in front of them
unfoldable pub delta_body : ℕ → ℕ → List ℕ → List ℕ → List ℕ
unfolding line_count stretch_lines
delta_body width height previous next =
    le16 (line_count width height previous next) (flat_map (stretch_lines width) (changed_rows width height previous next))

-- it has no more bytes: the line count, and a skip word and a line for each row
abbrev pub delta_most : ℕ
delta_most = 2 + (2 + line_most) * max_height
