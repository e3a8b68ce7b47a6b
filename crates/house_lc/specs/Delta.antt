-- The house form's delta of an FLI (document 02, Req 06): "kind 12 in Req 04's form". A row's line is `line`.
use Rattle.std.specs.Prelude.{ℕ, suc, ◌+◌, ◌-◌, ◌*◌, ◌&&◌, cond, eqb}
use mathlib.Core.List.{List, [], ◌∷◌, flat_map}
use Rattle.words.specs.Words.{le16}
use Rattle.format.specs.Limits.{max_height}
use Rattle.house_cells.specs.Cells.{Cell, cells, cells_at, stays, run}
use Rattle.house_cells.specs.declared.Sought.TheVariants.{Unchanged}
use Rattle.house_lc.specs.Line.{line, line_most}

-- how many cells there are up to and with the last changed one, 0 if none is changed
unfoldable pub up_to_last : List Cell → ℕ
up_to_last [] = 0
up_to_last (c ∷ cs) = cond (eqb (up_to_last cs) 0 && stays c) 0 (suc (up_to_last cs))

module _ (width height : ℕ) (previous next : List ℕ) where
  -- the first changed row, and how many rows there are "from the first changed to the last"; where none is changed, the height and 0
  unfoldable pub first_row : ℕ
  unfolding run
  first_row = run Unchanged (cells width height previous next)

  unfoldable pub row_count : ℕ
  unfolding first_row up_to_last
  row_count = up_to_last (cells width height previous next) - first_row

  -- "rows from the first changed to the last", behind "First row (2), row count (2)" (document 01, 12 LC)
  unfoldable pub delta_body : List ℕ
  unfolding row_count line flat_map
  delta_body = le16 first_row (le16 row_count (flat_map (line width) (cells_at width first_row row_count previous next)))

-- it has no more bytes: the first row, the row count, and a line for each row
abbrev pub delta_most : ℕ
delta_most = 4 + line_most * max_height
