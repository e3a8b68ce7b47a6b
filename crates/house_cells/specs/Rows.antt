-- Rows of two pictures by their place: what the contracts of the functions below a body cite.
use Rattle.std.specs.Prelude.{ℕ, ◌+◌, ◌*◌, List, take, drop}
use Rattle.house_cells.specs.Cells.{Cell, cells_at, Stretch}

-- a row as it was and as it is to be
abbrev pub row : List ℕ → List ℕ → Cell
row a b = record { old = a; new = b }

-- row r, of w pixels
abbrev pub row_at : ℕ → ℕ → List ℕ → List ℕ → Cell
row_at w r p q = row (take w (drop (r * w) p)) (take w (drop (r * w) q))

-- the stretch of n changed rows after row i and a gap of g
abbrev pub stretch_at : ℕ → ℕ → ℕ → ℕ → List ℕ → List ℕ → Stretch
stretch_at w i g n p q = record { gap = g; changed = cells_at w (i + g) n p q }
