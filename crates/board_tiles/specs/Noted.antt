-- What the functions between a picture and its words note: a byte for each column of a tile row, not 0 where a pixel of that column is changed.
use Rattle.std.specs.Prelude.{ℕ, ◌+◌, ◌*◌, ◌≤◌, ◌<◌, List, ◌≡◌, Bool, not, eqb, length, get_or}
use Rattle.board_tiles.specs.Tiles.{TILE, any, changed, changed_at}
use Rattle.board_tiles.specs.Marks.{BITS}

-- the columns of the most tiles that a word has bits for
abbrev pub COLUMNS : ℕ
COLUMNS = TILE * BITS

-- what a byte tells
abbrev pub tells : ℕ → Bool
tells m = not (eqb m 0)

-- whether one of n pixels below each other, from index at on, is changed
abbrev pub below : ℕ → List ℕ → List ℕ → ℕ → ℕ → Bool
below width previous next n at = any (λ b. changed previous next (at + b * width)) n

-- whether a pixel of column x in tile row j is changed
unfoldable pub column_changed : ℕ → ℕ → List ℕ → List ℕ → ℕ → ℕ → Bool
unfolding any changed_at
column_changed width height previous next j x = any (λ b. changed_at width height previous next x (TILE * j + b)) TILE

-- whether one of the columns of tile i is noted
abbrev pub noted : List ℕ → ℕ → Bool
noted marks i = any (λ a. tells (get_or marks (TILE * i + a) 0)) TILE

-- the marks of the first width columns tell P, and those behind them are as they were
pub record Noted (before after : List ℕ) (width : ℕ) (P : ℕ → Bool) : Type 0 where
  pub long : length after ≡ length before
  pub told : (x : ℕ) → x < width → tells (get_or after x 0) ≡ P x
  pub kept : (x : ℕ) → width ≤ x → get_or after x 0 ≡ get_or before x 0

-- room for the marks of the widest row of tiles, nothing noted behind the first width columns
pub record Room (marks : List ℕ) (width : ℕ) : Type 0 where
  pub long : length marks ≡ COLUMNS
  pub clear : (x : ℕ) → width ≤ x → ◌≡◌ {A = ℕ} (get_or marks x 0) 0

-- the word that was made, and the room that is left
pub record Made (word is : ℕ) (marks : List ℕ) (width : ℕ) : Type 0 where
  pub value : word ≡ is
  pub room : Room marks width
