-- Tiles of a picture, and which of them have a changed pixel (document 02, Req 07): "tiles of 8 by 8 pixels, right and bottom ones cut short".
use Rattle.std.specs.Prelude.{ℕ, zero, suc, ◌+◌, ◌*◌, ◌/◌, List, Bool, false, not, ◌&&◌, ◌||◌, eqb, ltb, get_or}

abbrev pub TILE : ℕ
TILE = 8

-- how many tiles lie along n pixels, the last one cut short
abbrev pub tiles : ℕ → ℕ
tiles n = (n + 7) / TILE

-- whether one of the numbers below n has a property
unfoldable pub any : (ℕ → Bool) → ℕ → Bool
any P zero = false
any P (suc n) = any P n || P n

-- whether the pixel of that index is changed
abbrev pub changed : List ℕ → List ℕ → ℕ → Bool
changed previous next k = not (eqb (get_or previous k 0) (get_or next k 0))

-- whether the picture, "row by row", has a pixel at column x of row y and it is changed
unfoldable pub changed_at : ℕ → ℕ → List ℕ → List ℕ → ℕ → ℕ → Bool
changed_at width height previous next x y = ltb x width && (ltb y height && changed previous next (y * width + x))

-- whether tile i of tile row j has a changed pixel
unfoldable pub tile_changed : ℕ → ℕ → List ℕ → List ℕ → ℕ → ℕ → Bool
unfolding any changed_at
tile_changed width height previous next j i =
    any (λ a. any (λ b. changed_at width height previous next (TILE * i + a) (TILE * j + b)) TILE) TILE
