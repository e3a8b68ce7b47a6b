-- Words of marks (document 02, Req 07): which tiles of a row are marked, how many, the first and the last.
use Rattle.std.specs.Prelude.{ℕ, zero, suc, ◌+◌, ◌*◌, ◌/◌, ◌%◌, ◌^◌, Bool, cond, eqb}
use Rattle.board_tiles.specs.declared.TileRow.{TileRow}

-- "64-bit word"
abbrev pub BITS : ℕ
BITS = 64

abbrev pub bit : Bool → ℕ
bit t = cond t 1 0

-- the word of n tiles: "bit i set exactly if tile i" has the property
unfoldable pub word_of : (ℕ → Bool) → ℕ → ℕ
word_of P zero = 0
word_of P (suc n) = bit (P n) * 2 ^ n + word_of P n

-- whether tile i is marked in a word
abbrev pub marked : ℕ → ℕ → Bool
marked word i = eqb (word / 2 ^ i % 2) 1

-- how many of the numbers below n have the property
unfoldable pub count_of : (ℕ → Bool) → ℕ → ℕ
count_of P zero = 0
count_of P (suc n) = bit (P n) + count_of P n

-- the first of n numbers from i on that has the property, or 64
unfoldable pub first_from : (ℕ → Bool) → ℕ → ℕ → ℕ
first_from P zero i = BITS
first_from P (suc n) i = cond (P i) i (first_from P n (suc i))

-- the last of the numbers below n that has the property, or 64
unfoldable pub last_of : (ℕ → Bool) → ℕ → ℕ
last_of P zero = BITS
last_of P (suc n) = cond (P n) n (last_of P n)

-- "the number of marked tiles in a row, and the first and last marked one. A row without marks gives 64 for both."
unfoldable pub tile_row : ℕ → TileRow
unfolding count_of first_from last_of
tile_row word = record { count = count_of (marked word) BITS; first = first_from (marked word) BITS 0; last = last_of (marked word) BITS }
