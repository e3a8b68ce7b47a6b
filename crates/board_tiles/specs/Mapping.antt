-- The map of a picture's tiles (document 02, Req 07): what the call leaves behind.
use Rattle.std.specs.Prelude.{ℕ, zero, suc, ◌*◌, List, [], ◌∷◌, ◌&&◌, leb, length}
use Rattle.words.specs.Words.{require◌else◌then◌}
use Rattle.format.specs.Limits.{size_ok}
use Rattle.answer.specs.declared.Refusal.TheVariants.{ShortSlice, BadSize}
use Rattle.state.specs.Outcome.{Outcome, lent_bytes, refuse, fitted}
use Rattle.board_tiles.specs.Tiles.{tiles, tile_changed}
use Rattle.board_tiles.specs.Marks.{word_of}

-- the word of tile row j
abbrev pub tile_word : ℕ → ℕ → List ℕ → List ℕ → ℕ → ℕ
tile_word width height previous next j = word_of (tile_changed width height previous next j) (tiles width)

-- the words of n tile rows from row j on
unfoldable pub words_from : ℕ → ℕ → List ℕ → List ℕ → ℕ → ℕ → List ℕ
unfolding tile_changed word_of
words_from width height previous next j zero = []
words_from width height previous next j (suc n) = tile_word width height previous next j ∷ words_from width height previous next (suc j) n

-- "From a previous and a next picture give one 64-bit word a tile row"
abbrev pub tile_words : ℕ → ℕ → List ℕ → List ℕ → List ℕ
tile_words width height previous next = words_from width height previous next 0 (tiles height)

-- "Refusals: 2, 1, then 3 if fewer words are lent than tile rows"; words past the tile rows stay
unfoldable pub tile_map : ℕ → ℕ → List ℕ → List ℕ → List ℕ → Outcome
unfolding words_from
tile_map width height previous next words =
    require size_ok width height else refuse BadSize 0 (lent_bytes words) then
    require leb (width * height) (length previous) && leb (width * height) (length next) else refuse ShortSlice 0 (lent_bytes words) then
    fitted (tile_words width height previous next) words
