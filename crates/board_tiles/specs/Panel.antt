-- What is shown of tile maps (document 02, Req 07): what a panel relies on that redraws the marked tiles and nothing else.
use Rattle.std.specs.Prelude.{ℕ, zero, suc, ◌+◌, ◌*◌, ◌/◌, ◌%◌, ◌≤◌, ◌<◌, List, [], ◌∷◌, ◌≡◌, true, false, cond, get_or, take, drop, replicate}
use Rattle.board_tiles.specs.Tiles.{TILE, tiles, changed, tile_changed}
use Rattle.board_tiles.specs.Marks.{marked, count_of, tile_row}
use Rattle.board_tiles.specs.Mapping.{tile_map}

-- "The counts summed"
unfoldable pub counted : List ℕ → ℕ
unfolding tile_row
counted [] = 0
counted (word ∷ words) = (tile_row word).count + counted words

-- "the number of tiles with a change", each counted by its place in the picture: tile t stands in row t / (tiles width), from the left as the rest says
unfoldable pub tiles_changed : ℕ → ℕ → List ℕ → List ℕ → ℕ
unfolding count_of tile_changed
tiles_changed width height previous next = count_of (λ t. tile_changed width height previous next (t / tiles width) (t % tiles width)) (tiles width * tiles height)

-- the pixel of index k after the marked tiles were redrawn: the next picture's in a marked tile, else the previous one's
abbrev pub redrawn_at : ℕ → List ℕ → List ℕ → List ℕ → ℕ → ℕ
redrawn_at width words previous next k = cond (marked (get_or words (k / width / TILE) 0) (k % width / TILE)) (get_or next k 0) (get_or previous k 0)

-- n pixels from index k on
unfoldable pub redrawn : ℕ → List ℕ → List ℕ → List ℕ → ℕ → ℕ → List ℕ
redrawn width words previous next k zero = []
redrawn width words previous next k (suc n) = redrawn_at width words previous next k ∷ redrawn width words previous next (suc k) n

-- a changed pixel of tile i in tile row j
pub record ChangedPixel (width height : ℕ) (previous next : List ℕ) (j i : ℕ) : Type 0 where
  pub column : ℕ
  pub row : ℕ
  pub column_in : column < width
  pub row_in : row < height
  pub column_of : column / TILE ≡ i
  pub row_of : row / TILE ≡ j
  pub is_changed : changed previous next (row * width + column) ≡ true

-- of a word
pub record WordHolds (word : ℕ) : Type 0 where
  -- "A row without marks gives 64 for both"
  pub none_first : word ≡ 0 → (tile_row word).first ≡ 64
  pub none_last : word ≡ 0 → (tile_row word).last ≡ 64
  -- else the first and the last are marked
  pub first_marked : 0 < word → marked word (tile_row word).first ≡ true
  pub last_marked : 0 < word → marked word (tile_row word).last ≡ true
  -- and nothing outside them is
  pub between : (i : ℕ) → marked word i ≡ true → ((tile_row word).first ≤ i) × (i ≤ (tile_row word).last)

-- of a call that was done; after: the words as it left them
pub record MapHolds (width height : ℕ) (previous next words after : List ℕ) : Type 0 where
  -- "bit i set exactly if tile i has a changed pixel": a changed pixel marks its tile, and a marked tile has one
  pub marks : (x y : ℕ) → x < width → y < height → changed previous next (y * width + x) ≡ true → marked (get_or after (y / TILE) 0) (x / TILE) ≡ true
  pub only : (j i : ℕ) → j < tiles height → marked (get_or after j 0) i ≡ true → ChangedPixel width height previous next j i
  -- no word has a bit at or past the number of tiles in a row
  pub past : (j i : ℕ) → j < tiles height → tiles width ≤ i → marked (get_or after j 0) i ≡ false
  -- words past the tile rows stay
  pub rest : drop (tiles height) after ≡ drop (tiles height) words
  -- "The counts summed are the number of tiles with a change"
  pub counts : counted (take (tiles height) after) ≡ tiles_changed width height previous next
  -- equal pictures give only zeros
  pub equal : take (width * height) previous ≡ take (width * height) next → take (tiles height) after ≡ replicate (tiles height) 0
  -- redrawing the marked tiles of the previous picture from the next gives the next
  pub redraws : redrawn width after previous next 0 (width * height) ≡ take (width * height) next

-- what a call leaves in the words
abbrev pub words_after : ℕ → ℕ → List ℕ → List ℕ → List ℕ → List ℕ
words_after width height previous next words = (tile_map width height previous next words).memory.bytes
