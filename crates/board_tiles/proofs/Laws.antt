-- Laws of `any`, of tiles and of the map's refusals.
use mathlib.Core.Path.{◌≡◌, refl, sym, ap, ap₂, ◌∙◌}
use mathlib.Core.List.{List, [], ◌∷◌}
use mathlib.Core.Bool.{Bool, true, false, ◌||◌}
use Prim.Native.Nat.{ℕ, zero, suc, ◌+◌, ◌*◌, ◌≤◌, ◌<◌}
use native.Mathlib.Omega.{arith}
use borrow.Author.Tests.{lt-ltb, le-ltb, le-leb, lt-leb, leb-true, leb-false}
use lib.Dec.{leb}
use lib.ListN.{length}
use Rattle.words.proofs.Tests.{by_test}
use Rattle.format.specs.Limits.{size_ok}
use Rattle.answer.specs.declared.Refusal.TheVariants.{ShortSlice, BadSize}
use Rattle.state.specs.Outcome.{lent_bytes, refuse, fitted}
use Rattle.std.specs.Int.{div_ceil}
use Rattle.board_tiles.specs.Tiles.{TILE, tiles, any, changed, changed_at}
use Rattle.board_tiles.specs.Mapping.{tile_word, words_from, tile_words, tile_map}

-- any

pub any_ext : (P Q : ℕ → Bool) (n : ℕ) → ((k : ℕ) → k < n → P k ≡ Q k) → any P n ≡ any Q n
unfolding any
any_ext P Q zero h = refl
any_ext P Q (suc n) h = ap₂ (λ (s t : Bool). s || t) (any_ext P Q n (λ k i. h k (omega arith))) (h n (omega arith))

-- nothing from m on has the property
pub any_cut : (P : ℕ → Bool) (m n : ℕ) → m ≤ n → ((k : ℕ) → m ≤ k → k < n → P k ≡ false) → any P m ≡ any P n
unfolding any
any_cut P m zero l h = ap (any P) (let e : m ≡ 0 = omega arith in e)
any_cut P m (suc n) l h =
    by_test (λ _. any P m ≡ any P (suc n)) (leb m n)
    (λ e. let i = leb-true m n e in any_cut P m n i (λ k a b. h k a (omega arith)) ∙ sym (last (any P n) (P n) (h n i (omega arith))))
    (λ e. let i = leb-false m n e in let s : m ≡ suc n = omega arith in ap (any P) s)
  where
    last : (s t : Bool) → t ≡ false → (s || t) ≡ s
    last true t e = refl
    last false t e = e

pub any_none : (P : ℕ → Bool) (n : ℕ) → ((k : ℕ) → k < n → P k ≡ false) → any P n ≡ false
unfolding any
any_none P n h = sym (any_cut P 0 n (omega arith) (λ k a b. h k b))

-- how many tiles lie along n pixels, as the code divides

pub tiles_ceil : (n : ℕ) → div_ceil n TILE ≡ tiles n
tiles_ceil n = omega arith

-- changed_at

module _ (w h : ℕ) (p q : List ℕ) (x y : ℕ) where
  pub changed_in : x < w → y < h → changed_at w h p q x y ≡ changed p q (y * w + x)
  unfolding changed_at
  changed_in i k = rw (lt-ltb x w i, lt-ltb y h k)

  pub changed_right : w ≤ x → changed_at w h p q x y ≡ false
  unfolding changed_at
  changed_right i = rw (le-ltb x w i)

  pub changed_under : x < w → h ≤ y → changed_at w h p q x y ≡ false
  unfolding changed_at
  changed_under i k = rw (lt-ltb x w i, le-ltb y h k)

-- words_from

module _ (w h : ℕ) (p q : List ℕ) where
  pub words_more : (j n : ℕ) → words_from w h p q j (suc n) ≡ tile_word w h p q j ∷ words_from w h p q (suc j) n
  unfolding words_from
  words_more j n = refl

  pub words_none : (j : ℕ) → words_from w h p q j 0 ≡ []
  unfolding words_from
  words_none j = refl

  pub length_words : (j n : ℕ) → length (words_from w h p q j n) ≡ n
  unfolding words_from
  length_words j zero = refl
  length_words j (suc n) = ap suc (length_words (suc j) n)

  -- tile_map, by its tests
  module _ (words : List ℕ) where
    pub map_size : size_ok w h ≡ false → refuse BadSize 0 (lent_bytes words) ≡ tile_map w h p q words
    unfolding tile_map
    map_size e = rw e

    module _ (ok : size_ok w h ≡ true) where
      pub map_previous : length p < w * h → refuse ShortSlice 0 (lent_bytes words) ≡ tile_map w h p q words
      unfolding tile_map
      map_previous k = rw (ok, lt-leb (w * h) (length p) k)

      module _ (k : w * h ≤ length p) where
        pub map_next : length q < w * h → refuse ShortSlice 0 (lent_bytes words) ≡ tile_map w h p q words
        unfolding tile_map
        map_next l = rw (ok, le-leb (w * h) (length p) k, lt-leb (w * h) (length q) l)

        pub map_fitted : w * h ≤ length q → fitted (tile_words w h p q) words ≡ tile_map w h p q words
        unfolding tile_map
        map_fitted l = rw (ok, le-leb (w * h) (length p) k, le-leb (w * h) (length q) l)
