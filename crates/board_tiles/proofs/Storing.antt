-- The loop that stores the words: what it has stored and what is left make up the whole.
use mathlib.Core.Path.{◌≡◌, refl, sym, ap, ap₂, ◌∙◌}
use mathlib.Core.List.{List, [], ◌∷◌, ◌++◌}
use Prim.Native.Nat.{ℕ, suc, ◌+◌, ◌-◌, ◌≤◌, ◌<◌}
use native.Mathlib.Omega.{arith}
use lib.ListN.{length, set}
use Rattle.words.specs.Writes.{put}
use Rattle.words.proofs.Laws.{put_one, put_nil, put_append}
use Rattle.board_tiles.specs.Tiles.{tiles}
use Rattle.board_tiles.specs.Mapping.{tile_word, words_from, tile_words}
use Rattle.board_tiles.specs.Noted.{Room}
use Rattle.board_tiles.proofs.Laws.{words_more, words_none}

-- the words of the tile rows up to row j are stored
pub record Storing (out₀ p q : List ℕ) (w h : ℕ) (out marks : List ℕ) (j : ℕ) : Type 0 where
  pub room : Room marks w
  pub whole : put out₀ 0 (tile_words w h p q) ≡ put out j (words_from w h p q j (tiles h - j))

module _ (out₀ p q : List ℕ) (w h : ℕ) where
  pub storing_first : (marks : List ℕ) → Room marks w → Storing out₀ p q w h out₀ marks 0
  storing_first marks r = record {
    room = r;
    whole = ap (λ (n : ℕ). put out₀ 0 (words_from w h p q 0 n)) (let e : tiles h ≡ tiles h - 0 = omega arith in e);
  }

  module _ (out marks : List ℕ) (j : ℕ) (v : Storing out₀ p q w h out marks j) where
    -- one word more
    pub storing_again : j < tiles h → tiles h ≤ length out → (x : ℕ) → x ≡ tile_word w h p q j → (m : List ℕ) → Room m w
        → Storing out₀ p q w h (set out j x) m (j + 1)
    storing_again i space x e m r =
        record {
          room = r;
          whole =
              v.whole
              ∙ ap (λ (n : ℕ). put out j (words_from w h p q j n)) left
              ∙ ap (put out j) (words_more w h p q j (tiles h - (j + 1)))
              ∙ ap₂ (λ (y : ℕ) (n : ℕ). put out j ((y ∷ []) ++ words_from w h p q n (tiles h - (j + 1)))) (sym e) next
              ∙ put_append out j (x ∷ []) (words_from w h p q (j + 1) (tiles h - (j + 1))) 1 refl (omega (arith, space))
              ∙ ap (λ (d : List ℕ). put d (j + 1) (words_from w h p q (j + 1) (tiles h - (j + 1)))) (sym stored);
        }
      where
        left : tiles h - j ≡ suc (tiles h - (j + 1))
        left = omega arith

        next : suc j ≡ j + 1
        next = omega arith

        stored : set out j x ≡ put out j (x ∷ [])
        stored = put_one out j x (omega (arith, space))

    pub storing_done : tiles h ≤ j → out ≡ put out₀ 0 (tile_words w h p q)
    storing_done i =
        let n : tiles h - j ≡ 0 = omega arith in
        sym (v.whole ∙ ap (λ (k : ℕ). put out j (words_from w h p q j k)) n ∙ ap (put out j) (words_none w h p q j) ∙ put_nil out j)
