-- Laws of the delta's rows: up to the last changed one, from the first to the last, the body.
use mathlib.Core.Path.{◌≡◌, refl, sym, ap, ap₂, ◌∙◌}
use mathlib.Core.List.{List, [], ◌∷◌, ◌++◌, flat_map}
use mathlib.Core.Bool.{Bool, true, false, ◌&&◌, cond}
use Prim.Native.Nat.{ℕ, zero, suc, ◌+◌, ◌-◌, ◌*◌, ◌≤◌}
use native.Mathlib.Omega.{arith}
use lib.Dec.{eqb}
use lib.ListN.{length, drop, take-append-drop}
use borrow.Author.Tests.{eqb-true, ne_eqb}
use Rattle.words.specs.Words.{le16}
use Rattle.words.specs.Writes.{put}
use Rattle.words.proofs.Laws.{same_eq, put_then}
use Rattle.words.proofs.Tests.{by_test, both_true}
use Rattle.house_cells.specs.Cells.{Cell, cells, cells_at, news, stays, run}
use Rattle.house_cells.specs.declared.Sought.TheVariants.{Unchanged}
use Rattle.house_cells.specs.Rows.{row_at}
use Rattle.house_cells.proofs.CellLaws.{olds, length_cells, take_cells, drop_cells, cells_next, cells_none}
use Rattle.house_lc.specs.Line.{line}
use Rattle.house_lc.specs.Delta.{up_to_last, first_row, row_count, delta_body}

-- up to the last changed cell

last_none : up_to_last [] ≡ 0
unfolding up_to_last
last_none = refl

pub last_le : (cs : List Cell) → up_to_last cs ≤ length cs
unfolding up_to_last
last_le [] = omega arith
last_le (c ∷ cs) =
    let h = last_le cs in
    by_test (λ t. cond t 0 (suc (up_to_last cs)) ≤ suc (length cs)) (eqb (up_to_last cs) 0 && stays c) (λ e. omega arith) (λ e. omega arith)

-- what stands behind it stays as it is
pub last_kept : (cs : List Cell) (m : ℕ) → up_to_last cs ≤ m → olds (drop m cs) ≡ news (drop m cs)
unfolding up_to_last flat_map
last_kept [] zero h = refl
last_kept [] (suc m) h = refl
last_kept (c ∷ cs) zero h =
    let ih = last_kept cs 0 in
    by_test (λ t. cond t 0 (suc (up_to_last cs)) ≤ 0 → c.old ++ olds cs ≡ c.new ++ news cs) (eqb (up_to_last cs) 0 && stays c)
    (λ e k.
    let two = both_true (eqb (up_to_last cs) 0) (stays c) e in
    ap₂ (λ (a b : List ℕ). a ++ b) (same_eq c.old c.new two.1) (ih (omega (arith, eqb-true (up_to_last cs) 0 two.0))))
    (λ e k. absurd (omega arith)) h
last_kept (c ∷ cs) (suc m) h =
    let ih = last_kept cs m in
    by_test (λ t. cond t 0 (suc (up_to_last cs)) ≤ suc m → olds (drop m cs) ≡ news (drop m cs)) (eqb (up_to_last cs) 0 && stays c)
    (λ e k. ih (omega (arith, eqb-true (up_to_last cs) 0 (both_true (eqb (up_to_last cs) 0) (stays c) e).0)))
    (λ e k. ih (omega arith)) h

-- with one more cell at the end, unchanged or not
last_more : (cs : List Cell) (c : Cell) (t : Bool) → stays c ≡ t → up_to_last (cs ++ (c ∷ [])) ≡ cond t (up_to_last cs) (suc (length cs))
unfolding up_to_last
last_more [] c t e = ap (λ (s : Bool). cond s 0 1) e
last_more (d ∷ cs) c true e = ap (λ (n : ℕ). cond (eqb n 0 && stays d) 0 (suc n)) (last_more cs c true e)
last_more (d ∷ cs) c false e =
    ap (λ (n : ℕ). cond (eqb n 0 && stays d) 0 (suc n)) (last_more cs c false e)
    ∙ ap (λ (s : Bool). cond (s && stays d) 0 (suc (suc (length cs)))) (ne_eqb (suc (length cs)) 0 (λ (k : suc (length cs) ≡ 0). omega arith))

-- with one more cell of two lists
cells_more : (k n : ℕ) (a b : List ℕ) → cells k (suc n) a b ≡ cells k n a b ++ (row_at k n a b ∷ [])
cells_more k n a b =
    let cs = cells k (suc n) a b in
    sym (take-append-drop n cs)
    ∙ ap₂ (λ (x y : List Cell). x ++ y) (take_cells k (suc n) n a b (omega arith))
    (drop_cells k (suc n) 1 n a b (omega arith) ∙ cells_next k n 0 a b
    ∙ ap (λ (x : List Cell). row_at k n a b ∷ x) (cells_none k (drop ((n + 1) * k) a) (drop ((n + 1) * k) b)))

-- the rows from the bottom up

module _ (w h : ℕ) (p q : List ℕ) where
  -- no row from row r on is changed
  pub record Still (r : ℕ) : Type 0 where
    pub high : r ≤ h
    pub so_far : up_to_last (cells w h p q) ≡ up_to_last (cells w r p q)

  pub still_first : Still h
  still_first = record { high = omega arith; so_far = refl }

  -- the row before it, unchanged (s) or not
  module _ (r r' : ℕ) (s : Bool) (e : r ≡ suc r') (x : Still r) (is : s ≡ stays (row_at w r' p q)) where
    above : (t : Bool) → s ≡ t → up_to_last (cells w h p q) ≡ cond t (up_to_last (cells w r' p q)) (suc (length (cells w r' p q)))
    above t f =
        x.so_far ∙ ap (λ (j : ℕ). up_to_last (cells w j p q)) e ∙ ap up_to_last (cells_more w r' p q)
        ∙ last_more (cells w r' p q) (row_at w r' p q) t (sym is ∙ f)

    pub still_on : s ≡ true → Still r'
    still_on f = record { high = omega (arith, x.high); so_far = above true f }

    pub still_stops : s ≡ false → (r' + 1 ≡ up_to_last (cells w h p q)) × (r' + 1 ≤ h)
    still_stops f = (omega (arith, above false f, length_cells w r' p q), omega (arith, x.high))

  pub still_ends : (r : ℕ) → Still r → r ≤ 0 → (0 ≡ up_to_last (cells w h p q)) × (0 ≤ h)
  still_ends r x l =
      let none : r ≡ 0 = omega arith in
      (sym (x.so_far ∙ ap (λ (j : ℕ). up_to_last (cells w j p q)) none ∙ ap up_to_last (cells_none w p q) ∙ last_none), omega arith)

  -- from the first changed row to the last

  pub first_is : first_row w h p q ≡ run Unchanged (cells w h p q)
  unfolding first_row
  first_is = refl

  pub count_is : row_count w h p q ≡ up_to_last (cells w h p q) - first_row w h p q
  unfolding row_count
  count_is = refl

  module _ (first n : ℕ) (ef : first ≡ first_row w h p q) (en : n ≡ row_count w h p q) where
    -- their lines
    abbrev lines : List ℕ
    lines = flat_map (line w) (cells_at w first n p q)

    -- the body: two words, and then the lines
    pub body_is : le16 first (le16 n lines) ≡ delta_body w h p q
    unfolding delta_body
    body_is = ap₂ (λ (i j : ℕ). le16 i (le16 j (flat_map (line w) (cells_at w i j p q)))) ef en

    pub body_length : length (delta_body w h p q) ≡ 4 + length lines
    body_length = omega (arith, ap length body_is)

    pub body_stored : (c d e f : List ℕ) (at : ℕ) → at + length (delta_body w h p q) ≤ length c
        → d ≡ put c at (le16 first []) → e ≡ put d (at + 2) (le16 n []) → f ≡ put e (at + 4) lines → f ≡ put c at (delta_body w h p q)
    body_stored c d e f at fits x y z =
        put_then c e f (le16 first (le16 n [])) lines at 4 refl (omega (arith, body_length))
        (put_then c d e (le16 first []) (le16 n []) at 2 refl (omega (arith, body_length)) x y) z
        ∙ ap (put c at) body_is
