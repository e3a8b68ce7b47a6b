-- Laws of cells: their bytes, their number, and the split into gaps and stretches.
use mathlib.Core.Path.{◌≡◌, refl, sym, ap, ap₂, ◌∙◌}
use mathlib.Core.List.{List, [], ◌∷◌, ◌++◌, append_assoc, flat_map}
use mathlib.Core.Bool.{Bool, true, false}
use Prim.Native.Nat.{ℕ, zero, suc, ◌+◌, ◌-◌, ◌*◌, ◌≤◌}
use native.Mathlib.Omega.{arith}
use lib.ListN.{length, take, drop, length-append, length-drop}
use lib.Seq.{length-take-le, take-add, drop-drop}
use Rattle.words.proofs.Laws.{same_eq, same_refl}
use Rattle.house_cells.specs.Cells.{Cell, cells, cells_at, news, stays, Stretch, before_stretch, behind, stretches}

-- lists one after the other

module _ {A B : Type 0} (f : A → List B) where
  pub flat_map_nil : flat_map f [] ≡ []
  unfolding flat_map
  flat_map_nil = refl

  pub flat_map_cons : (x : A) (xs : List A) → flat_map f (x ∷ xs) ≡ f x ++ flat_map f xs
  unfolding flat_map
  flat_map_cons x xs = refl

  pub flat_map_append : (xs ys : List A) → flat_map f (xs ++ ys) ≡ flat_map f xs ++ flat_map f ys
  unfolding flat_map
  flat_map_append [] ys = refl
  flat_map_append (x ∷ xs) ys = ap (λ (l : List B). f x ++ l) (flat_map_append xs ys) ∙ sym (append_assoc (f x) (flat_map f xs) (flat_map f ys))

pub flat_map_each : {A : Type 0} (xs : List A) → flat_map (λ (x : A). x ∷ []) xs ≡ xs
unfolding flat_map
flat_map_each [] = refl
flat_map_each {A} (x ∷ xs) = ap (λ (l : List A). x ∷ l) (flat_map_each xs)

-- bytes of cells

-- the bytes of cells, as they were
abbrev pub olds : List Cell → List ℕ
olds = flat_map (λ (c : Cell). c.old)

pub olds_append : (cs ds : List Cell) → olds (cs ++ ds) ≡ olds cs ++ olds ds
olds_append = flat_map_append (λ (c : Cell). c.old)

pub news_append : (cs ds : List Cell) → news (cs ++ ds) ≡ news cs ++ news ds
news_append = flat_map_append (λ (c : Cell). c.new)

-- each cell has k bytes
abbrev pub Sized : ℕ → List Cell → Type 0
Sized k [] = Unit {0}
Sized k (c ∷ cs) = (length c.old ≡ k) × (length c.new ≡ k) × Sized k cs

pub sized_append : (k : ℕ) (cs ds : List Cell) → Sized k (cs ++ ds) → Sized k cs × Sized k ds
sized_append k [] ds s = (tt, s)
sized_append k (c ∷ cs) ds s = let r = sized_append k cs ds s.2 in ((s.0, s.1, r.0), r.1)

pub sized_take : (k n : ℕ) (cs : List Cell) → Sized k cs → Sized k (take n cs)
sized_take k zero cs s = tt
sized_take k (suc n) [] s = tt
sized_take k (suc n) (c ∷ cs) s = (s.0, s.1, sized_take k n cs s.2)

pub sized_drop : (k n : ℕ) (cs : List Cell) → Sized k cs → Sized k (drop n cs)
sized_drop k zero cs s = s
sized_drop k (suc n) [] s = tt
sized_drop k (suc n) (c ∷ cs) s = sized_drop k n cs s.2

pub length_olds : (k : ℕ) (cs : List Cell) → Sized k cs → length (olds cs) ≡ k * length cs
unfolding flat_map
length_olds k [] s = omega arith
length_olds k (c ∷ cs) s = omega (arith, length-append c.old (olds cs), s.0, length_olds k cs s.2)

pub length_news : (k : ℕ) (cs : List Cell) → Sized k cs → length (news cs) ≡ k * length cs
unfolding flat_map
length_news k [] s = omega arith
length_news k (c ∷ cs) s = omega (arith, length-append c.new (news cs), s.1, length_news k cs s.2)

-- the cells of two lists

times_zero : (k : ℕ) → 0 ≡ 0 * k
times_zero k = omega arith

times_suc : (k n : ℕ) → k + n * k ≡ suc n * k
times_suc k n = omega arith

further : (k i : ℕ) (a : List ℕ) → drop (i * k) (drop k a) ≡ drop (suc i * k) a
further k i a = drop-drop (i * k) k a ∙ ap (λ (j : ℕ). drop j a) (times_suc k i)

drop_none : (k : ℕ) (a : List ℕ) → a ≡ drop (0 * k) a
drop_none k a = ap (λ (j : ℕ). drop j a) (times_zero k)

module _ (k : ℕ) where
  pub length_cells : (n : ℕ) (a b : List ℕ) → length (cells k n a b) ≡ n
  unfolding cells
  length_cells zero a b = refl
  length_cells (suc n) a b = ap suc (length_cells n (drop k a) (drop k b))

  pub sized_cells : (n : ℕ) (a b : List ℕ) → n * k ≤ length a → n * k ≤ length b → Sized k (cells k n a b)
  unfolding cells
  sized_cells zero a b h i = tt
  sized_cells (suc n) a b h i = (
    length-take-le k a (omega arith),
    length-take-le k b (omega arith),
    sized_cells n (drop k a) (drop k b) (omega (arith, length-drop k a)) (omega (arith, length-drop k b)),
  )

  pub olds_cells : (n : ℕ) (a b : List ℕ) → olds (cells k n a b) ≡ take (n * k) a
  unfolding cells flat_map
  olds_cells zero a b = ap (λ (m : ℕ). take m a) (times_zero k)
  olds_cells (suc n) a b =
      ap (λ (l : List ℕ). take k a ++ l) (olds_cells n (drop k a) (drop k b)) ∙ sym (take-add k (n * k) a) ∙ ap (λ (m : ℕ). take m a) (times_suc k n)

  pub news_cells : (n : ℕ) (a b : List ℕ) → news (cells k n a b) ≡ take (n * k) b
  unfolding cells flat_map
  news_cells zero a b = ap (λ (m : ℕ). take m b) (times_zero k)
  news_cells (suc n) a b =
      ap (λ (l : List ℕ). take k b ++ l) (news_cells n (drop k a) (drop k b)) ∙ sym (take-add k (n * k) b) ∙ ap (λ (m : ℕ). take m b) (times_suc k n)

  -- cells by their index

  same_cells : (m : ℕ) {n : ℕ} {a a' b b' : List ℕ} → n ≡ m → a ≡ a' → b ≡ b' → cells k n a b ≡ cells k m a' b'
  same_cells m {n} {a} {a'} {b} {b'} e f g = ap (λ (i : ℕ). cells k i a b) e ∙ ap₂ (λ (x y : List ℕ). cells k m x y) f g

  pub drop_cells : (n m i : ℕ) (a b : List ℕ) → i + m ≡ n → drop i (cells k n a b) ≡ cells_at k i m a b
  unfolding cells
  drop_cells n m zero a b h = same_cells m {n = n} (omega arith) (drop_none k a) (drop_none k b)
  drop_cells zero m (suc i) a b h = absurd (omega arith)
  drop_cells (suc n) m (suc i) a b h = drop_cells n m i (drop k a) (drop k b) (omega arith) ∙ same_cells m refl (further k i a) (further k i b)

  pub take_cells : (n i : ℕ) (a b : List ℕ) → i ≤ n → take i (cells k n a b) ≡ cells k i a b
  unfolding cells
  take_cells n zero a b h = refl
  take_cells zero (suc i) a b h = absurd (omega arith)
  take_cells (suc n) (suc i) a b h = ap (λ (cs : List Cell). record {
    old = take k a;
    new = take k b;
  } ∷ cs) (take_cells n i (drop k a) (drop k b) (omega arith))

  -- m of n cells, from cell i on
  pub part_cells : (n i m : ℕ) (a b : List ℕ) → i + m ≤ n → take m (drop i (cells k n a b)) ≡ cells_at k i m a b
  part_cells n i m a b h =
      ap (take m) (drop_cells n (n - i) i a b (omega arith)) ∙ take_cells (n - i) m (drop (i * k) a) (drop (i * k) b) (omega arith)

  -- the cell at index i
  pub cell_at : (n i : ℕ) (a b : List ℕ) → suc i ≤ n
      → drop i (cells k n a b) ≡ record { old = take k (drop (i * k) a); new = take k (drop (i * k) b) } ∷ drop (suc i) (cells k n a b)
  unfolding cells
  cell_at zero i a b h = absurd (omega arith)
  cell_at (suc n) zero a b h =
      ap₂ (λ (x y : List ℕ). record { old = take k x; new = take k y } ∷ cells k n (drop k a) (drop k b)) (drop_none k a) (drop_none k b)
  cell_at (suc n) (suc i) a b h =
      cell_at n i (drop k a) (drop k b) (omega arith)
      ∙ ap₂ (λ (x y : List ℕ). record { old = take k x; new = take k y } ∷ drop (suc i) (cells k n (drop k a) (drop k b))) (further k i a) (further k i b)

  -- the first of suc m cells from cell i on
  pub cells_next : (i m : ℕ) (a b : List ℕ)
      → cells_at k i (suc m) a b ≡ record { old = take k (drop (i * k) a); new = take k (drop (i * k) b) } ∷ cells_at k (i + 1) m a b
  unfolding cells
  cells_next i m a b =
      let z : i * k + k ≡ (i + 1) * k = omega arith in
      ap₂ (λ (x y : List ℕ). record { old = take k (drop (i * k) a); new = take k (drop (i * k) b) } ∷ cells k m x y)
      (drop-drop k (i * k) a ∙ ap (λ (j : ℕ). drop j a) z) (drop-drop k (i * k) b ∙ ap (λ (j : ℕ). drop j b) z)

  pub cells_none : (a b : List ℕ) → cells k 0 a b ≡ []
  unfolding cells
  cells_none a b = refl

-- cells are gaps and stretches, one after the other, and a last gap; a gap's bytes stay as they are

pub data Split : List Stretch → List Cell → Type 0 where
  rest : {cs : List Cell} → olds cs ≡ news cs → Split [] cs
  part : {ss : List Stretch} (still cs more : List Cell) (c : Cell) → olds still ≡ news still → Split ss more
      → Split (record { gap = length still; changed = c ∷ cs } ∷ ss) (still ++ ((c ∷ cs) ++ more))

add : (b : Bool) (c : Cell) {ss : List Stretch} {cs : List Cell} → stays c ≡ b → Split ss cs → Split (behind b c ss) (c ∷ cs)
unfolding behind flat_map
add true c e (rest s) = rest (ap₂ (λ (a b : List ℕ). a ++ b) (same_eq c.old c.new e) s)
add true c e (part still ds more d s m) = part (c ∷ still) ds more d (ap₂ (λ (a b : List ℕ). a ++ b) (same_eq c.old c.new e) s) m
add false c e (rest {cs} s) = part [] [] cs c refl (rest s)
add false c e (part [] ds more d s m) = part [] (d ∷ ds) more c refl m
add false c e (part (f ∷ still) ds more d s m) = part [] [] ((f ∷ still) ++ ((d ∷ ds) ++ more)) c refl (part (f ∷ still) ds more d s m)

pub split : (cs : List Cell) → Split (stretches cs) cs
unfolding stretches flat_map
split [] = rest {cs = []} refl
split (c ∷ cs) = add (stays c) c refl (split cs)

-- stretches stand apart: each but the first has a gap before it, and with their gaps they are no more than the cells

-- how many cells stretches are, with their gaps
abbrev pub taken : List Stretch → ℕ
taken [] = 0
taken (s ∷ ss) = s.gap + length s.changed + taken ss

-- each has a gap before it
abbrev pub Gapped : List Stretch → Type 0
Gapped [] = Unit {0}
Gapped (s ∷ ss) = (1 ≤ s.gap) × Gapped ss

-- each but the first has
abbrev pub Apart : List Stretch → Type 0
Apart [] = Unit {0}
Apart (s ∷ ss) = Gapped ss

add_apart : (b : Bool) (c : Cell) (ss : List Stretch) (n : ℕ) → Apart ss × (taken ss ≤ n) → Apart (behind b c ss) × (taken (behind b c ss) ≤ suc n)
unfolding behind
add_apart true c [] n h = (tt, omega arith)
add_apart true c (s ∷ ss) n h = (h.0, omega (arith, h.1))
add_apart false c [] n h = (tt, omega arith)
add_apart false c (s ∷ ss) n h = in_front s.gap s.changed h.0 h.1
  where
    in_front : (g : ℕ) (cs : List Cell) → Gapped ss → g + length cs + taken ss ≤ n
        → Apart (before_stretch g c (record { gap = g; changed = cs }) ss) × (taken (before_stretch g c (record { gap = g; changed = cs }) ss) ≤ suc n)
    in_front zero cs a k = (a, omega arith)
    in_front (suc g) cs a k = ((omega arith, a), omega arith)

pub stretches_apart : (cs : List Cell) → Apart (stretches cs) × (taken (stretches cs) ≤ length cs)
unfolding stretches
stretches_apart [] = (tt, omega arith)
stretches_apart (c ∷ cs) = add_apart (stays c) c (stretches cs) (length cs) (stretches_apart cs)

-- of two equal lists there is none
pub stretches_same : (k n : ℕ) (a : List ℕ) → stretches (cells k n a a) ≡ []
unfolding cells stretches behind
stretches_same k zero a = refl
stretches_same k (suc n) a =
    ap₂ (λ (b : Bool) (ss : List Stretch). behind b (record { old = take k a; new = take k a }) ss) (same_refl (take k a)) (stretches_same k n (drop k a))
