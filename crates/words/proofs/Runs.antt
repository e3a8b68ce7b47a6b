-- Bytes copied, changed or filled: a store of a loop that goes byte by byte, and stores of a few bytes without one.
use mathlib.Core.Path.{◌≡◌, ap, ◌∙◌, refl, ap₂, sym}
use mathlib.Core.List.{List, [], ◌∷◌, ◌++◌, append-nil, map}
use Prim.Native.Nat.{ℕ, suc, zero, ◌<◌, ◌≤◌, ◌+◌, ◌-◌, ◌/◌}
use native.Mathlib.Nat.{le_of_suc-le-suc, not-suc-le-zero}
use native.Mathlib.Numerals.{add-one, unary_clauses}
use native.Mathlib.Omega.{arith}
use borrow.Author.Tests.{eqb-true, eqb-false}
use lib.Dec.{eqb}
use lib.ListN.{length, drop, take, set, get_or, drop_of_length-le, replicate, replicate-append-replicate, length-set, length-drop, length-replicate, get_or-replicate, take-append-drop}
use lib.Seq.{take_all, take-take, take-append-le, take_at, take-add, drop_at, drop-cons, drop-drop, length-take-le, set_split, get_or-set_same, get_or-set_other, ext_get_or}
use Rattle.words.specs.Writes.{put}
use Rattle.words.proofs.Tests.{by_test}
use Rattle.words.proofs.Laws.{length_put, put_then}

-- f of each byte of s stored in d: a turn, and the end

map_store : (f : ℕ → ℕ) (i : ℕ) (s d : List ℕ) → i < length s → i < length d
    → set (map f (take i s) ++ drop i d) i (f (get_or s i 0)) ≡ map f (take (suc i) s) ++ drop (suc i) d
map_store f i [] d h k = absurd (not-suc-le-zero h)
map_store f i (x ∷ xs) [] h k = absurd (not-suc-le-zero k)
map_store f zero (x ∷ xs) (y ∷ ys) h k = refl
map_store f (suc i) (x ∷ xs) (y ∷ ys) h k =
    ap (λ (l : List ℕ). f x ∷ l) (map_store f i xs ys (le_of_suc-le-suc h) (le_of_suc-le-suc k))

pub map_more : (f : ℕ → ℕ) (i : ℕ) (s d : List ℕ) → i < length s → i < length d
    → set (map f (take i s) ++ drop i d) i (f (get_or s i 0)) ≡ map f (take (i + 1) s) ++ drop (i + 1) d
map_more f i s d h k = rw add-one (map_store f i s d h k)

pub mapped_all : (f : ℕ → ℕ) (i : ℕ) (s d : List ℕ) → length s ≤ i → length d ≤ i → map f (take i s) ++ drop i d ≡ map f s
mapped_all f i s d h k = ap₂ (λ (x y : List ℕ). map f x ++ y) (take_all i s h) (drop_of_length-le d k) ∙ append-nil (map f s)

-- where f changes nothing
pub map_same : (f : ℕ → ℕ) → ((x : ℕ) → f x ≡ x) → (xs : List ℕ) → map f xs ≡ xs
map_same f e [] = refl
map_same f e (x ∷ xs) = ap₂ (λ (y : ℕ) (l : List ℕ). y ∷ l) (e x) (map_same f e xs)

-- what s has at i stored there: byte j is s's if it is that one, or was s's before

stored : (l s : List ℕ) (i j v : ℕ) → i < length l → v ≡ get_or s i 0 → ((j ≡ i → ⊥) → get_or l j 0 ≡ get_or s j 0) → get_or (set l i v) j 0 ≡ get_or s j 0
stored l s i j v h e k =
    by_test (λ b. get_or (set l i v) j 0 ≡ get_or s j 0) (eqb j i)
    (λ t. let q = eqb-true j i t in rw q (get_or-set_same l i v 0 h ∙ e))
    (λ f. get_or-set_other l i j v 0 (eqb-false j i f) ∙ k (eqb-false j i f))

-- the n bytes of s from index at on, each by its index

abbrev each : List ℕ → ℕ → ℕ → List ℕ
each s at zero = []
each s at (suc n) = get_or s at 0 ∷ each s (suc at) n

each_taken : (s : List ℕ) (n at : ℕ) → at + n ≤ length s → take n (drop at s) ≡ each s at n
each_taken s zero at h = refl
each_taken s (suc n) at h =
    ap (take (suc n)) (drop-cons s at 0 (omega arith)) ∙ ap (λ (l : List ℕ). get_or s at 0 ∷ l) (each_taken s n (suc at) (omega arith))

pub two_taken : (s : List ℕ) (at : ℕ) → at + 2 ≤ length s → take 2 (drop at s) ≡ get_or s at 0 ∷ get_or s (at + 1) 0 ∷ []
two_taken s at h = simp unary_clauses (each_taken s 2 at h)

pub four_taken : (s : List ℕ) (at : ℕ) → at + 4 ≤ length s
    → take 4 (drop at s) ≡ get_or s at 0 ∷ get_or s (at + 1) 0 ∷ get_or s (at + 2) 0 ∷ get_or s (at + 3) 0 ∷ []
four_taken s at h = simp unary_clauses (each_taken s 4 at h)

-- w bytes of s, and then as many again
pub halves_copied : (d e f s : List ℕ) (at w : ℕ) → length s ≡ length d → at + (w + w) ≤ length s
    → e ≡ put d at (take w (drop at s)) → f ≡ put e (at + w) (take w (drop (at + w) s)) → f ≡ put d at (take (w + w) (drop at s))
halves_copied d e f s at w l h p q =
    put_then d e f (take w (drop at s)) (take w (drop (at + w) s)) at w (length-take-le w (drop at s) (simp length-drop (omega arith))) (omega arith) p q
    ∙ ap (λ (x : List ℕ). put d at (take w (drop at s) ++ take w x)) (sym (drop-drop w at s))
    ∙ ap (put d at) (sym (take-add w w (drop at s)))

-- the only byte
pub one_copied : (d s : List ℕ) → length s ≡ length d → length s ≡ 1 → set d 0 (get_or s 0 0) ≡ s
one_copied d s e n =
    set_split d 0 (get_or s 0 0) (omega arith)
    ∙ ap (λ (l : List ℕ). get_or s 0 0 ∷ l) (drop_of_length-le d {i = 1} (omega arith))
    ∙ sym (each_taken s 1 0 (omega arith)) ∙ take_all 1 s (omega arith)

-- the first w bytes and the last w, which may overlap but leave no gap
pub ends_copied : (d e f s : List ℕ) (w k : ℕ) → length s ≡ length d → k + w ≡ length s → k ≤ w
    → e ≡ put d 0 (take w s) → f ≡ put e k (take w (drop k s)) → f ≡ s
ends_copied d e f s w k l n h p q =
    let front : length (take w s) ≡ w = length-take-le w s (omega arith) in
    let last : length (take w (drop k s)) ≡ w = length-take-le w (drop k s) (simp length-drop (omega arith)) in
    let kept : length e ≡ length d = ap length p ∙ length_put d 0 (take w s) (omega arith) in
    q
    ∙ ap₂ (λ (x y : List ℕ). x ++ (take w (drop k s) ++ y))
    (ap (take k) p ∙ take-append-le k (take w s) (drop (0 + length (take w s)) d) (omega arith) ∙ take-take k w s h)
    (drop_of_length-le e {i = k + length (take w (drop k s))} (omega arith))
    ∙ ap (λ (x : List ℕ). take k s ++ x) (append-nil (take w (drop k s)) ∙ take_all w (drop k s) (simp length-drop (omega arith)))
    ∙ take-append-drop k s

pub ends_filled : (d e f : List ℕ) (v w k : ℕ) → k + w ≡ length d → k ≤ w
    → e ≡ put d 0 (replicate w v) → f ≡ put e k (replicate w v) → f ≡ replicate (length d) v
ends_filled d e f v w k n h p q =
    ends_copied d e f (replicate (length d) v) w k (length-replicate (length d) v) (n ∙ sym (length-replicate (length d) v)) h
    (p ∙ ap (put d 0) (sym (filled 0 k (omega arith))))
    (q ∙ ap (put e k) (sym (filled k 0 (omega arith))))
  where
    filled : (i j : ℕ) → i + (w + j) ≡ length d → take w (drop i (replicate (length d) v)) ≡ replicate w v
    filled i j m =
        ap (λ (n : ℕ). take w (drop i (replicate n v))) (sym m)
        ∙ ap (λ (l : List ℕ). take w (drop i l)) (sym (replicate-append-replicate i (w + j) v))
        ∙ ap (take w) (drop_at (replicate i v) (replicate (w + j) v) i (length-replicate i v) ∙ sym (replicate-append-replicate w j v))
        ∙ take_at (replicate w v) (replicate j v) w (length-replicate w v)

-- the first byte, the middle one and the last, of no more than three
pub few_filled : (d : List ℕ) (v : ℕ) → 1 ≤ length d → length d ≤ 3
    → set (set (set d 0 v) (length d / 2) v) (length d - 1) v ≡ replicate (length d) v
few_filled d v h k =
    let a = set d 0 v in
    let b = set a (length d / 2) v in
    let s = replicate (length d) v in
    ext_get_or 0 (set b (length d - 1) v) s (simp (length-set, length-replicate)) (λ (j : ℕ) (i : j < length (set b (length d - 1) v)).
    let m : j < length d = simp length-set at i in
    stored b s (length d - 1) j v (simp length-set (omega arith)) (filled (length d - 1) (omega arith)) (λ (x : j ≡ length d - 1 → ⊥).
    stored a s (length d / 2) j v (simp length-set (omega arith)) (filled (length d / 2) (omega arith)) (λ (y : j ≡ length d / 2 → ⊥).
    stored d s 0 j v (omega arith) (filled 0 (omega arith)) (λ (z : j ≡ 0 → ⊥). absurd (few_met j (length d) m k x y z)))))
  where
    filled : (i : ℕ) → i < length d → v ≡ get_or (replicate (length d) v) i 0
    filled i h = sym (get_or-replicate (length d) i v 0 h)

    few_met : (j n : ℕ) → j < n → n ≤ 3 → (j ≡ n - 1 → ⊥) → (j ≡ n / 2 → ⊥) → (j ≡ 0 → ⊥) → ⊥
    few_met j n l h x y z = omega arith
