-- Laws of the definitions in specs/: signed bytes, `put`, `written`, parts of a slice, `same`.
use mathlib.Core.Path.{◌≡◌, ap, ap₂, ◌∙◌, sym, refl, subst}
use mathlib.Core.List.{List, [], ◌∷◌, ◌++◌, append_assoc}
use mathlib.Core.Bool.{Bool, true, false, cond, ◌&&◌}
use Prim.Native.Nat.{ℕ, suc, zero, ◌≤◌, ◌<◌, ◌+◌, ◌-◌, ◌*◌}
use native.Mathlib.Nat.{zero-add, add-sub_cancel_left, mul-le-mul_right, mul_comm, add-zero}
use native.Mathlib.Omega.{arith}
use lib.Dec.{eqb}
use lib.Pointwise.{pointwise}
use lib.ListN.{length, drop, take, set, get_or, length-append, length-drop, length-set, take-append-drop, drop_of_length-le, replicate}
use lib.Seq.{length-take-le, drop-drop, drop-cons, set_split, take_at, drop_at, take-append-le, take-take, sets-eq}
use native.Mathlib.Numerals.{add-one, unary_clauses}
use borrow.Author.Tests.{lt-ltb, le-ltb, eq-eqb, ne_eqb, eqb-true}
use Rattle.words.specs.Words.{magnitude, le16, le32, chunk, same, Bytes}
use Rattle.words.specs.Writes.{Write, put, applied}
use Rattle.words.proofs.Tests.{by_test}

-- a signed byte

pub magnitude_plus : (t : ℕ) → t < 128 → magnitude t ≡ t
unfolding magnitude
magnitude_plus t h = simp (lt-ltb t 128 h)

pub magnitude_minus : (t : ℕ) → 128 ≤ t → magnitude t ≡ 256 - t
unfolding magnitude
magnitude_minus t h = simp (le-ltb t 128 h)

-- bytes stored

pub put_front : (d v : List ℕ) → put d 0 v ≡ v ++ drop (length v) d
put_front d v = ap (λ (k : ℕ). v ++ drop k d) (zero-add (length v))

-- a write that lies within d keeps its length
pub length_put : (d : List ℕ) (at : ℕ) (v : List ℕ) → at + length v ≤ length d → length (put d at v) ≡ length d
length_put d at v h =
    simp (length-append, length-take-le at d (omega arith), length-drop) (omega arith)

-- writes one after the other
pub applied_append : (ws vs : List Write) (d : List ℕ) → applied (ws ++ vs) d ≡ applied vs (applied ws d)
unfolding applied
applied_append [] vs d = refl
applied_append (w ∷ ws) vs d = applied_append ws vs (put d w.at w.bytes)

-- a part from a on, k long, that comes back as v
pub lent_put : (d v : List ℕ) (a k : ℕ) → length v ≡ k → take a d ++ (v ++ drop k (drop a d)) ≡ put d a v
lent_put d v a k e =
    ap (λ (x : List ℕ). take a d ++ (v ++ x)) (drop-drop k a d ∙ ap (λ (n : ℕ). drop (a + n) d) (sym e))

-- the same where the part comes back as e, which is v
pub lent_back : (d e v : List ℕ) (a k : ℕ) → e ≡ v → length v ≡ k → take a d ++ (e ++ drop k (drop a d)) ≡ put d a v
lent_back d e v a k p l = ap (λ (x : List ℕ). take a d ++ (x ++ drop k (drop a d))) p ∙ lent_put d v a k l

-- the length of a part, as a range a..a + k has it
pub part_length : (d : List ℕ) (a k : ℕ) → a + k ≤ length d → length (take (a + k - a) (drop a d)) ≡ k
part_length d a k h =
    ap (λ (n : ℕ). length (take n (drop a d))) (add-sub_cancel_left a k) ∙ length-take-le k (drop a d) (simp length-drop (omega arith))

-- the length of a part, as a range a..e has it
pub span_length : (d : List ℕ) (a e n : ℕ) → e ≤ length d → a + n ≡ e → length (take (e - a) (drop a d)) ≡ n
span_length d a e n h k =
    let s : e - a ≡ n = omega arith in
    ap (λ (m : ℕ). length (take m (drop a d))) s ∙ length-take-le n (drop a d) (simp length-drop (omega arith))

-- a lent part a..e that comes back as x, which is v, n long
pub span_back : (d x v : List ℕ) (a e n : ℕ) → x ≡ v → length v ≡ n → a + n ≡ e → take a d ++ (x ++ drop (e - a) (drop a d)) ≡ put d a v
span_back d x v a e n p l k = lent_back d x v a (e - a) p (omega arith)

-- a store of one byte
pub put_one : (d : List ℕ) (i v : ℕ) → i < length d → set d i v ≡ put d i (v ∷ [])
put_one d i v h = set_split d i v h ∙ ap (λ (k : ℕ). take i d ++ (v ∷ drop k d)) (sym (add-one i))

-- a row of a picture of w by h lies in it
pub row_in : (w h row : ℕ) → row < h → row * w + w ≤ w * h
row_in w h row k = omega (arith, mul-le-mul_right w k, mul_comm h w)

pub put_nil : (d : List ℕ) (at : ℕ) → put d at [] ≡ d
put_nil d at = ap (λ (k : ℕ). take at d ++ drop k d) (add-zero at) ∙ take-append-drop at d

-- bytes stored one after the other
pub put_append : (d : List ℕ) (at : ℕ) (v z : List ℕ) (n : ℕ) → length v ≡ n → at + n ≤ length d → put d at (v ++ z) ≡ put (put d at v) (at + n) z
put_append d at v z n l h =
    let lt = length-take-le at d (omega arith) in
    let front : take (at + n) (put d at v) ≡ take at d ++ v =
    ap (take (at + n)) (sym (append_assoc (take at d) v (drop (at + length v) d)))
    ∙ take_at (take at d ++ v) (drop (at + length v) d) (at + n) (omega (arith, length-append (take at d) v)) in
    let tail : drop (at + n + length z) (put d at v) ≡ drop (at + length (v ++ z)) d =
    sym (drop-drop (length z) (at + n) (put d at v))
    ∙ ap (λ (x : List ℕ). drop (length z) (drop (at + n) x)) (sym (append_assoc (take at d) v (drop (at + length v) d)))
    ∙ ap (drop (length z)) (drop_at (take at d ++ v) (drop (at + length v) d) (at + n) (omega (arith, length-append (take at d) v)))
    ∙ drop-drop (length z) (at + length v) d
    ∙ ap (λ (x : ℕ). drop x d) (sum at) in
    ap (λ (x : List ℕ). take at d ++ x) (append_assoc v z (drop (at + length (v ++ z)) d))
    ∙ sym (append_assoc (take at d) v (z ++ drop (at + length (v ++ z)) d))
    ∙ sym (ap₂ (λ (x y : List ℕ). x ++ (z ++ y)) front tail)
  where
    sum : (at : ℕ) → at + length v + length z ≡ at + length (v ++ z)
    sum at = omega (arith, length-append v z)

-- the same where e and f are what stands after each store
pub put_then : (d e f v z : List ℕ) (at n : ℕ) → length v ≡ n → at + n ≤ length d → e ≡ put d at v → f ≡ put e (at + n) z → f ≡ put d at (v ++ z)
put_then d e f v z at n l h x y = y ∙ ap (λ (o : List ℕ). put o (at + n) z) x ∙ sym (put_append d at v z n l h)

-- bytes stored in front of what was stored
pub put_before : (d v z : List ℕ) (at n : ℕ) → length v ≡ n → at + n ≤ length d → put (put d (at + n) z) at v ≡ put d at (v ++ z)
put_before d v z at n l h =
    let e : length (take (at + n) d) ≡ at + n = length-take-le (at + n) d h in
    let rest = z ++ drop (at + n + length z) d in
    let front : take at (take (at + n) d ++ rest) ≡ take at d =
    take-append-le at (take (at + n) d) rest (omega arith) ∙ take-take at (at + n) d (omega arith) in
    let tail : drop (at + length v) (take (at + n) d ++ rest) ≡ rest = drop_at (take (at + n) d) rest (at + length v) (omega arith) in
    let sum : at + n + length z ≡ at + length (v ++ z) = omega (arith, length-append v z) in
    ap₂ (λ (x y : List ℕ). x ++ (v ++ y)) front tail
    ∙ ap (λ (k : ℕ). take at d ++ (v ++ (z ++ drop k d))) sum
    ∙ ap (λ (x : List ℕ). take at d ++ x) (sym (append_assoc v z (drop (at + length (v ++ z)) d)))

-- two bytes
pub put_two : (d : List ℕ) (at x y : ℕ) → at + 2 ≤ length d → set (set d at x) (at + 1) y ≡ put d at (x ∷ y ∷ [])
put_two d at x y h =
    put_one (set d at x) (at + 1) y (omega (arith, length-set d at x))
    ∙ ap (λ (l : List ℕ). put l (at + 1) (y ∷ [])) (put_one d at x (omega arith))
    ∙ sym (put_append d at (x ∷ []) (y ∷ []) 1 refl (omega arith))

-- four bytes
pub put_four : (d : List ℕ) (at p q r s : ℕ) → at + 4 ≤ length d → set (set (set (set d at p) (at + 1) q) (at + 2) r) (at + 3) s ≡ put d at (p ∷ q ∷ r ∷ s ∷ [])
put_four d at p q r s h =
    let v : List ℕ = p ∷ q ∷ r ∷ s ∷ [] in
    simp unary_clauses (simp unary_clauses at (sets-eq v d at h ∙ append_assoc (take at d) v (drop (at + 4) d)))

-- bytes compared

pub false_not_true : {C : Type 0} → false ≡ true → C
false_not_true e = let z : ◌≡◌ {A = ℕ} 0 1 = cc in absurd (omega arith)

pub same_eq : (a b : List ℕ) → same a b ≡ true → a ≡ b
unfolding same
same_eq [] [] e = refl
same_eq [] (y ∷ ys) e = false_not_true e
same_eq (x ∷ xs) [] e = false_not_true e
same_eq (x ∷ xs) (y ∷ ys) e = by_case (eqb x y) refl e (λ d. same_eq xs ys d)
  where
    by_case : (b : Bool) → eqb x y ≡ b → cond b (same xs ys) false ≡ true → (same xs ys ≡ true → xs ≡ ys) → x ∷ xs ≡ y ∷ ys
    by_case true d e again = ap₂ (λ (a : ℕ) (l : List ℕ). a ∷ l) (eqb-true x y d) (again e)
    by_case false d e again = false_not_true e

pub same_refl : (a : List ℕ) → same a a ≡ true
unfolding same
same_refl [] = refl
same_refl (x ∷ xs) = ap (λ (t : Bool). cond t (same xs xs) false) (eq-eqb x x refl) ∙ same_refl xs

-- that is what `==` of two slices answers
pub same_pointwise : (a b : List ℕ) → same a b ≡ pointwise eqb a b
unfolding same
same_pointwise [] [] = refl
same_pointwise [] (y ∷ ys) = refl
same_pointwise (x ∷ xs) [] = refl
same_pointwise (x ∷ xs) (y ∷ ys) = ap (λ (t : Bool). cond (eqb x y) t false) (same_pointwise xs ys) ∙ both (eqb x y)
  where
    both : (t : Bool) → cond t (pointwise eqb xs ys) false ≡ (t && pointwise eqb xs ys)
    both true = refl
    both false = refl

-- lists of other lengths are not the same
pub same_other : (a b : List ℕ) → (length a ≡ length b → ⊥) → same a b ≡ false
same_other a b h =
    by_test (λ t. t ≡ false) (same a b)
    (λ e. absurd (h (ap length (same_eq a b e))))
    (λ e. refl)

-- compared from index i on: at an equal byte, at another, at the end
module _ (a b : List ℕ) (i : ℕ) (l : length a ≡ length b) where
  pub same_goes : i < length a → get_or a i 0 ≡ get_or b i 0 → same (drop i a) (drop i b) ≡ same (drop (suc i) a) (drop (suc i) b)
  unfolding same
  same_goes h e =
      ap₂ same (drop-cons a i 0 h) (drop-cons b i 0 (omega arith))
      ∙ ap (λ (t : Bool). cond t (same (drop (suc i) a) (drop (suc i) b)) false) (eq-eqb (get_or a i 0) (get_or b i 0) e)

  pub same_stops : i < length a → (get_or a i 0 ≡ get_or b i 0 → ⊥) → same (drop i a) (drop i b) ≡ false
  unfolding same
  same_stops h e =
      ap₂ same (drop-cons a i 0 h) (drop-cons b i 0 (omega arith))
      ∙ ap (λ (t : Bool). cond t (same (drop (suc i) a) (drop (suc i) b)) false) (ne_eqb (get_or a i 0) (get_or b i 0) e)

  pub same_ends : length a ≤ i → same (drop i a) (drop i b) ≡ true
  unfolding same
  same_ends h = ap₂ same (drop_of_length-le a {i = i} h) (drop_of_length-le b {i = i} (omega arith))

-- writes that lie within the first n bytes

abbrev pub Inside : ℕ → List Write → Type 0
Inside n [] = Unit {0}
Inside n (w ∷ ws) = (w.at + length w.bytes ≤ n) × Inside n ws

pub inside_append : (n : ℕ) (ws vs : List Write) → Inside n ws → Inside n vs → Inside n (ws ++ vs)
inside_append n [] vs i j = j
inside_append n (w ∷ ws) vs i j = (i.0, inside_append n ws vs i.1 j)

-- they keep the length
pub length_applied : (ws : List Write) (d : List ℕ) → Inside (length d) ws → length (applied ws d) ≡ length d
unfolding applied
length_applied [] d i = refl
length_applied (w ∷ ws) d i =
    let e = length_put d w.at w.bytes i.0 in
    length_applied ws (put d w.at w.bytes) (subst (λ (n : ℕ). Inside n ws) (sym e) i.1) ∙ e

-- lists of bytes

pub bytes_append : (xs ys : List ℕ) → Bytes (xs ++ ys) → Bytes xs × Bytes ys
bytes_append [] ys h = (tt, h)
bytes_append (x ∷ xs) ys h = let r = bytes_append xs ys h.1 in ((h.0, r.0), r.1)

pub bytes_get_d : (xs : List ℕ) (i : ℕ) → Bytes xs → get_or xs i 0 < 256
bytes_get_d [] i h = omega arith
bytes_get_d (x ∷ xs) zero h = h.0
bytes_get_d (x ∷ xs) (suc i) h = bytes_get_d xs i h.1

pub bytes_each : (xs : List ℕ) → ((i : ℕ) → get_or xs i 0 < 256) → Bytes xs
bytes_each [] h = tt
bytes_each (x ∷ xs) h = (h 0, bytes_each xs (λ i. h (suc i)))

pub bytes_take : (n : ℕ) (xs : List ℕ) → Bytes xs → Bytes (take n xs)
bytes_take zero xs h = tt
bytes_take (suc n) [] h = tt
bytes_take (suc n) (x ∷ xs) h = (h.0, bytes_take n xs h.1)

pub bytes_drop : (n : ℕ) (xs : List ℕ) → Bytes xs → Bytes (drop n xs)
bytes_drop zero xs h = h
bytes_drop (suc n) [] h = tt
bytes_drop (suc n) (x ∷ xs) h = bytes_drop n xs h.1

-- a list of zeros
pub get_d_zeros : (n i : ℕ) → ◌≡◌ {A = ℕ} (get_or (replicate n 0) i 0) 0
get_d_zeros zero i = refl
get_d_zeros (suc n) zero = refl
get_d_zeros (suc n) (suc i) = get_d_zeros n i

-- a chunk: its header, and then its body

pub length_chunk : (kind : ℕ) (body : List ℕ) → length (chunk kind body) ≡ 6 + length body
unfolding chunk
length_chunk kind body = omega arith

pub chunk_header : (kind : ℕ) (body : List ℕ) → chunk kind body ≡ le32 (6 + length body) (le16 kind []) ++ body
unfolding chunk
chunk_header kind body = refl

-- a chunk stored, its header first or its body first
module _ (out out₁ out' : List ℕ) (at n kind : ℕ) (body : List ℕ) (size : n ≡ 6 + length body) (room : at + 6 + length body ≤ length out) where
  pub put_header_first : out₁ ≡ put out at (le32 n (le16 kind [])) → out' ≡ put out₁ (at + 6) body → out' ≡ put out at (chunk kind body)
  put_header_first h b =
      b
      ∙ ap (λ (d : List ℕ). put d (at + 6) body) (h ∙ ap (λ (k : ℕ). put out at (le32 k (le16 kind []))) size)
      ∙ sym (put_append out at (le32 (6 + length body) (le16 kind [])) body 6 refl (omega arith))
      ∙ ap (put out at) (sym (chunk_header kind body))

  pub put_header_last : out₁ ≡ put out (at + 6) body → out' ≡ put out₁ at (le32 n (le16 kind [])) → out' ≡ put out at (chunk kind body)
  put_header_last b h =
      h
      ∙ ap₂ (λ (d : List ℕ) (k : ℕ). put d at (le32 k (le16 kind []))) b size
      ∙ put_before out (le32 (6 + length body) (le16 kind [])) body at 6 refl (omega arith)
      ∙ ap (put out at) (sym (chunk_header kind body))
