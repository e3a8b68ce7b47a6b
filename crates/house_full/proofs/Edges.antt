-- A full chunk whose body is no longer than n bytes is BLACK, or the picture's rows have at most n edges, pixels that differ from the
-- one before (`full_edges`). A repeat has no edge inside and takes two bytes, a copy has fewer than it has bytes, and where a packet
-- ends there is at most one; a COPY chunk has more pixels than edges, and a black picture has no edge.
use mathlib.Core.Path.{◌≡◌, refl, ap, ◌∙◌, sym}
use mathlib.Core.List.{List, [], ◌∷◌, ◌++◌}
use mathlib.Core.Bool.{Bool, true, false, cond}
use Prim.Native.Nat.{ℕ, zero, suc, ◌+◌, ◌*◌, ◌≤◌, ◌<◌}
use native.Mathlib.Nat.{zero-add}
use native.Mathlib.Numerals.{add-one}
use native.Mathlib.Omega.{arith}
use borrow.Author.Tests.{eq-eqb, ne_eqb, leb-true, leb-false}
use lib.Dec.{eqb, leb}
use lib.ListN.{length, get_or, take, drop, replicate, length-append, length-drop, take-append-drop}
use lib.Seq.{drop-cons, take_at, drop_at}
use Rattle.words.proofs.Laws.{same_eq}
use Rattle.house_rows.specs.Row.{Encodes, none, repeated, copied}
use Rattle.house_rows.proofs.RowRule.{house_encodes}
use Rattle.house_full.specs.Full.{brun_row, brun_body, all_zero, full_chunk}
use Rattle.house_full.specs.Edges.{edges, all_edges}
use Rattle.house_full.proofs.Laws.{length_row, body_more, brun_taken, copy_taken, taken_size}
use Rattle.words.proofs.Tests.{by_test}

-- one pixel more

edges_cons : (x : ℕ) (s : List ℕ) → (edges s ≤ edges (x ∷ s)) × (edges (x ∷ s) ≤ 1 + edges s)
unfolding edges
edges_cons x [] = (omega arith, omega arith)
edges_cons x (y ∷ s) =
    by_test (λ b. (edges (y ∷ s) ≤ cond b 0 1 + edges (y ∷ s)) × (cond b 0 1 + edges (y ∷ s) ≤ 1 + edges (y ∷ s))) (eqb x y)
    (λ e. (omega arith, omega arith))
    (λ e. (omega arith, omega arith))

edges_same : (x y : ℕ) (s : List ℕ) → x ≡ y → edges (x ∷ (y ∷ s)) ≡ edges (y ∷ s)
unfolding edges
edges_same x y s e = ap (λ (b : Bool). cond b 0 1 + edges (y ∷ s)) (eq-eqb x y e) ∙ zero-add (edges (y ∷ s))

edges_other : (x y : ℕ) (s : List ℕ) → (x ≡ y → ⊥) → edges (x ∷ (y ∷ s)) ≡ 1 + edges (y ∷ s)
unfolding edges
edges_other x y s h = ap (λ (b : Bool). cond b 0 1 + edges (y ∷ s)) (ne_eqb x y h)

edges_none : edges [] ≡ 0
unfolding edges
edges_none = refl

edges_one : (x : ℕ) → edges (x ∷ []) ≡ 0
unfolding edges
edges_one x = refl

pub edges_few : (q : List ℕ) → edges q ≤ length q
edges_few [] = omega (arith, edges_none)
edges_few (x ∷ q) = omega (arith, (edges_cons x q).1, edges_few q)

-- two parts have no more than both together

edges_parts : (a b : List ℕ) → edges a + edges b ≤ edges (a ++ b)
unfolding edges
edges_parts [] b = omega arith
edges_parts (x ∷ []) b = omega (arith, (edges_cons x b).0)
edges_parts (x ∷ (y ∷ a)) b = omega (arith, edges_parts (y ∷ a) b)

-- a turn of the count

module _ (s : List ℕ) (i : ℕ) (h : i + 1 < length s) where
  front : drop i s ≡ get_or s i 0 ∷ (get_or s (i + 1) 0 ∷ drop (i + 1 + 1) s)
  front =
      drop-cons s i 0 (omega arith)
      ∙ ap (λ (l : List ℕ). get_or s i 0 ∷ l)
      (ap (λ (k : ℕ). drop k s) (sym (add-one i)) ∙ drop-cons s (i + 1) 0 h ∙ ap (λ (k : ℕ). get_or s (i + 1) 0 ∷ drop k s) (sym (add-one (i + 1))))

  next : drop (i + 1) s ≡ get_or s (i + 1) 0 ∷ drop (i + 1 + 1) s
  next = drop-cons s (i + 1) 0 h ∙ ap (λ (k : ℕ). get_or s (i + 1) 0 ∷ drop k s) (sym (add-one (i + 1)))

  pub count_same : get_or s i 0 ≡ get_or s (i + 1) 0 → edges (drop i s) ≡ edges (drop (i + 1) s)
  count_same e = ap edges front ∙ edges_same (get_or s i 0) (get_or s (i + 1) 0) _ e ∙ sym (ap edges next)

  pub count_other : (get_or s i 0 ≡ get_or s (i + 1) 0 → ⊥) → edges (drop i s) ≡ 1 + edges (drop (i + 1) s)
  count_other k = ap edges front ∙ edges_other (get_or s i 0) (get_or s (i + 1) 0) _ k ∙ sym (ap (λ (l : List ℕ). 1 + edges l) next)

pub count_last : (s : List ℕ) (i : ℕ) → i + 1 ≡ length s → edges (drop i s) ≡ 0
count_last s i e = ap edges (drop-cons s i 0 (omega arith)) ∙ short (get_or s i 0) (drop (suc i) s) (length_rest s i e)
  where
    length_rest : (s : List ℕ) (i : ℕ) → i + 1 ≡ length s → length (drop (suc i) s) ≡ 0
    length_rest s i e = simp length-drop (omega arith)

    short : (x : ℕ) (r : List ℕ) → length r ≡ 0 → edges (x ∷ r) ≡ 0
    short x [] k = edges_one x
    short x (y ∷ r) k = absurd (omega arith)

-- a row of packets

edges_copied : (vs s : List ℕ) → edges (vs ++ s) ≤ length vs + edges s
edges_copied [] s = omega arith
edges_copied (v ∷ vs) s = omega (arith, (edges_cons v (vs ++ s)).1, edges_copied vs s)

edges_repeated : (n v : ℕ) (s : List ℕ) → edges (replicate (suc n) v ++ s) ≤ 1 + edges s
edges_repeated zero v s = (edges_cons v s).1
edges_repeated (suc n) v s = omega (arith, edges_same v v (replicate n v ++ s) refl, edges_repeated n v s)

encodes_edges : {bs s : List ℕ} → Encodes bs s → edges s ≤ length bs
encodes_edges none = omega (arith, edges_none)
encodes_edges (repeated zero v h k e) = absurd (omega arith)
encodes_edges (repeated {bs} {s} (suc n) v h k e) = omega (arith, edges_repeated n v s, encodes_edges e)
encodes_edges (copied {bs} {s} vs h k e) = omega (arith, edges_copied vs s, encodes_edges e, length-append vs bs)

-- all rows

pub all_none : (w h : ℕ) (q : List ℕ) → h ≤ 0 → all_edges w h q ≡ 0
unfolding all_edges
all_none w zero q k = refl
all_none w (suc h) q k = absurd (omega arith)

pub all_more : (w h : ℕ) (q : List ℕ) → all_edges w (suc h) q ≡ edges (take w q) + all_edges w h (drop w q)
unfolding all_edges
all_more w h q = refl

-- counting row by row: the rows that are left, and the edges of those before
pub record Counting (w h : ℕ) (q rest : List ℕ) (count : ℕ) : Type 0 where
  pub left : ℕ
  pub rows : length rest ≡ w * left
  pub few : count + length rest ≤ length q
  pub counted : count + all_edges w left rest ≡ all_edges w h q

pub counting_more : {w h : ℕ} {q rest : List ℕ} {count : ℕ} → Counting w h q rest count → 1 ≤ w → (row rest' : List ℕ) (n : ℕ) → rest ≡ row ++ rest'
    → length row ≡ w → n ≡ edges row → Counting w h q rest' (count + n)
counting_more {w} {h} {q} {rest} {count} c some row rest' n e l is = by_left c.left c.rows c.counted
  where
    long : length rest ≡ w + length rest'
    long = omega (arith, ap length e, length-append row rest')

    by_left : (left : ℕ) → length rest ≡ w * left → count + all_edges w left rest ≡ all_edges w h q → Counting w h q rest' (count + n)
    by_left zero r k = absurd (omega (arith, long))
    by_left (suc left) r k = record {
      left = left;
      rows = omega (arith, long);
      few = omega (arith, long, c.few, edges_few row);
      counted =
          omega (
            arith,
            k,
            all_more w left rest,
            ap (λ (s : List ℕ). edges (take w s)) e,
            ap edges (take_at row rest' w l),
            ap (λ (s : List ℕ). all_edges w left (drop w s)) e,
            ap (all_edges w left) (drop_at row rest' w l),
          );
    }

pub counting_done : {w h : ℕ} {q rest : List ℕ} {count : ℕ} → Counting w h q rest count → length rest < w → count ≡ all_edges w h q
counting_done {w} {h} {q} {rest} {count} c short = by_left c.left c.rows c.counted
  where
    by_left : (left : ℕ) → length rest ≡ w * left → count + all_edges w left rest ≡ all_edges w h q → count ≡ all_edges w h q
    by_left zero r k = omega (arith, k, all_none w 0 rest (omega arith))
    by_left (suc left) r k = absurd (omega arith)

all_within : (w h : ℕ) (q : List ℕ) → all_edges w h q ≤ edges q
unfolding all_edges
all_within w zero q = omega arith
all_within w (suc h) q = omega (arith, all_within w h (drop w q), edges_parts (take w q) (drop w q), ap edges (take-append-drop w q))

body_edges : (w h : ℕ) (q : List ℕ) → all_edges w h q ≤ length (brun_body w h q)
unfolding all_edges
body_edges w zero q = omega arith
body_edges w (suc h) q =
    omega (
      arith,
      encodes_edges (house_encodes (take w q)),
      length_row (take w q),
      body_edges w h (drop w q),
      ap length (body_more w h q),
      length-append (brun_row (take w q)) (brun_body w h (drop w q)),
    )

-- a full chunk

edges_plain : (n v : ℕ) → edges (replicate n v) ≡ 0
edges_plain zero v = edges_none
edges_plain (suc zero) v = edges_one v
edges_plain (suc (suc n)) v = edges_same v v (replicate n v) refl ∙ edges_plain (suc n) v

black_edges : (q : List ℕ) → all_zero q ≡ true → edges q ≡ 0
unfolding all_zero
black_edges q z = ap edges (same_eq q (replicate (length q) 0) z) ∙ edges_plain (length q) 0

pub full_edges : (w h : ℕ) (q : List ℕ) (n : ℕ) → n < all_edges w h q → 6 + n < length (full_chunk w h q)
full_edges w h q n k = black (all_zero q) refl
  where
    other : all_zero q ≡ false → (b : Bool) → leb (length (brun_body w h q)) (length q) ≡ b → 6 + n < length (full_chunk w h q)
    other z true i = omega (arith, taken_size (brun_taken w h q z (leb-true _ _ i)), body_edges w h q)
    other z false i = omega (arith, taken_size (copy_taken w h q z (leb-false _ _ i)), all_within w h q, edges_few q)

    black : (b : Bool) → all_zero q ≡ b → 6 + n < length (full_chunk w h q)
    black true z = absurd (omega (arith, all_within w h q, black_edges q z))
    black false z = other z (leb (length (brun_body w h q)) (length q)) refl
