-- The window of a copy's ends: how a sweep fills its far part, how it moves one place to the left, and where it is lowest.
use mathlib.Core.Path.{◌≡◌, sym, ap, ap₂, ◌∙◌, subst}
use mathlib.Core.List.{List}
use mathlib.Core.Logic.{⊎_elim}
use Prim.Native.Nat.{ℕ, ◌+◌, ◌*◌, ◌%◌, ◌/◌, ◌≤◌, ◌<◌}
use native.Mathlib.Omega.{arith}
use lib.ListN.{length, get_or, set}
use lib.Seq.{get_or-set_same, get_or-set_other}
use Rattle.house_least.proofs.Laws.{le_or_lt}
use Rattle.house_rows.specs.declared.End.{End}
use Rattle.house_rows.specs.Window.{places, end_of, LowestEnd, Lower, Window}
use Rattle.house_rows.proofs.Lowest.{one, join_left, join_right, agreed}

-- an end packed into one number

pub end_packed : (e : End) (n : ℕ) → e.place < places → n ≡ e.sum * places + e.place → end_of n ≡ e
end_packed e n h q =
    let p : n % places ≡ e.place = omega arith in
    let s : n / places ≡ e.sum = omega arith in
    ap₂ {C = End} (λ (a b : ℕ). record { place = a; sum = b }) p s

-- a bound on both sums is one on the lower
pub lower_small : (n : ℕ) (a b r : End) → Lower a b r → a.sum < n → b.sum < n → r.sum < n
lower_small n a b r w h k =
    ⊎_elim {C = r.sum < n} (λ (l : a.sum ≤ b.sum). rw (w.first l) h) (λ (l : b.sum < a.sum). rw (w.second l) k) (le_or_lt a.sum b.sum)

module _ (d : ℕ → ℕ) where
  -- the end at one place
  pub one_end : (e : End) → e.sum ≡ d e.place → LowestEnd d e.place e.place e
  one_end e s = record { lowest = one d e.place; sum_is = s }

  -- a sweep: far has the lowest end from t + 1 to each place up to j
  abbrev pub Swept : ℕ → ℕ → List ℕ → Type 0
  Swept t j far = (k : ℕ) → t < k → k ≤ j → LowestEnd d (t + 1) k (end_of (get_or far k 0))

  pub swept_more : (t j n v : ℕ) (far : List ℕ) → n ≡ j + 1 → n < length far → Swept t j far → LowestEnd d (t + 1) n (end_of v) → Swept t n (set far n v)
  swept_more t j n v far next fit swept low k l h =
      ⊎_elim {C = LowestEnd d (t + 1) k (end_of (get_or (set far n v) k 0))}
      (λ (e : k ≤ j). rw (get_or-set_other far n k v 0 (omega arith)) (swept k l e))
      (λ (e : j < k).
      let q : k ≡ n = omega arith in
      rw q (rw (get_or-set_same far n v 0 fit) low))
      (le_or_lt k j)

  -- ranges joined by `lower`

  -- two ranges side by side, the right one preferred
  pub lower_join : (a b c : ℕ) (m n r : End) → LowestEnd d a b m → LowestEnd d (b + 1) c n → Lower n m r → LowestEnd d a c r
  lower_join a b c m n r left right w =
      ⊎_elim {C = LowestEnd d a c r}
      (λ (h : n.sum ≤ m.sum). rw (w.first h) (record {
        lowest = join_right d a b c m.place n.place left.lowest right.lowest (omega (arith, left.sum_is, right.sum_is));
        sum_is = right.sum_is;
      }))
      (λ (h : m.sum < n.sum). rw (w.second h) (record {
        lowest = join_left d a b c m.place n.place left.lowest right.lowest (omega (arith, left.sum_is, right.sum_is));
        sum_is = left.sum_is;
      }))
      (le_or_lt n.sum m.sum)

  -- the first place, or one more on the right
  pub lower_next : (t j n : ℕ) (m e r : End) → n ≡ j + 1 → t ≤ j → e.place ≡ n → e.sum ≡ d n → (j ≡ t → m.sum ≡ e.sum)
      → (t < j → LowestEnd d (t + 1) j m) → Lower e m r
      → LowestEnd d (t + 1) n r
  lower_next t j n m e r next h p s start more w =
      let right : LowestEnd d n n e = subst (λ (k : ℕ). LowestEnd d k k e) p (one_end e (s ∙ ap d (sym p))) in
      ⊎_elim {C = LowestEnd d (t + 1) n r}
      (λ (l : j ≤ t).
      let q : n ≡ t + 1 = omega arith in
      let z : r ≡ e = w.first (omega (arith, start (omega arith))) in
      subst (λ (k : ℕ). LowestEnd d k n r) q (rw z right))
      (λ (l : t < j). lower_join (t + 1) j n m e r (more l) (subst (λ (k : ℕ). LowestEnd d k n e) next right) w)
      (le_or_lt j t)

-- where two functions agree

pub end_agreed : (d e : ℕ → ℕ) (a b : ℕ) (m : End) → ((j : ℕ) → a ≤ j → j ≤ b → d j ≡ e j) → LowestEnd d a b m → LowestEnd e a b m
end_agreed d e a b m same l = record {
  lowest = agreed d e a b m.place same l.lowest;
  sum_is = l.sum_is ∙ same m.place l.lowest.low l.lowest.high;
}

pub window_agreed : (d e : ℕ → ℕ) (w t split : ℕ) (near : End) (far : List ℕ) → ((j : ℕ) → t ≤ j → j ≤ w → d j ≡ e j) → Window d w t split near far
    → Window e w t split near far
window_agreed d e w t split near far same v = record {
  close = end_agreed d e t split near (λ j l h. same j l (omega (arith, v.inside))) v.close;
  narrow = v.narrow;
  inside = v.inside;
  whole = v.whole;
  away = λ h j l k. end_agreed d e (split + 1) j (end_of (get_or far j 0))
      (λ n a b. same n (omega (arith, v.close.lowest.low, v.close.lowest.high)) (omega (arith, v.whole h))) (v.away h j l k);
}
