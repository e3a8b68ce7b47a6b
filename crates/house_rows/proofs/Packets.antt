-- Which packets may come first, in which order, and what their bytes stand for.
use mathlib.Core.Path.{◌≡◌, refl, sym, ap, subst}
use mathlib.Core.List.Memᴰ
use mathlib.Core.List.{List, [], ◌∷◌, ◌++◌, Memᴰ}
use mathlib.Core.Logic.{⊎_elim}
use mathlib.Core.Bool.{Bool, true, false, cond}
use Prim.Native.Nat.{ℕ, zero, suc, ◌≤◌, ◌<◌, min}
use native.Mathlib.Omega.{arith}
use lib.Dec.{eqb}
use lib.ListN.{length, get_or, take, replicate, length-append}
use borrow.Author.Tests.{eqb-true, eq-eqb}
use Rattle.house_least.proofs.Laws as laws
use Rattle.house_least.proofs.Laws.{Sorted}
use Rattle.house_rows.specs.Row.{RowPacket, repeat, copy, span, equal, down, allowed, Before}

-- packets of one sort, the longest first

pub down_mem : (f : ℕ → RowPacket) (n : ℕ) (p : RowPacket) → Memᴰ p (down f n) → (k : ℕ) × (p ≡ f k) × (1 ≤ k) × (k ≤ n)
unfolding down
down_mem f zero p i = absurd (Memᴰ.not-nil i)
down_mem f (suc n) p i =
    ⊎_elim {C = (k : ℕ) × (p ≡ f k) × (1 ≤ k) × (k ≤ suc n)}
    (λ (e : p ≡ f (suc n)). (suc n, e, omega arith, omega arith))
    (λ j. let (k, e, l, h) = down_mem f n p j in (k, e, l, omega arith))
    (Memᴰ.cases_cons i)

pub mem_down : (f : ℕ → RowPacket) (n k : ℕ) → 1 ≤ k → k ≤ n → Memᴰ (f k) (down f n)
unfolding down
mem_down f zero k l h = absurd (omega arith)
mem_down f (suc n) k l h =
    ⊎_elim {C = Memᴰ (f k) (f (suc n) ∷ down f n)}
    (λ (e : k ≤ n). Memᴰ.tail (mem_down f n k l e))
    (λ (e : n < k). Memᴰ.head (ap f (omega arith)))
    (laws.le_or_lt k n)

length_down : (f : ℕ → RowPacket) (n : ℕ) → length (down f n) ≡ n
unfolding down
length_down f zero = refl
length_down f (suc n) = ap suc (length_down f n)

-- equal pixels at the front

pub equal_le : (v : ℕ) (s : List ℕ) → equal v s ≤ length s
unfolding equal
equal_le v [] = omega arith
equal_le v (x ∷ s) = by_test (eqb v x) (equal_le v s)
  where
    by_test : (b : Bool) → equal v s ≤ length s → cond b (suc (equal v s)) 0 ≤ suc (length s)
    by_test true h = omega arith
    by_test false h = omega arith

equal_more : (n v : ℕ) (s : List ℕ) → n ≤ equal v (replicate n v ++ s)
unfolding equal
equal_more zero v s = omega arith
equal_more (suc n) v s = rw (eq-eqb v v refl, equal) (omega (arith, equal_more n v s))

equal_take : (n v : ℕ) (s : List ℕ) → n ≤ equal v s → take n s ≡ replicate n v
unfolding equal
equal_take zero v s h = refl
equal_take (suc n) v [] h = absurd (omega arith)
equal_take (suc n) v (x ∷ s) h = by_test (λ k. equal_take n v s k) (eqb v x) refl h
  where
    by_test : (n ≤ equal v s → take n s ≡ replicate n v) → (b : Bool) → eqb v x ≡ b → suc n ≤ cond b (suc (equal v s)) 0 → x ∷ take n s ≡ v ∷ replicate n v
    by_test ih true e k =
        let q : v ≡ x = eqb-true v x e in
        let r : take n s ≡ replicate n v = ih (omega arith) in
        cc
    by_test ih false e k = absurd (omega arith)

-- the packets that may come first

-- a repeat that may stand first
pub record Repeats (n : ℕ) (s : List ℕ) : Type 0 where
  pub low : 1 ≤ n
  pub high : n ≤ 127
  pub fits : n ≤ length s
  pub all : take n s ≡ replicate n (get_or s 0 0)

pub repeat_of : (n : ℕ) (s : List ℕ) → Memᴰ (repeat n) (allowed s) → Repeats n s
unfolding allowed
repeat_of n [] i = absurd (Memᴰ.not-nil i)
repeat_of n (v ∷ s) i =
    ⊎_elim {C = Repeats n (v ∷ s)}
    (λ j.
    let (k, e, l, h) = down_mem repeat (min 127 (suc (equal v s))) (repeat n) j in
    let q : n ≡ k = cc in
    record { low = omega arith; high = omega arith; fits = omega (arith, equal_le v s); all = front n (omega arith) (omega arith) })
    (λ j. let (k, e, l, h) = down_mem copy (min 128 (suc (length s))) (repeat n) j in let z : ◌≡◌ {A = ℕ} 0 1 = cc in absurd (omega arith))
    (Memᴰ.append_cases (down repeat (min 127 (suc (equal v s)))) i)
  where
    front : (m : ℕ) → 1 ≤ m → m ≤ suc (equal v s) → take m (v ∷ s) ≡ replicate m v
    front zero l h = absurd (omega arith)
    front (suc m) l h = ap {B = List ℕ} (λ r. v ∷ r) (equal_take m v s (omega arith))

pub copy_of : (n : ℕ) (s : List ℕ) → Memᴰ (copy n) (allowed s) → (1 ≤ n) × (n ≤ 128) × (n ≤ length s)
unfolding allowed
copy_of n [] i = absurd (Memᴰ.not-nil i)
copy_of n (v ∷ s) i =
    ⊎_elim {C = (1 ≤ n) × (n ≤ 128) × (n ≤ suc (length s))}
    (λ j. let (k, e, l, h) = down_mem repeat (min 127 (suc (equal v s))) (copy n) j in let z : ◌≡◌ {A = ℕ} 0 1 = cc in absurd (omega arith))
    (λ j.
    let (k, e, l, h) = down_mem copy (min 128 (suc (length s))) (copy n) j in
    let q : n ≡ k = cc in
    omega arith)
    (Memᴰ.append_cases (down repeat (min 127 (suc (equal v s)))) i)

pub repeat_mem : (n v : ℕ) (s : List ℕ) → 1 ≤ n → n ≤ 127 → Memᴰ (repeat n) (allowed (replicate n v ++ s))
unfolding allowed
repeat_mem zero v s l h = absurd (omega arith)
repeat_mem (suc n) v s l h =
    Memᴰ.append_left (down copy (min 128 (suc (length (replicate n v ++ s)))))
    (mem_down repeat (min 127 (suc (equal v (replicate n v ++ s)))) (suc n) l (omega (arith, equal_more n v s)))

pub copy_mem : (s : List ℕ) (n : ℕ) → 1 ≤ n → n ≤ 128 → n ≤ length s → Memᴰ (copy n) (allowed s)
unfolding allowed
copy_mem [] n l h f = absurd (omega arith)
copy_mem (v ∷ s) n l h f =
    Memᴰ.append_right (down repeat (min 127 (suc (equal v s)))) (mem_down copy (min 128 (suc (length s))) n l (omega arith))

-- what the least way asks of the packets

pub fits : (s : List ℕ) (p : RowPacket) → Memᴰ p (allowed s) → (1 ≤ span p) × (span p ≤ length s)
fits s (repeat n) i = let r = repeat_of n s i in (r.low, r.fits)
fits s (copy n) i = omega (arith, copy_of n s i)

pub some_packet : (v : ℕ) (s : List ℕ) → 1 ≤ length (allowed (v ∷ s))
unfolding allowed
some_packet v s = simp (length-append, length_down) (omega arith)

sorted_copies : (n : ℕ) → Sorted Before (down copy n)
unfolding down
sorted_copies zero = laws.none
sorted_copies (suc n) =
    laws.more
    (λ q i. let (k, e, l, h) = down_mem copy (suc n) q i in subst (λ (x : RowPacket). Before (copy (suc n)) x) (sym e) h)
    (sorted_copies n)

sorted_both : (n m : ℕ) → Sorted Before (down repeat n ++ down copy m)
unfolding down
sorted_both zero m = sorted_copies m
sorted_both (suc n) m =
    laws.more
    (λ q i.
    ⊎_elim {C = Before (repeat (suc n)) q}
    (λ j. let (k, e, l, h) = down_mem repeat (suc n) q j in subst (λ (x : RowPacket). Before (repeat (suc n)) x) (sym e) h)
    (λ j. let (k, e, l, h) = down_mem copy m q j in subst (λ (x : RowPacket). Before (repeat (suc n)) x) (sym e) tt)
    (Memᴰ.append_cases (down repeat (suc n)) i))
    (sorted_both n m)

pub sorted : (s : List ℕ) → Sorted Before (allowed s)
unfolding allowed
sorted [] = laws.none
sorted (v ∷ s) = sorted_both (min 127 (suc (equal v s))) (min 128 (suc (length s)))

pub antisym : (p q : RowPacket) → Before p q → Before q p → p ≡ q
antisym (repeat n) (repeat k) h l = ap repeat (omega arith)
antisym (repeat n) (copy k) h l = absurd l
antisym (copy n) (repeat k) h l = absurd h
antisym (copy n) (copy k) h l = ap copy (omega arith)
