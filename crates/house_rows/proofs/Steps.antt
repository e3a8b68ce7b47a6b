-- How the house row of a rest follows from those of the shorter rests: the longest repeat, or the copy to the lowest end.
-- The idea: a shorter rest takes no more bytes (`size_tail`), so of the repeats the longest is best; of the copies the one to the lowest end is.
use mathlib.Core.Path.{◌≡◌, refl, ap, ◌∙◌, subst}
use mathlib.Core.List.Memᴰ
use mathlib.Core.List.{List, [], ◌∷◌, Memᴰ}
use mathlib.Core.Logic.{⊎_elim}
use mathlib.Core.Bool.{Bool, true, false, cond}
use Prim.Native.Nat.{ℕ, zero, suc, ◌+◌, ◌-◌, ◌*◌, ◌≤◌, ◌<◌, min}
use native.Mathlib.Nat.{not-suc-le-zero}
use native.Mathlib.Omega.{arith}
use lib.Dec.{eqb}
use lib.ListN.{length, get_or, drop, length-drop}
use lib.Seq.{drop-drop, drop-cons}
use borrow.Author.Tests.{eqb-true, eq-eqb, ne_eqb}
use Rattle.house_least.specs.Least.{best, table}
use Rattle.house_least.proofs.Laws as laws
use Rattle.house_rows.specs.Row.{RowPacket, repeat, copy, span, size, equal, down, allowed, house, bytes, house_bytes, Before}
use Rattle.house_rows.specs.Window.{Lowest}
use Rattle.house_rows.proofs.Lowest.{shifted, the}
use Rattle.house_rows.proofs.Packets.{fits, some_packet, sorted, antisym, mem_down, copy_mem, copy_of, down_mem, equal_le}
use Rattle.house_rows.proofs.RowRule.{least_size, house_size}

-- the longest repeat at the front

-- how many pixels the longest repeat at the front of s writes
unfoldable pub run : List ℕ → ℕ
run [] = 0
run (v ∷ s) = min 127 (suc (equal v s))

pub run_one : (v : ℕ) → run (v ∷ []) ≡ 1
unfolding run equal
run_one v = refl

pub run_same : (v x : ℕ) (s : List ℕ) → v ≡ x → run (v ∷ (x ∷ s)) ≡ min 127 (suc (run (x ∷ s)))
unfolding run equal
run_same v x s e = rw (eq-eqb v x e, equal) (omega (arith, ap (λ (y : ℕ). equal y s) e))

pub run_other : (v x : ℕ) (s : List ℕ) → (v ≡ x → ⊥) → run (v ∷ (x ∷ s)) ≡ 1
unfolding run equal
run_other v x s e = rw (ne_eqb v x e, equal) (omega arith)

pub run_bound : (s : List ℕ) → run s ≤ min 127 (length s)
unfolding run
run_bound [] = omega arith
run_bound (v ∷ s) = omega (arith, equal_le v s)

pub run_some : (row : List ℕ) (i : ℕ) → i < length row → 1 ≤ run (drop i row)
unfolding run
run_some row i h = rw (drop-cons row i 0 (omega arith)) (omega arith)

-- sizes

repeat_in : (n v : ℕ) (s : List ℕ) → 1 ≤ n → n ≤ 127 → n ≤ equal v s → Memᴰ (repeat n) (allowed s)
unfolding equal allowed
repeat_in n v [] l h k = absurd (omega arith)
repeat_in n v (x ∷ s) l h k = by_case (eqb v x) refl k
  where
    by_case : (b : Bool) → eqb v x ≡ b → n ≤ cond b (suc (equal v s)) 0 → Memᴰ (repeat n) (allowed (x ∷ s))
    by_case true e j =
        Memᴰ.append_left (down copy (min 128 (suc (length s))))
        (mem_down repeat (min 127 (suc (equal x s))) n l (omega (arith, ap (λ (y : ℕ). equal y s) (eqb-true v x e))))
    by_case false e j = absurd (omega arith)

repeat_is : (n v : ℕ) (s : List ℕ) → Memᴰ (repeat n) (allowed (v ∷ s)) → (1 ≤ n) × (n ≤ run (v ∷ s))
unfolding allowed run
repeat_is n v s i =
    ⊎_elim {C = (1 ≤ n) × (n ≤ min 127 (suc (equal v s)))}
    (λ j. let (k, e, l, h) = down_mem repeat (min 127 (suc (equal v s))) (repeat n) j in let q : n ≡ k = cc in omega arith)
    (λ j. let (k, e, l, h) = down_mem copy (min 128 (suc (length s))) (repeat n) j in let z : ◌≡◌ {A = ℕ} 0 1 = cc in absurd (omega arith))
    (Memᴰ.append_cases (down repeat (min 127 (suc (equal v s)))) i)

-- a shorter rest costs no more
pub size_tail : (v : ℕ) (s : List ℕ) → least_size s ≤ least_size (v ∷ s)
unfolding least_size run
size_tail v s =
    let (k, w) = laws.step span size allowed fits some_packet v s in
    by_case k (laws.first_mem w.first) w.total
  where
    F : List ℕ → ℕ
    F r = (best span size allowed r).total

    by_case : (k : RowPacket) → Memᴰ k (allowed (v ∷ s)) → F (v ∷ s) ≡ size k + F (drop (span k) (v ∷ s)) → F s ≤ F (v ∷ s)
    by_case (repeat zero) i e = omega (arith, repeat_is zero v s i)
    by_case (repeat (suc zero)) i e = omega arith
    by_case (repeat (suc (suc n))) i e =
        let k = repeat_is (suc (suc n)) v s i in
        omega (arith, laws.triangle span size allowed fits some_packet s (repeat (suc n)) (repeat_in (suc n) v s (omega arith) (omega arith) (omega arith)))
    by_case (copy zero) i e = omega (arith, copy_of zero (v ∷ s) i)
    by_case (copy (suc zero)) i e = omega arith
    by_case (copy (suc (suc n))) i e =
        let k = copy_of (suc (suc n)) (v ∷ s) i in
        omega (arith, laws.triangle span size allowed fits some_packet s (copy (suc n)) (copy_mem s (suc n) (omega arith) (omega arith) (omega arith)))

pub size_drop : (k : ℕ) (s : List ℕ) → least_size (drop k s) ≤ least_size s
size_drop zero s = omega arith
size_drop (suc k) [] = omega arith
size_drop (suc k) (v ∷ s) = omega (arith, size_drop k s, size_tail v s)

pub size_later : (i j : ℕ) (s : List ℕ) → i ≤ j → least_size (drop j s) ≤ least_size (drop i s)
size_later i j s h =
    subst (λ (k : ℕ). least_size (drop k s) ≤ least_size (drop i s)) (the (i + (j - i) ≡ j) (omega arith))
    (rw drop-drop at (size_drop (j - i) (drop i s)))

pub size_up : (s : List ℕ) → least_size s ≤ 2 * length s
size_up [] = unfold least_size best table in omega arith
size_up (v ∷ s) = omega (arith, size_up s, one_more)
  where
    one_more : least_size (v ∷ s) ≤ 2 + least_size s
    one_more = unfold least_size in
        (laws.triangle span size allowed fits some_packet (v ∷ s) (copy 1) (copy_mem (v ∷ s) 1 (omega arith) (omega arith) (omega arith)))

-- the first packet

-- its type, which is the first byte of the house row
unfoldable pub code : RowPacket → ℕ
code (repeat n) = n
code (copy n) = 256 - n

-- p begins the house row of s
pub record Begins (s : List ℕ) (p : RowPacket) : Type 0 where
  pub cost : least_size s ≡ size p + least_size (drop (span p) s)
  pub house : house s ≡ p ∷ house (drop (span p) s)

module _ (v : ℕ) (s : List ℕ) (c : ℕ)
    (lowest : Lowest (λ j. j + least_size (drop j (v ∷ s))) 1 (min 128 (suc (length s))) c)
  where
    on : RowPacket → ℕ
    on p = size p + least_size (drop (span p) (v ∷ s))

    repeat_on : (n : ℕ) → Memᴰ (repeat n) (allowed (v ∷ s)) → 2 + least_size (drop (run (v ∷ s)) (v ∷ s)) ≤ on (repeat n)
    unfolding on
    repeat_on n i = omega (arith, size_later n (run (v ∷ s)) (v ∷ s) (repeat_is n v s i).1)

    copy_on : (n : ℕ) → Memᴰ (copy n) (allowed (v ∷ s)) → on (copy c) ≤ on (copy n)
    unfolding on
    copy_on n i = let k = copy_of n (v ∷ s) i in omega (arith, lowest.least n k.0 (omega arith))

    -- the packet that no other undercuts, and that stands before each that costs the same
    begins : (p : RowPacket) → Memᴰ p (allowed (v ∷ s))
        → ((q : RowPacket) → Memᴰ q (allowed (v ∷ s)) → on p ≤ on q)
        → ((q : RowPacket) → Memᴰ q (allowed (v ∷ s)) → on q ≡ on p → Before p q)
        → Begins (v ∷ s) p
    unfolding on least_size house
    begins p i least first =
        let w = laws.begins span size allowed fits some_packet Before sorted antisym v s p i least first in
        record { cost = w.total; house = w.path }

    run_low : (1 ≤ run (v ∷ s)) × (run (v ∷ s) ≤ min 127 (suc (length s)))
    unfolding run
    run_low = omega (arith, equal_le v s)

    run_mem : Memᴰ (repeat (run (v ∷ s))) (allowed (v ∷ s))
    unfolding allowed run
    run_mem = Memᴰ.append_left (down copy (min 128 (suc (length s)))) (mem_down repeat (min 127 (suc (equal v s))) (run (v ∷ s)) run_low.0 (omega arith))

    pub begins_repeat : 2 + least_size (drop (run (v ∷ s)) (v ∷ s)) ≤ 1 + c + least_size (drop c (v ∷ s)) → Begins (v ∷ s) (repeat (run (v ∷ s)))
    unfolding on
    begins_repeat h = begins (repeat (run (v ∷ s))) run_mem least before
      where
        least : (q : RowPacket) → Memᴰ q (allowed (v ∷ s)) → on (repeat (run (v ∷ s))) ≤ on q
        least (repeat n) i = repeat_on n i
        least (copy n) i = omega (arith, copy_on n i)

        before : (q : RowPacket) → Memᴰ q (allowed (v ∷ s)) → on q ≡ on (repeat (run (v ∷ s))) → Before (repeat (run (v ∷ s))) q
        before (repeat n) i e = (repeat_is n v s i).1
        before (copy n) i e = tt

    pub begins_copy : 1 + c + least_size (drop c (v ∷ s)) < 2 + least_size (drop (run (v ∷ s)) (v ∷ s)) → Begins (v ∷ s) (copy c)
    unfolding on
    begins_copy h = begins (copy c) (copy_mem (v ∷ s) c (omega arith) (omega arith) (omega arith)) least before
      where
        least : (q : RowPacket) → Memᴰ q (allowed (v ∷ s)) → on (copy c) ≤ on q
        least (repeat n) i = omega (arith, repeat_on n i)
        least (copy n) i = copy_on n i

        before : (q : RowPacket) → Memᴰ q (allowed (v ∷ s)) → on q ≡ on (copy c) → Before (copy c) q
        before (repeat n) i e = omega (arith, repeat_on n i)
        before (copy n) i e =
            ⊎_elim {C = n ≤ c}
            (λ (l : n ≤ c). l)
            (λ (l : c < n). let k = copy_of n (v ∷ s) i in omega (arith, lowest.last n l (omega arith)))
            (laws.le_or_lt n c)

-- notes

-- what the search notes of a rest: n is the size of its house row, and b that row's first byte
pub record Noted (s : List ℕ) (n b : ℕ) : Type 0 where
  pub size : length (house_bytes s) ≡ n
  pub first : get_or (house_bytes s) 0 0 ≡ b

first_byte : (s : List ℕ) (p : RowPacket) → Begins s p → get_or (house_bytes s) 0 0 ≡ code p
unfolding house_bytes bytes code
first_byte s (repeat n) b = rw b.house
first_byte s (copy n) b = rw b.house

noted : (s : List ℕ) (p : RowPacket) → Begins s p → Noted s (size p + least_size (drop (span p) s)) (code p)
noted s p b = record { size = house_size s ∙ b.cost; first = first_byte s p b }

module _ (s : List ℕ) (c : ℕ) (some : 1 ≤ length s) (lowest : Lowest (λ j. j + least_size (drop j s)) 1 (min 128 (length s)) c) where
  noted_repeat : 2 + least_size (drop (run s) s) ≤ 1 + c + least_size (drop c s) → Noted s (2 + least_size (drop (run s) s)) (run s)
  unfolding code
  noted_repeat = by s some lowest
    where
      by : (s : List ℕ) → 1 ≤ length s → Lowest (λ j. j + least_size (drop j s)) 1 (min 128 (length s)) c
          → 2 + least_size (drop (run s) s) ≤ 1 + c + least_size (drop c s) → Noted s (2 + least_size (drop (run s) s)) (run s)
      by [] l w h = absurd (not-suc-le-zero l)
      by (v ∷ s) l w h = noted (v ∷ s) (repeat (run (v ∷ s))) (begins_repeat v s c w h)

  noted_copy : 1 + c + least_size (drop c s) < 2 + least_size (drop (run s) s) → Noted s (1 + c + least_size (drop c s)) (256 - c)
  unfolding code
  noted_copy = by s some lowest
    where
      by : (s : List ℕ) → 1 ≤ length s → Lowest (λ j. j + least_size (drop j s)) 1 (min 128 (length s)) c
          → 1 + c + least_size (drop c s) < 2 + least_size (drop (run s) s) → Noted s (1 + c + least_size (drop c s)) (256 - c)
      by [] l w h = absurd (not-suc-le-zero l)
      by (v ∷ s) l w h = noted (v ∷ s) (copy c) (begins_copy v s c w h)

-- the least size at each place of a row
unfoldable pub from : List ℕ → ℕ → ℕ
from row j = least_size (drop j row)

-- where a copy ends, and the least size from there
unfoldable pub reach : List ℕ → ℕ → ℕ
reach row j = j + from row j

module _ (row : List ℕ) (i m : ℕ) (inside : i < length row) (lowest : Lowest (reach row) (i + 1) (min (i + 128) (length row)) m) where
  here : Lowest (λ j. j + least_size (drop j (drop i row))) 1 (min 128 (length (drop i row))) (m - i)
  unfolding reach from
  here =
      subst (λ (b : ℕ). Lowest (λ j. j + least_size (drop j (drop i row))) 1 b (m - i))
      (the (min (i + 128) (length row) - i ≡ min 128 (length (drop i row))) (rw length-drop (omega arith)))
      (shifted (reach row) (λ j. j + least_size (drop j (drop i row))) i (min (i + 128) (length row)) m
      (λ j. omega (arith, ap least_size (drop-drop j i row))) lowest)

  at_end : least_size (drop (m - i) (drop i row)) ≡ from row m
  unfolding from
  at_end = ap least_size (drop-drop (m - i) i row ∙ ap (λ (k : ℕ). drop k row) (the (i + (m - i) ≡ m) (omega arith)))

  at_run : least_size (drop (run (drop i row)) (drop i row)) ≡ from row (i + run (drop i row))
  unfolding from
  at_run = ap least_size (drop-drop (run (drop i row)) i row)

  some : 1 ≤ length (drop i row)
  some = rw length-drop (omega arith)

  pub repeat_best : 2 + from row (i + run (drop i row)) ≤ 1 + (m - i) + from row m
      → Noted (drop i row) (2 + from row (i + run (drop i row))) (run (drop i row))
  repeat_best h =
      subst (λ (n : ℕ). Noted (drop i row) (2 + n) (run (drop i row))) at_run
      (noted_repeat (drop i row) (m - i) some here (omega (arith, at_run, at_end)))

  pub copy_best : 1 + (m - i) + from row m < 2 + from row (i + run (drop i row))
      → Noted (drop i row) (1 + (m - i) + from row m) (256 - (m - i))
  copy_best h =
      subst (λ (n : ℕ). Noted (drop i row) (1 + (m - i) + n) (256 - (m - i))) at_end
      (noted_copy (drop i row) (m - i) some here (omega (arith, at_run, at_end)))
