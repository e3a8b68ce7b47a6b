-- What `best` finds: a way (`is_way`) that no way undercuts (`is_least`); the rule of preference leaves it (`is_house`), and leaves no other (`one_house`).
-- The idea: the table has at k the best way of what is left after k elements (`table_at`), so the best way begins with the first of the moves that cost least
-- together with the best way from where they lead (`step`), and no move leads past the least cost (`triangle`); the rest is induction over the shorter rests.
-- Where each list of moves has the preferred ones first, the first of those that cost least stands before all others that do (`first_before`).
use mathlib.Core.Path.{◌≡◌, refl, sym, ap, ◌∙◌, subst}
use mathlib.Core.List.Memᴰ
use mathlib.Core.List.{List, [], ◌∷◌, Memᴰ}
use mathlib.Core.Logic.{◌⊎◌, inl, inr, ⊎_elim}
use Prim.Native.Nat.{ℕ, zero, suc, pred, ◌+◌, ◌≤◌, ◌<◌}
use native.Mathlib.Nat.{not-suc-le-zero, le_of_suc-le-suc}
use native.Mathlib.Omega.{arith}
use lib.Dec.{leb}
use lib.ListN.{length, get_or, drop, length-drop}
use borrow.Author.Tests.{le-leb, lt-leb, leb-true, leb-false}
use Rattle.house_least.specs.Least.{Best, done, better, sum, Way, stop, go, Least, Preferred, end, next, via, choose, chosen, table, best}
use Rattle.words.proofs.Tests.{by_test}

-- numbers and rests

pub le_or_lt : (m n : ℕ) → (m ≤ n) ⊎ (n < m)
le_or_lt m n =
    by_test (λ b. (m ≤ n) ⊎ (n < m)) (leb m n)
    (λ e. inl (leb-true m n e))
    (λ e. inr (leb-false m n e))

drop_pred : {A : Type 0} (a : A) (s : List A) (n : ℕ) → 1 ≤ n → drop n (a ∷ s) ≡ drop (pred n) s
drop_pred a s zero h = absurd (not-suc-le-zero h)
drop_pred a s (suc n) h = refl

-- what holds of [] and, where it holds of each shorter rest, of the whole, holds of every list
pub by_rests : {A : Type 0} (P : List A → Type 0) → P []
    → ((a : A) (s : List A) → ((n : ℕ) → 1 ≤ n → P (drop n (a ∷ s))) → P (a ∷ s))
    → (s : List A) → P s
by_rests {A} P base cons s = up (length s) s (omega arith)
  where
    up : (k : ℕ) (s : List A) → length s ≤ k → P s
    up zero [] h = base
    up zero (a ∷ s) h = absurd (not-suc-le-zero h)
    up (suc k) [] h = base
    up (suc k) (a ∷ s) h = cons a s (λ n p. up k (drop n (a ∷ s)) (rw length-drop (omega arith)))

-- the first of a list at which f is least

pub data First {M : Type 0} (f : M → ℕ) : List M → M → Type 0 where
  here : {m : M} {ms : List M} → ((q : M) → Memᴰ q ms → f m ≤ f q) → First f (m ∷ ms) m
  later : {x m : M} {ms : List M} → f m < f x → First f ms m → First f (x ∷ ms) m

pub first_mem : {M : Type 0} {f : M → ℕ} {ms : List M} {m : M} → First f ms m → Memᴰ m ms
first_mem (here h) = Memᴰ.head refl
first_mem (later l h) = Memᴰ.tail (first_mem h)

pub first_least : {M : Type 0} {f : M → ℕ} {ms : List M} {m : M} → First f ms m → (q : M) → Memᴰ q ms → f m ≤ f q
first_least {f = f} (here {m = m} h) q k = ⊎_elim (λ (e : q ≡ m). omega (arith, ap f e)) (λ i. h q i) (Memᴰ.cases_cons k)
first_least {f = f} (later {x = x} l h) q k =
    ⊎_elim (λ (e : q ≡ x). omega (arith, ap f e)) (λ i. omega (arith, first_least h q i)) (Memᴰ.cases_cons k)

first_same : {M : Type 0} (f g : M → ℕ) {ms : List M} {m : M} → ((q : M) → Memᴰ q ms → f q ≡ g q) → First f ms m → First g ms m
first_same {M} f g e (here {m = m} {ms = ms} h) =
    here {m = m} (λ (q : M) (i : Memᴰ q ms). omega (arith, h q i, e q (Memᴰ.tail i), e m (Memᴰ.head refl)))
first_same f g e (later {x = x} {m = m} l h) =
    later {x = x} {m = m} (omega (arith, l, e x (Memᴰ.head refl), e m (Memᴰ.tail (first_mem h)))) (first_same f g (λ q i. e q (Memᴰ.tail i)) h)

-- a list that has each element before those that follow it
pub data Sorted {M : Type 0} (Before : M → M → Type 0) : List M → Type 0 where
  none : Sorted Before []
  more : {m : M} {ms : List M} → ((n : M) → Memᴰ n (m ∷ ms) → Before m n) → Sorted Before ms → Sorted Before (m ∷ ms)

first_before : {M : Type 0} {Before : M → M → Type 0} {f : M → ℕ} {ms : List M} {m : M}
    → Sorted Before ms → First f ms m → (n : M) → Memᴰ n ms → f n ≡ f m → Before m n
first_before none f n i e = elim f [ ]
first_before (more b o) (here h) n i e = b n i
first_before {Before = Before} {f = f} (more b o) (later {x = x} {m = m} l h) n i e =
    ⊎_elim {C = Before m n} (λ (d : n ≡ x). absurd (omega (arith, ap f d))) (λ j. first_before o h n j e) (Memᴰ.cases_cons i)

-- the table, and the move that it chooses

better_first : {M : Type 0} (a b : Best M) → a.total ≤ b.total → better a b ≡ a
unfolding better
better_first a b h = rw (le-leb a.total b.total h, better)

better_second : {M : Type 0} (a b : Best M) → b.total < a.total → better a b ≡ b
unfolding better
better_second a b h = rw (lt-leb a.total b.total h, better)

module _ {A M : Type 0} (span cost : M → ℕ) (moves : List A → List M) where
  -- the cost of the move q and the best way from where it leads
  abbrev onward : List (Best M) → M → ℕ
  onward t q = (via span cost moves t q).total

  choose_first : (t : List (Best M)) (m : M) (ms : List M)
      → (k : M) × First (onward t) (m ∷ ms) k × (choose span cost moves t m ms ≡ via span cost moves t k)
  unfolding choose
  choose_first t m [] = (m, here (λ q i. absurd (Memᴰ.not-nil i)), refl)
  choose_first t m (n ∷ ms) =
      let (k, f, e) = choose_first t n ms in
      ⊎_elim
      {C = (k : M) × First (onward t) (m ∷ (n ∷ ms)) k × (choose span cost moves t m (n ∷ ms) ≡ via span cost moves t k)}
      (λ (h : onward t m ≤ onward t k).
      (m, here (λ q i. omega (arith, first_least f q i, h)), rw e (better_first (via span cost moves t m) (via span cost moves t k) h)))
      (λ (h : onward t k < onward t m). (k, later h f, rw e (better_second (via span cost moves t m) (via span cost moves t k) h)))
      (le_or_lt (onward t m) (onward t k))

  chosen_first : (t : List (Best M)) (ms : List M) → 1 ≤ length ms
      → (k : M) × First (onward t) ms k × (chosen span cost moves t ms ≡ via span cost moves t k)
  unfolding chosen
  chosen_first t [] h = absurd (not-suc-le-zero h)
  chosen_first t (m ∷ ms) h = choose_first t m ms

  table_at : (s : List A) (k : ℕ) → k ≤ length s → get_or (table span cost moves s) k done ≡ best span cost moves (drop k s)
  unfolding table best
  table_at [] zero h = refl
  table_at [] (suc k) h = absurd (not-suc-le-zero h)
  table_at (a ∷ s) zero h = refl
  table_at (a ∷ s) (suc k) h = table_at s k (le_of_suc-le-suc h)

-- the best way, where each move takes something that is there, and there is a move wherever something is left
module _ {A M : Type 0} (span cost : M → ℕ) (moves : List A → List M)
    (fits : (s : List A) (m : M) → Memᴰ m (moves s) → (1 ≤ span m) × (span m ≤ length s))
    (some-move : (a : A) (s : List A) → 1 ≤ length (moves (a ∷ s)))
  where
    abbrev B : List A → Best M
    B s = best span cost moves s

    abbrev pub least_cost : List A → ℕ
    least_cost s = (best span cost moves s).total

    -- k is the first move of the best way
    pub record Step (s : List A) (k : M) : Type 0 where
      pub first : First (λ q. cost q + (best span cost moves (drop (span q) s)).total) (moves s) k
      pub total : (best span cost moves s).total ≡ cost k + (best span cost moves (drop (span k) s)).total
      pub path : (best span cost moves s).path ≡ k ∷ (best span cost moves (drop (span k) s)).path

    -- the move q, then the best way from where it leads
    abbrev to : List A → M → Best M
    to s q = record { total = cost q + least_cost (drop (span q) s); path = q ∷ (B (drop (span q) s)).path }

    via_at : (a : A) (s : List A) (q : M) → 1 ≤ span q → span q ≤ suc (length s) → via span cost moves (table span cost moves s) q ≡ to (a ∷ s) q
    unfolding via
    via_at a s q l h =
        ap (λ (b : Best M). record { total = cost q + b.total; path = q ∷ b.path })
        (table_at span cost moves s (pred (span q)) (omega arith) ∙ ap (λ (r : List A). B r) (sym (drop_pred a s (span q) l)))

    best_cons : (a : A) (s : List A) → B (a ∷ s) ≡ chosen span cost moves (table span cost moves s) (moves (a ∷ s))
    unfolding best table
    best_cons a s = refl

    best_nil : B [] ≡ done
    unfolding best table
    best_nil = refl

    pub step : (a : A) (s : List A) → (k : M) × Step (a ∷ s) k
    step a s = begun (chosen_first span cost moves (table span cost moves s) (moves (a ∷ s)) (some-move a s))
      where
        at : (q : M) → Memᴰ q (moves (a ∷ s)) → via span cost moves (table span cost moves s) q ≡ to (a ∷ s) q
        at q i = via_at a s q (fits (a ∷ s) q i).0 (fits (a ∷ s) q i).1

        begun : (k : M) × First (onward span cost moves (table span cost moves s)) (moves (a ∷ s)) k
            × (chosen span cost moves (table span cost moves s) (moves (a ∷ s)) ≡ via span cost moves (table span cost moves s) k)
            → (k : M) × Step (a ∷ s) k
        begun c =
            let e : B (a ∷ s) ≡ to (a ∷ s) c.0 = best_cons a s ∙ c.2 ∙ at c.0 (first_mem c.1) in (
              c.0,
              record {
                first = first_same (onward span cost moves (table span cost moves s)) (λ q. (to (a ∷ s) q).total)
                    (λ q i. ap (λ (b : Best M). b.total) (at q i)) c.1;
                total = ap (λ (b : Best M). b.total) e;
                path = ap (λ (b : Best M). b.path) e;
              },
            )

    -- no move leads past the least cost
    pub triangle : (s : List A) (q : M) → Memᴰ q (moves s) → least_cost s ≤ cost q + least_cost (drop (span q) s)
    triangle [] q i = omega (arith, (fits [] q i).0, (fits [] q i).1)
    triangle (a ∷ s) q i =
        let (k, w) = step a s in
        omega (arith, w.total, first_least w.first q i)

    -- no way costs less
    pub way_cost : {s : List A} {ms : List M} → Way span cost moves s ms → least_cost s ≤ sum cost ms
    unfolding sum best table
    way_cost stop = omega arith
    way_cost (go {s = s} {m = m} i w) = omega (arith, triangle s m i, way_cost w)

    pub is_way : (s : List A) → Way span cost moves s (best span cost moves s).path
    is_way = by_rests (λ s. Way span cost moves s (B s).path) (rw best_nil stop) more
      where
        more : (a : A) (s : List A) → ((n : ℕ) → 1 ≤ n → Way span cost moves (drop n (a ∷ s)) (B (drop n (a ∷ s))).path)
            → Way span cost moves (a ∷ s) (B (a ∷ s)).path
        more a s shorter =
            let (k, w) = step a s in
            let i = first_mem w.first in
            rw w.path (go i (shorter (span k) (fits (a ∷ s) k i).0))

    sum_nil : sum cost (B []).path ≡ least_cost []
    unfolding best table sum
    sum_nil = refl

    pub best_cost : (s : List A) → sum cost (best span cost moves s).path ≡ least_cost s
    unfolding sum
    best_cost = by_rests (λ s. sum cost (B s).path ≡ least_cost s) sum_nil more
      where
        more : (a : A) (s : List A) → ((n : ℕ) → 1 ≤ n → sum cost (B (drop n (a ∷ s))).path ≡ least_cost (drop n (a ∷ s)))
            → sum cost (B (a ∷ s)).path ≡ least_cost (a ∷ s)
        more a s shorter =
            let (k, w) = step a s in
            let i = first_mem w.first in
            rw (w.path, w.total) (ap (λ (n : ℕ). cost k + n) (shorter (span k) (fits (a ∷ s) k i).0))

    pub is_least : (s : List A) → Least span cost moves s (best span cost moves s).path
    is_least s = record { way = is_way s; least = λ ns w. omega (arith, best_cost s, way_cost w) }

    way_first : {s : List A} {m : M} {ms : List M} → Way span cost moves s (m ∷ ms) → Memᴰ m (moves s)
    way_first (go i w) = i

    way_rest : {s : List A} {m : M} {ms : List M} → Way span cost moves s (m ∷ ms) → Way span cost moves (drop (span m) s) ms
    way_rest (go i w) = w

    -- what a first move of a least way costs with the best way from where it leads
    least_first : {s : List A} {m : M} {ms : List M} → Least span cost moves s (m ∷ ms) → cost m + least_cost (drop (span m) s) ≡ least_cost s
    unfolding sum
    least_first {s} {m} {ms} l =
        omega (arith, l.least (B s).path (is_way s), best_cost s, triangle s m (way_first l.way), way_cost (way_rest l.way))

    -- preference: each list of moves has the preferred ones first
    module _ (Before : M → M → Type 0)
        (sorted : (s : List A) → Sorted Before (moves s))
        (antisym : (m n : M) → Before m n → Before n m → m ≡ n)
      where
        pub is_house : (s : List A) → Preferred span cost moves Before s (best span cost moves s).path
        is_house = by_rests (λ s. Preferred span cost moves Before s (B s).path) (rw best_nil end) more
          where
            more : (a : A) (s : List A) → ((n : ℕ) → 1 ≤ n → Preferred span cost moves Before (drop n (a ∷ s)) (B (drop n (a ∷ s))).path)
                → Preferred span cost moves Before (a ∷ s) (B (a ∷ s)).path
            more a s shorter =
                let (k, w) = step a s in
                let i = first_mem w.first in
                rw w.path
                (next
                (rw w.path at (is_least (a ∷ s)))
                (λ n ns l. first_before (sorted (a ∷ s)) w.first n (way_first l.way) (omega (arith, least_first l, w.total)))
                (shorter (span k) (fits (a ∷ s) k i).0))

        pub one_house : {s : List A} {ms ns : List M} → Preferred span cost moves Before s ms → Preferred span cost moves Before s ns → ms ≡ ns
        one_house end end = refl
        one_house end (next {m = m} l b h) = let i = fits [] m (way_first l.way) in absurd (omega arith)
        one_house (next {m = m} l b h) end = let i = fits [] m (way_first l.way) in absurd (omega arith)
        one_house (next {s = s} {m = m} {ms = ms} l b h) (next {m = n} {ms = ns} l' b' h') =
            let e : m ≡ n = antisym m n (b n ns l') (b' m ms l) in
            let d : ms ≡ ns = one_house h (subst (λ (x : M). Preferred span cost moves Before (drop (span x) s) ns) (sym e) h') in
            cc

        -- a search's step: the move that no other undercuts, and that stands before each that costs the same, begins the best way
        pub begins : (a : A) (s : List A) (p : M) → Memᴰ p (moves (a ∷ s))
            → ((q : M) → Memᴰ q (moves (a ∷ s)) → cost p + least_cost (drop (span p) (a ∷ s)) ≤ cost q + least_cost (drop (span q) (a ∷ s)))
            → ((q : M) → Memᴰ q (moves (a ∷ s)) → cost q + least_cost (drop (span q) (a ∷ s)) ≡ cost p + least_cost (drop (span p) (a ∷ s)) → Before p q)
            → Step (a ∷ s) p
        begins a s p i least-of first_of =
            let (k, w) = step a s in
            let m = first_mem w.first in
            let t : cost p + least_cost (drop (span p) (a ∷ s)) ≡ cost k + least_cost (drop (span k) (a ∷ s)) =
            omega (arith, first_least w.first p i, least-of k m) in
            let e : k ≡ p = antisym k p (first_before (sorted (a ∷ s)) w.first p i t) (first_of k m (sym t)) in
            subst (λ (q : M). Step (a ∷ s) q) e w
