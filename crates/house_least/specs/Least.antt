-- The least way through a list by moves, and which of several least ways a rule of preference takes.
-- A move takes some elements off the front of what is left, and costs something; `moves s` lists those that are allowed at s, the preferred ones first.
use mathlib.Core.List.{List, [], ◌∷◌, Memᴰ}
use Rattle.std.specs.Prelude.{ℕ, pred, ◌+◌, ◌≤◌, leb, get_or, drop, cond}

-- a way with its cost
pub record Best (M : Type 0) : Type 0 where
  pub total : ℕ
  pub path : List M

-- nothing is left to take
abbrev pub done : {M : Type 0} → Best M
done = record { total = 0; path = [] }

-- the first of two unless the second costs less
unfoldable pub better : {M : Type 0} → Best M → Best M → Best M
better a b = cond (leb a.total b.total) a b

module _ {M : Type 0} (cost : M → ℕ) where
  -- what moves cost together
  unfoldable pub sum : List M → ℕ
  sum [] = 0
  sum (m ∷ ms) = cost m + sum ms

module _ {A M : Type 0} (span cost : M → ℕ) (moves : List A → List M) where
  -- a way of allowed moves that takes all of s
  pub data Way : List A → List M → Type 0 where
    stop : Way [] []
    go : {s : List A} {m : M} {ms : List M} → Memᴰ m (moves s) → Way (drop (span m) s) ms → Way s (m ∷ ms)

  -- a way that no other way undercuts
  pub record Least (s : List A) (ms : List M) : Type 0 where
    pub way : Way s ms
    pub least : (ns : List M) → Way s ns → sum cost ms ≤ sum cost ns

  -- the way that the rule of preference leaves: "left to right: among first" moves "that begin a least" way, the one before all others
  module _ (Before : M → M → Type 0) where
    pub data Preferred : List A → List M → Type 0 where
      end : Preferred [] []
      next : {s : List A} {m : M} {ms : List M}
          → Least s (m ∷ ms)
          → ((n : M) (ns : List M) → Least s (n ∷ ns) → Before m n)
          → Preferred (drop (span m) s) ms
          → Preferred s (m ∷ ms)

  -- the move m, then the best way from where it leads; t has the best way of each shorter rest, the longest rest first
  unfoldable pub via : List (Best M) → M → Best M
  via t m = let b = get_or t (pred (span m)) done in record { total = cost m + b.total; path = m ∷ b.path }

  -- of m and the moves ms the first that costs least
  unfoldable pub choose : List (Best M) → M → List M → Best M
  choose t m [] = via t m
  choose t m (n ∷ ms) = better (via t m) (choose t n ms)

  -- the same of a list
  unfoldable pub chosen : List (Best M) → List M → Best M
  chosen t [] = done
  chosen t (m ∷ ms) = choose t m ms

  -- the best way of s, of its tail, and so on to the end
  unfoldable pub table : List A → List (Best M)
  table [] = done ∷ []
  table (a ∷ s) = let t = table s in chosen t (moves (a ∷ s)) ∷ t

  -- the best way of s
  unfoldable pub best : List A → Best M
  best s = get_or (table s) 0 done
