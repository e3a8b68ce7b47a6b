-- The last place of a range at which a function is least: one place, two ranges side by side, another count.
use mathlib.Core.Path.{◌≡◌, ap, ◌∙◌}
use mathlib.Core.Logic.{⊎_elim}
use Prim.Native.Nat.{ℕ, ◌+◌, ◌-◌, ◌≤◌, ◌<◌}
use native.Mathlib.Omega.{arith}
use Rattle.house_least.proofs.Laws.{le_or_lt}
use Rattle.house_rows.specs.Window.{Lowest}

-- a proof of A, where A is not shown by what stands around it
pub the : (A : Type 0) → A → A
the A x = x

module _ (d : ℕ → ℕ) where
  pub one : (a : ℕ) → Lowest d a a a
  one a = record {
    low = omega arith;
    high = omega arith;
    least = λ j l h. omega (arith, ap d (same j l h));
    last = λ j l h. omega arith;
  }
    where
      same : (j : ℕ) → a ≤ j → j ≤ a → j ≡ a
      same j l h = omega arith

  -- two ranges side by side
  module _ (a b c m n : ℕ) (left : Lowest d a b m) (right : Lowest d (b + 1) c n) where
    join_least : (v : ℕ) → v ≤ d m → v ≤ d n → (j : ℕ) → a ≤ j → j ≤ c → v ≤ d j
    join_least v l r j h k =
        ⊎_elim {C = v ≤ d j}
        (λ (e : j ≤ b). omega (arith, left.least j h e))
        (λ (e : b < j). omega (arith, right.least j (omega arith) k))
        (le_or_lt j b)

    pub join_right : d n ≤ d m → Lowest d a c n
    join_right h = record {
      low = omega arith;
      high = omega arith;
      least = join_least (d n) h (omega arith);
      last = right.last;
    }

    pub join_left : d m < d n → Lowest d a c m
    join_left h = record {
      low = omega arith;
      high = omega arith;
      least = join_least (d m) (omega arith) (omega arith);
      last = λ j l k.
          ⊎_elim {C = d m < d j}
          (λ (e : j ≤ b). left.last j l e)
          (λ (e : b < j). omega (arith, right.least j (omega arith) k))
          (le_or_lt j b);
    }

-- the same place counted from i
pub shifted : (d e : ℕ → ℕ) (i b m : ℕ) → ((j : ℕ) → d (i + j) ≡ i + e j) → Lowest d (i + 1) b m → Lowest e 1 (b - i) (m - i)
shifted d e i b m same w = record {
  low = omega arith;
  high = omega arith;
  least = λ j l h. omega (arith, at_m, same j, w.least (i + j) (omega arith) (omega arith));
  last = λ j l h. omega (arith, at_m, same j, w.last (i + j) (omega arith) (omega arith));
}
  where
    at_m : d m ≡ i + e (m - i)
    at_m = ap d (the (m ≡ i + (m - i)) (omega (arith, w))) ∙ same (m - i)

-- where two functions agree over the range
pub agreed : (d e : ℕ → ℕ) (a b m : ℕ) → ((j : ℕ) → a ≤ j → j ≤ b → d j ≡ e j) → Lowest d a b m → Lowest e a b m
agreed d e a b m same w = record {
  low = w.low;
  high = w.high;
  least = λ j l h. omega (arith, same m w.low w.high, same j l h, w.least j l h);
  last = λ j l h. omega (arith, same m w.low w.high, same j (omega arith) h, w.last j l h);
}
