-- Two lists of bytes side by side, and where they differ: rows of a picture, pairs of a row, entries of a palette.
use Rattle.std.specs.Prelude.{ℕ, zero, suc, ◌+◌, ◌-◌, ◌*◌, ◌≤◌, ◌≡◌, Option, None, Some, Bool, true, false, not, cond, take, drop}
use mathlib.Core.List.{List, [], ◌∷◌, flat_map}
use Rattle.words.specs.Words.{same}
use Rattle.house_cells.specs.declared.Sought.{Sought}
use Rattle.house_cells.specs.declared.Sought.TheVariants.{Unchanged, Changed}
use Rattle.house_cells.specs.declared.Span.{Span}

-- some bytes as they were and as they are to be
pub record Cell : Type 0 where
  pub old : List ℕ
  pub new : List ℕ

-- n cells of k bytes each
unfoldable pub cells : ℕ → ℕ → List ℕ → List ℕ → List Cell
cells k zero a b = []
cells k (suc n) a b = record { old = take k a; new = take k b } ∷ cells k n (drop k a) (drop k b)

-- n cells of k bytes each, from cell i on
abbrev pub cells_at : ℕ → ℕ → ℕ → List ℕ → List ℕ → List Cell
cells_at k i n a b = cells k n (drop (i * k) a) (drop (i * k) b)

-- the bytes of cells, as they are to be
abbrev pub news : List Cell → List ℕ
news = flat_map (λ (c : Cell). c.new)

-- whether a cell is unchanged
abbrev pub stays : Cell → Bool
stays c = same c.old c.new

-- a longest stretch of changed cells, after a gap of unchanged ones
pub record Stretch : Type 0 where
  pub gap : ℕ
  pub changed : List Cell

-- a changed cell c in front of the stretch s, which stands g cells away, and of the stretches ss
abbrev pub before_stretch : ℕ → Cell → Stretch → List Stretch → List Stretch
before_stretch zero c s ss = record { gap = 0; changed = c ∷ s.changed } ∷ ss
before_stretch (suc g) c s ss = record { gap = 0; changed = c ∷ [] } ∷ (s ∷ ss)

-- the stretches where a further cell, unchanged or not, stands in front
unfoldable pub behind : Bool → Cell → List Stretch → List Stretch
behind true c [] = []
behind true c (s ∷ ss) = record { gap = suc s.gap; changed = s.changed } ∷ ss
behind false c [] = record { gap = 0; changed = c ∷ [] } ∷ []
behind false c (s ∷ ss) = before_stretch s.gap c s ss

-- the longest stretches of changed cells
unfoldable pub stretches : List Cell → List Stretch
unfolding behind
stretches [] = []
stretches (c ∷ cs) = behind (stays c) c (stretches cs)

-- whether a cell that stays, or not, is sought
abbrev pub is_sought : Sought → Bool → Bool
is_sought Unchanged s = s
is_sought Changed s = not s

-- how many cells at the front are sought ones
unfoldable pub run : Sought → List Cell → ℕ
run t [] = 0
run t (c ∷ cs) = cond (is_sought t (stays c)) (suc (run t cs)) 0

-- the next stretch of n cells of k bytes, from cell i on: m changed cells after a gap of g, and m is 0 where no stretch is left
pub record Next (k n : ℕ) (a b : List ℕ) (i g m : ℕ) : Type 0 where
  pub gap : g ≡ run Unchanged (drop i (cells k n a b))
  pub changed : m ≡ run Changed (drop (i + g) (cells k n a b))
  pub inside : i + g + m ≤ n

-- the same if there is one; where none is left, all cells from cell i on are unchanged
abbrev pub NextOf : ℕ → ℕ → List ℕ → List ℕ → ℕ → Option Span → Type 0
NextOf k n a b i (Some s) = (1 ≤ s.changed) × Next k n a b i s.gap s.changed
NextOf k n a b i None = Next k n a b i (n - i) 0
