-- What the search for the house row and its writer go by: notions that only the contracts of rows' functions cite.
use Rattle.std.specs.Prelude.{◌≡◌, List, ℕ, ◌+◌, ◌-◌, ◌/◌, ◌%◌, ◌≤◌, ◌<◌, ltb, get_or, cond}
use Rattle.house_rows.specs.declared.End.{End}
use Rattle.house_rows.specs.declared.Repeat.{Repeat}
use Rattle.house_rows.specs.declared.Choice.{Choice}

-- the sum noted at place j, and the end there
abbrev pub sum_at : List ℕ → ℕ → ℕ
sum_at sums j = get_or sums j 0

abbrev pub end_at : List ℕ → ℕ → End
end_at sums j = record { place = j; sum = sum_at sums j }

-- more than a row has places
abbrev pub places : ℕ
places = 2048

-- the end that stands in one number
abbrev pub end_of : ℕ → End
end_of n = record { place = n % places; sum = n / places }

-- m is the last of a to b at which d is least
pub record Lowest (d : ℕ → ℕ) (a b m : ℕ) : Type 0 where
  pub low : a ≤ m
  pub high : m ≤ b
  pub least : (j : ℕ) → a ≤ j → j ≤ b → d m ≤ d j
  pub last : (j : ℕ) → m < j → j ≤ b → d m < d j

-- e is the end there, d being the sums
pub record LowestEnd (d : ℕ → ℕ) (a b : ℕ) (e : End) : Type 0 where
  pub lowest : Lowest d a b e.place
  pub sum_is : e.sum ≡ d e.place

-- r is the end b if its sum is below that of a, and a if not
pub record Lower (a b r : End) : Type 0 where
  pub second : b.sum < a.sum → r ≡ b
  pub first : a.sum ≤ b.sum → r ≡ a

-- the ends t to t + 127 of a copy, in two parts: near is the lowest end from t to e, and far has the lowest end from e + 1 to each of the 128 places after e
pub record Window (d : ℕ → ℕ) (w t e : ℕ) (near : End) (far : List ℕ) : Type 0 where
  pub close : LowestEnd d t e near
  pub narrow : e < t + 128
  pub inside : e ≤ w
  pub whole : e < w → e + 128 ≤ w
  pub away : e < w → (j : ℕ) → e < j → j ≤ e + 128 → LowestEnd d (e + 1) j (end_of (get_or far j 0))

-- r is the repeat q at pixel i + 1, of 126 pixels if it has more
pub record Shortened (sums : List ℕ) (i : ℕ) (q r : Repeat) : Type 0 where
  pub short : q.run < 127 → r ≡ q
  pub long : 127 ≤ q.run → r ≡ record { run = 126; sum = sum_at sums (i + 127) }

-- r is the repeat q with one pixel more before it, or where that pixel differs the repeat of it alone, behind which the sum is s
pub record Lengthened (here next s : ℕ) (q r : Repeat) : Type 0 where
  pub same : here ≡ next → r ≡ record { run = q.run + 1; sum = q.sum }
  pub other : (here ≡ next → ⊥) → r ≡ record { run = 1; sum = s }

-- r has the sum at i and the packet's type: of the repeat q, two bytes and the rest, unless the copy to e, one byte more than its sum, is lower
pub record Chosen (i : ℕ) (q : Repeat) (e : End) (r : Choice) : Type 0 where
  pub repeats : 2 + q.sum - q.run ≤ 1 + e.sum → r ≡ record { sum = 2 + q.sum - q.run; code = q.run }
  pub copies : 1 + e.sum < 2 + q.sum - q.run → r ≡ record { sum = 1 + e.sum; code = 256 - (e.place - i) }

-- how many pixels a packet of type t carries
unfoldable pub carried : ℕ → ℕ
carried t = cond (ltb t 128) 1 (256 - t)
