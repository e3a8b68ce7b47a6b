-- Laws of specs/Search.antt: the types of the packets from each pixel of a row on, and the turns of its search.
use mathlib.Core.Path.{◌≡◌, refl, sym, ap, ◌∙◌}
use mathlib.Core.List.{List, [], ◌∷◌}
use mathlib.Core.Bool.{true, false}
use Rattle.std.specs.Prelude.{Ok, Err}
use Prim.Native.Nat.{ℕ, zero, suc, ◌*◌, ◌≤◌, ◌<◌}
use native.Mathlib.Omega.{arith}
use lib.ListN.{length, get_or, drop}
use lib.Seq.{ext_get_or}
use Rattle.format.specs.Limits.{size_ok}
use Rattle.answer.specs.declared.Refusal.TheVariants.{BadSize}
use Rattle.house_rows.specs.Row.{house_bytes}
use Rattle.house_rows.specs.declared.RowCost.{RowCost}
use Rattle.house_rows.specs.Search.{turns, search_row, Searched, types, Planned}

-- the first byte of the house row from pixel i on
abbrev pub type_at : List ℕ → ℕ → ℕ
type_at row i = get_or (house_bytes (drop i row)) 0 0

pub length_types : (s : List ℕ) → length (types s) ≡ length s
unfolding types
length_types [] = refl
length_types (v ∷ s) = ap suc (length_types s)

pub types_at : (s : List ℕ) (i : ℕ) → i < length s → get_or (types s) i 0 ≡ type_at s i
unfolding types
types_at [] i h = absurd (omega arith)
types_at (v ∷ s) zero h = refl
types_at (v ∷ s) (suc i) h = types_at s i (omega arith)

-- bytes that are these at each pixel
pub types_all : (first row : List ℕ) → length first ≡ length row → ((i : ℕ) → i < length row → get_or first i 0 ≡ type_at row i) → first ≡ types row
types_all first row l e = ext_get_or 0 first (types row) (l ∙ sym (length_types row)) (λ i h. e i (omega arith) ∙ sym (types_at row i (omega arith)))

-- under two turns a pixel, and so under 16
pub turns_few : (w : ℕ) → 1 ≤ w → turns w < 2 * w
unfolding turns
turns_few w h = omega arith

-- the answer of one row

pub search_refused : (row : List ℕ) → size_ok (length row) 1 ≡ false → Searched row (Err BadSize)
unfolding search_row
search_refused row e = record { cost_is = rw e; few = omega arith }

pub search_told : (row first : List ℕ) (cost : RowCost) → size_ok (length row) 1 ≡ true → Planned row first cost.bytes cost.turns → Searched row (Ok cost)
unfolding search_row
search_told row first cost e p = record { cost_is = rw (e, ← p.size_is, ← p.count_is) refl; few = p.few }
