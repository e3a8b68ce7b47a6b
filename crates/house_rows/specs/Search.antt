-- The search for a house row: document 02, Req 03.
use Rattle.std.specs.Prelude.{◌≡◌, List, [], ◌∷◌, ℕ, ◌+◌, ◌-◌, ◌*◌, ◌/◌, ◌≤◌, Result, Ok, Err, length, get_or}
use Rattle.words.specs.Words.{require◌else◌then◌}
use Rattle.format.specs.Limits.{size_ok}
use Rattle.answer.specs.declared.Refusal.{Refusal}
use Rattle.answer.specs.declared.Refusal.TheVariants.{BadSize}
use Rattle.house_rows.specs.Row.{house_bytes}
use Rattle.house_rows.specs.declared.RowCost.{RowCost}

-- the search's turns over a row of w pixels: one for each pixel but the last, and 128 for each sweep
unfoldable pub turns : ℕ → ℕ
turns w = w - 1 + 128 * ((w - 1) / 128)

-- one row: its packets' bytes and the search's turns; a row that no picture has is refused
unfoldable pub search_row : List ℕ → Result RowCost Refusal
unfolding turns
search_row row =
    require size_ok (length row) 1 else Err BadSize then
    Ok (record { bytes = length (house_bytes row); turns = turns (length row) })

-- the turns that are told, 0 where refused
abbrev pub turns_of : Result RowCost Refusal → ℕ
turns_of (Err e) = 0
turns_of (Ok cost) = cost.turns

-- what a search answers: "at most 16 turns for each pixel of the row .. the search gives its count of turns back"
pub record Searched (row : List ℕ) (r : Result RowCost Refusal) : Type 0 where
  pub cost_is : r ≡ search_row row
  pub few : turns_of r ≤ 16 * length row

-- the first byte, a packet's type, of the house row from each pixel of a row on
unfoldable pub types : List ℕ → List ℕ
types [] = []
types (v ∷ s) = get_or (house_bytes (v ∷ s)) 0 0 ∷ types s

-- what the search gives back of a row that a picture has: the row's size, those bytes, and the turns taken
pub record Planned (row first : List ℕ) (size count : ℕ) : Type 0 where
  pub size_is : size ≡ length (house_bytes row)
  pub types_are : first ≡ types row
  pub count_is : count ≡ turns (length row)
  pub few : count ≤ 16 * length row
