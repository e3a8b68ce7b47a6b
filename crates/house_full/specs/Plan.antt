-- What the measure of a picture's rows notes for the writer, so that each row is searched once: notions that only inner contracts cite.
use Rattle.std.specs.Prelude.{List, [], ◌++◌, cond, ℕ, zero, suc, take, drop}
use Rattle.house_rows.specs.Search.{types}
use Rattle.house_full.specs.Full.{all_zero}

-- the types of the packets from each pixel on, row by row
unfoldable pub row_types : ℕ → ℕ → List ℕ → List ℕ
row_types w zero q = []
row_types w (suc h) q = types (take w q) ++ row_types w h (drop w q)

-- what the measure leaves of the plan p: these, unless the picture is all 0
unfoldable pub full_plan : ℕ → ℕ → List ℕ → List ℕ → List ℕ
full_plan w h q p = cond (all_zero q) p (row_types w h q)
