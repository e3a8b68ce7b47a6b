-- How many pixels of a row differ from the one before, its edges. Only the contracts of `row_edges` and `more_edges` cite this: no BRUN
-- body has fewer bytes than its rows have edges (`full_edges`), so that a shorter delta is taken without a search for the least rows.
use Rattle.std.specs.Prelude.{List, [], ◌∷◌, ℕ, zero, suc, ◌+◌, eqb, take, drop, cond}

unfoldable pub edges : List ℕ → ℕ
edges [] = 0
edges (x ∷ []) = 0
edges (x ∷ (y ∷ s)) = cond (eqb x y) 0 1 + edges (y ∷ s)

-- the edges of all h rows of w pixels
unfoldable pub all_edges : ℕ → ℕ → List ℕ → ℕ
unfolding edges
all_edges w zero q = 0
all_edges w (suc h) q = edges (take w q) + all_edges w h (drop w q)
