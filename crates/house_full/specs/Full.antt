-- The full picture chunks of the house form, and which of them is taken: document 01, "House form of a frame", "Full chunks".
use Rattle.std.specs.Prelude.{List, [], ◌∷◌, ◌++◌, Bool, cond, ℕ, zero, suc, min, leb, length, take, drop, replicate}
use Rattle.words.specs.Words.{same, chunk}
use Rattle.format.specs.Format.{FLI_BLACK, FLI_BRUN, FLI_COPY}
use Rattle.house_rows.specs.Row.{house, house_bytes}

-- a row of a BRUN body: "The ignored byte is the packet count, or 255 if less"; then the house row
unfoldable pub brun_row : List ℕ → List ℕ
brun_row s = min 255 (length (house s)) ∷ house_bytes s

-- the body of a picture of h rows of w pixels
unfoldable pub brun_body : ℕ → ℕ → List ℕ → List ℕ
brun_body w zero q = []
brun_body w (suc h) q = brun_row (take w q) ++ brun_body w h (drop w q)

-- "the picture is all 0"
unfoldable pub all_zero : List ℕ → Bool
all_zero q = same q (replicate (length q) 0)

-- "shortest ..; ties go to" the first
unfoldable pub shorter : List ℕ → List ℕ → List ℕ
shorter a b = cond (leb (length a) (length b)) a b

-- "BLACK if the picture is all 0; COPY; BRUN with each row's packets of least total bytes. .. Shortest full chunk; ties go to BLACK, BRUN, COPY"
unfoldable pub full_chunk : ℕ → ℕ → List ℕ → List ℕ
full_chunk w h q =
    let other = shorter (chunk FLI_BRUN (brun_body w h q)) (chunk FLI_COPY q) in
    cond (all_zero q) (shorter (chunk FLI_BLACK []) other) other

-- the kind of that chunk, and its body
unfoldable pub full_kind : ℕ → ℕ → List ℕ → ℕ
full_kind w h q = cond (all_zero q) FLI_BLACK (cond (leb (length (brun_body w h q)) (length q)) FLI_BRUN FLI_COPY)

unfoldable pub full_body : ℕ → ℕ → List ℕ → List ℕ
full_body w h q = cond (all_zero q) [] (cond (leb (length (brun_body w h q)) (length q)) (brun_body w h q) q)
