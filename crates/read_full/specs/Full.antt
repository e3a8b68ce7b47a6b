-- Kinds 13, BLACK, and 16, COPY, on a picture of n pixels (document 01, "Frames, chunks and rows").
use Rattle.std.specs.Prelude.{ℕ, List, length, take, replicate, leb}
use Rattle.words.specs.Words.{require◌else◌then◌}
use Rattle.answer.specs.declared.Refusal.TheVariants.{BodyEnds}
use Rattle.walk.specs.Walk.{Walk, ends, fault, and_then}

-- "BLACK sets all pixels 0"; it has no data
unfoldable pub black : ℕ → Walk
black n = and_then 0 (replicate n 0) (ends 0)

-- "COPY holds width times height pixels"
unfoldable pub copied : ℕ → List ℕ → Walk
copied n b =
    require leb n (length b) else fault BodyEnds then
    and_then 0 (take n b) (ends n)
