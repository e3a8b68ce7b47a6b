-- A sub-chunk of a frame (document 01, "Frames, chunks and rows"): what its body does, by its kind.
use Rattle.std.specs.Prelude.{ℕ, ◌+◌, List, [], Bool, true, false, not, cond, length, eqb, leb, Ok, Err}
use Rattle.words.specs.Words.{require◌else◌then◌}
use Rattle.words.specs.Writes.{Write}
use Rattle.format.specs.Format.{FLI_COLOR256, FLI_SS2, FLI_COLOR, FLI_LC, FLI_BLACK, FLI_BRUN, FLI_COPY, FLI_PSTAMP}
use Rattle.answer.specs.declared.Refusal.TheVariants.{SpareBytes, NotInFli}
use Rattle.walk.specs.Walk.{Walk, Verdict}
use Rattle.format.specs.Limits.{area}
use Rattle.format.specs.declared.Format.{Format}
use Rattle.format.specs.declared.Format.TheVariants.{Flc, Fli}
use Rattle.format.specs.declared.Size.{Size}
use Rattle.read_colour.specs.Colour.{colour}
use Rattle.read_colour.specs.declared.Levels.TheVariants.{Of64, Of256}
use Rattle.read_full.specs.Full.{black, copied}
use Rattle.read_brun.specs.Brun.{brun}
use Rattle.read_lc.specs.Lc.{lc}
use Rattle.read_ss2.specs.Ss2.{ss2}

-- What a sub-chunk says: its writes to the picture and to the palette, and how its body comes out.
pub record ChunkWalk : Type 0 where
  pub pixels : List Write
  pub colours : List Write
  pub verdict : Verdict

-- "more than one spare byte after the data is refused. Refusals: 19, after all other checks of that sub-chunk" (document 02, Req 05); size: the
-- body's bytes
abbrev pub judged : ℕ → Verdict → Verdict
judged size (Err e) = Err e
judged size (Ok end) = require leb size (end + 1) else Err SpareBytes then Ok end

-- a walk over a body of so many bytes, on the picture or on the palette
abbrev pub on_picture : ℕ → Walk → ChunkWalk
on_picture size w = record { pixels = w.writes; colours = []; verdict = judged size w.verdict }

abbrev pub on_palette : ℕ → Walk → ChunkWalk
on_palette size w = record { pixels = []; colours = w.writes; verdict = judged size w.verdict }

-- "Kind 18 (postage stamp), prefix chunks and unknown kinds are stepped over": the whole body is theirs
abbrev pub skipped : List ℕ → ChunkWalk
skipped b = record { pixels = []; colours = []; verdict = Ok (length b) }

-- "Reading covers kinds 4, 7, 11, 12, 13, 15 and 16": the sub-chunk of a kind, with body b, in a frame of size z
unfoldable pub by_kind : Size → ℕ → List ℕ → ChunkWalk
by_kind z kind b =
    cond (eqb kind FLI_COLOR256) (on_palette (length b) (colour Of256 b))
    (cond (eqb kind FLI_SS2) (on_picture (length b) (ss2 z.width z.height b))
    (cond (eqb kind FLI_COLOR) (on_palette (length b) (colour Of64 b))
    (cond (eqb kind FLI_LC) (on_picture (length b) (lc z.width z.height b))
    (cond (eqb kind FLI_BLACK) (on_picture (length b) (black (area z)))
    (cond (eqb kind FLI_BRUN) (on_picture (length b) (brun z.width z.height b))
    (cond (eqb kind FLI_COPY) (on_picture (length b) (copied (area z) b))
    (skipped b)))))))

-- an FLI has "no kinds 7 or 18" (document 02, Req 06)
abbrev pub kind_ok : Format → ℕ → Bool
kind_ok Flc kind = true
kind_ok Fli kind = cond (eqb kind FLI_SS2) false (not (eqb kind FLI_PSTAMP))

-- a kind that has no place here: no write
abbrev pub misplaced : ChunkWalk
misplaced = record { pixels = []; colours = []; verdict = Err NotInFli }

-- the sub-chunk of a kind in a frame of its format: "kind 7 or 18 met is 20, as the sub-chunk's header is accepted", before its body
unfoldable pub sub_chunk : Size → ℕ → List ℕ → ChunkWalk
unfolding by_kind
sub_chunk z kind b = require kind_ok z.format kind else misplaced then by_kind z kind b
