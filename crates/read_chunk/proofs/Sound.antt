-- What every sub-chunk has: its writes lie within the picture and the palette, and of a body of bytes they are of bytes. It follows from what
-- each kind's walk has.
use mathlib.Core.List.{List, []}
use Prim.Native.Nat.{ℕ, ◌≤◌}
use lib.Dec.{eqb}
use lib.ListN.{length}
use Rattle.words.specs.Words.{Bytes}
use Rattle.words.specs.Writes.{Write}
use Rattle.words.proofs.Laws.{Inside}
use Rattle.words.proofs.Bytewise.{Bytewise}
use Rattle.words.proofs.Tests.{cond_holds}
use Rattle.format.specs.Format.{FLI_COLOR256, FLI_SS2, FLI_COLOR, FLI_LC, FLI_BLACK, FLI_BRUN, FLI_COPY}
use Rattle.format.specs.Limits.{area}
use Rattle.format.specs.declared.Size.{Size}
use Rattle.walk.specs.Walk.{Walk}
use Rattle.walk.proofs.Sound.{Sound}
use Rattle.read_colour.specs.declared.Levels.TheVariants.{Of64, Of256}
use Rattle.read_colour.proofs.Laws.{colour_sound}
use Rattle.read_full.proofs.Laws.{black_sound, copied_sound}
use Rattle.read_brun.proofs.Laws.{brun_sound}
use Rattle.read_lc.proofs.Laws.{lc_sound}
use Rattle.read_ss2.proofs.Laws.{ss2_sound}
use Rattle.read_chunk.specs.Chunk.{ChunkWalk, on_picture, on_palette, by_kind, kind_ok, sub_chunk}

-- of writes to a picture and to a palette that the bytes b ask for
pub record SoundWrites (z : Size) (b : List ℕ) (pixels colours : List Write) : Type 0 where
  pub in_picture : Inside (area z) pixels
  pub in_palette : Inside 768 colours
  pub of_bytes : Bytes b → Bytewise pixels × Bytewise colours

pub no_writes : (z : Size) (b : List ℕ) → SoundWrites z b [] []
no_writes z b = record { in_picture = tt; in_palette = tt; of_bytes = λ i. (tt, tt) }

module _ (z : Size) (wide : 1 ≤ z.width) where
  kind_sound : (kind : ℕ) (b : List ℕ) → SoundWrites z b (by_kind z kind b).pixels (by_kind z kind b).colours
  unfolding by_kind
  kind_sound kind b =
      cond_holds Fine (eqb kind FLI_COLOR256) _ _ (on_palette_lem _ (colour_sound Of256 b))
      (cond_holds Fine (eqb kind FLI_SS2) _ _ (on_picture_lem _ (ss2_sound z.width z.height b wide))
      (cond_holds Fine (eqb kind FLI_COLOR) _ _ (on_palette_lem _ (colour_sound Of64 b))
      (cond_holds Fine (eqb kind FLI_LC) _ _ (on_picture_lem _ (lc_sound z.width z.height b))
      (cond_holds Fine (eqb kind FLI_BLACK) _ _ (on_picture_lem _ (black_sound (area z) b))
      (cond_holds Fine (eqb kind FLI_BRUN) _ _ (on_picture_lem _ (brun_sound z.width z.height b))
      (cond_holds Fine (eqb kind FLI_COPY) _ _ (on_picture_lem _ (copied_sound (area z) b)) (no_writes z b)))))))
    where
      Fine : ChunkWalk → Type 0
      Fine c = SoundWrites z b c.pixels c.colours

      on_picture_lem : (k : Walk) → Sound b (area z) k → Fine (on_picture (length b) k)
      on_picture_lem k s = record { in_picture = s.inside; in_palette = tt; of_bytes = λ i. (s.bytewise i, tt) }

      on_palette_lem : (k : Walk) → Sound b 768 k → Fine (on_palette (length b) k)
      on_palette_lem k s = record { in_picture = tt; in_palette = s.inside; of_bytes = λ i. (tt, s.bytewise i) }

  pub chunk_sound : (kind : ℕ) (b : List ℕ) → SoundWrites z b (sub_chunk z kind b).pixels (sub_chunk z kind b).colours
  unfolding sub_chunk
  chunk_sound kind b = cond_holds (λ (c : ChunkWalk). SoundWrites z b c.pixels c.colours) (kind_ok z.format kind) _ _ (kind_sound kind b) (no_writes z b)
