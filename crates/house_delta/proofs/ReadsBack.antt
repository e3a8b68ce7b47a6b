-- A delta reads back in its format: the walk over its body has no fault, ends at the body's end, and its writes turn the previous picture into the next.
use Prim.Native.Nat.{ℕ}
use mathlib.Core.List.{List}
use lib.ListN.{length}
use Rattle.words.specs.Words.{Bytes}
use Rattle.format.specs.declared.Format.{Format}
use Rattle.format.specs.declared.Format.TheVariants.{Flc, Fli}
use Rattle.format.specs.declared.Size.{Size}
use Rattle.state.specs.State.{Picture}
use Rattle.walk.specs.Walk.{Walk}
use Rattle.walk.proofs.Gives.{Gives}
use Rattle.read_ss2.specs.Ss2.{ss2}
use Rattle.read_lc.specs.Lc.{lc}
use Rattle.house_ss2.proofs.ReadsBack as ss2'
use Rattle.house_lc.proofs.ReadsBack as lc'
use Rattle.house_delta.specs.Delta.{body_in, delta_body}

-- the walk over the body of a delta
abbrev pub walk_in : Format → ℕ → ℕ → List ℕ → Walk
walk_in Flc w h b = ss2 w h b
walk_in Fli w h b = lc w h b

abbrev pub delta_walk : Size → List ℕ → Walk
delta_walk z b = walk_in z.format z.width z.height b

module _ (z : Size) (p q : List ℕ) (zp : Picture z.width z.height p) (zq : Picture z.width z.height q) (small : Bytes q) where
  reads_back_in : (f : Format)
      → Gives (walk_in f z.width z.height (body_in f z.width z.height p q)) (length (body_in f z.width z.height p q)) p q
  reads_back_in Flc =
      ss2'.delta_reads_back z.width z.height p q zq.size.some_wide zq.size.wide zq.size.high zp.pixels zq.pixels small
  reads_back_in Fli = lc'.delta_reads_back z.width z.height p q zp.pixels zq.pixels

  pub delta_reads_back : Gives (delta_walk z (delta_body z p q)) (length (delta_body z p q)) p q
  unfolding delta_body
  delta_reads_back = reads_back_in z.format
