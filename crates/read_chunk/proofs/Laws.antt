-- Laws of a sub-chunk: what stands behind its data, its kind, and what a pass over its body gives.
use mathlib.Core.Path.{◌≡◌, ap, ◌∙◌, sym}
use mathlib.Core.List.{List, []}
use mathlib.Core.Bool.{Bool, cond}
use Prim.Native.Nat.{ℕ, ◌≤◌, ◌+◌}
use borrow.Author.Tests.{ne_eqb, le-leb}
use lib.Dec.{leb}
use lib.ListN.{length}
use Rattle.std.specs.Prelude.{Ok, Err}
use Rattle.words.specs.Words.{require◌else◌then◌}
use Rattle.words.proofs.Tests.{by_test}
use Rattle.answer.specs.declared.Refusal.TheVariants.{SpareBytes}
use Rattle.walk.specs.Walk.{Walk, wrote, Verdict}
use Rattle.walk.specs.declared.Pass.{Pass}
use Rattle.walk.proofs.Laws.{wrote_none, fault_not_end}
use Rattle.read_chunk.specs.Chunk.{judged, on_picture, on_palette, skipped, ChunkWalk, by_kind, kind_ok, misplaced, sub_chunk}
use Rattle.format.specs.declared.Size.{Size}

-- at most one byte left behind a body's data
pub judged_right : (size end : ℕ) → size ≤ end + 1 → judged size (Ok end) ≡ Ok end
judged_right size end h = rw (le-leb size (end + 1) h)

-- a sub-chunk that ends is one whose body does, there
pub judged_ends : (size : ℕ) (v : Verdict) (end : ℕ) → judged size v ≡ Ok end → v ≡ Ok end
judged_ends size (Err e) end q = fault_not_end q
judged_ends size (Ok to) end q =
    by_test (λ t. ◌≡◌ {A = Verdict} (cond t (Ok to) (Err SpareBytes)) (Ok end) → ◌≡◌ {A = Verdict} (Ok to) (Ok end)) (leb size (to + 1))
    (λ h k. k) (λ h k. fault_not_end k) q

module _ (z : Size) (kind : ℕ) (b : List ℕ) where
  pub kind_is : (k : ℕ) → kind ≡ k → by_kind z kind b ≡ by_kind z k b
  kind_is k e = ap (λ (x : ℕ). by_kind z x b) e

  pub kind_other : (kind ≡ 4 → ⊥) → (kind ≡ 7 → ⊥) → (kind ≡ 11 → ⊥) → (kind ≡ 12 → ⊥) → (kind ≡ 13 → ⊥) → (kind ≡ 15 → ⊥) → (kind ≡ 16 → ⊥)
      → by_kind z kind b ≡ skipped b
  unfolding by_kind
  kind_other p q r s t u v =
      simp (ne_eqb kind 4 p, ne_eqb kind 7 q, ne_eqb kind 11 r, ne_eqb kind 12 s, ne_eqb kind 13 t, ne_eqb kind 15 u, ne_eqb kind 16 v)

  -- a kind that has its place in the format, and one that hasn't
  pub chunk_by : (t : Bool) → kind_ok z.format kind ≡ t → sub_chunk z kind b ≡ (require t else misplaced then by_kind z kind b)
  unfolding sub_chunk
  chunk_by t e = ap (λ (x : Bool). require x else misplaced then by_kind z kind b) e

-- what a pass over a body on the picture, or on the palette, gives, where v is told and the two come back as pixels and as colours; the other stays
module _ (z : Size) (kind : ℕ) (b : List ℕ) (k : Walk) (p : Pass) (d e pixels colours : List ℕ) (v : Verdict) (out : v ≡ judged (length b) k.verdict) where
  pub on_picture_lem : by_kind z kind b ≡ on_picture (length b) k → pixels ≡ wrote p k.writes d → colours ≡ e
      → record {
        verdict : v ≡ (by_kind z kind b).verdict;
        pixels : pixels ≡ wrote p (by_kind z kind b).pixels d;
        colours : colours ≡ wrote p (by_kind z kind b).colours e;
      }
  on_picture_lem is left same =
      record {
        verdict = out ∙ sym (ap (λ (c : ChunkWalk). c.verdict) is);
        pixels = left ∙ sym (ap (λ (c : ChunkWalk). wrote p c.pixels d) is);
        colours = same ∙ sym (ap (λ (c : ChunkWalk). wrote p c.colours e) is ∙ wrote_none p e);
      }

  pub on_palette_lem : by_kind z kind b ≡ on_palette (length b) k → pixels ≡ d → colours ≡ wrote p k.writes e
      → record {
        verdict : v ≡ (by_kind z kind b).verdict;
        pixels : pixels ≡ wrote p (by_kind z kind b).pixels d;
        colours : colours ≡ wrote p (by_kind z kind b).colours e;
      }
  on_palette_lem is same left =
      record {
        verdict = out ∙ sym (ap (λ (c : ChunkWalk). c.verdict) is);
        pixels = same ∙ sym (ap (λ (c : ChunkWalk). wrote p c.pixels d) is ∙ wrote_none p d);
        colours = left ∙ sym (ap (λ (c : ChunkWalk). wrote p c.colours e) is);
      }

-- a sub-chunk without a write
pub no_write : (c : ChunkWalk) (v : Verdict) (p : Pass) (d e pixels colours : List ℕ) → c ≡ record { pixels = []; colours = []; verdict = v }
    → pixels ≡ d → colours ≡ e
    → record { verdict : v ≡ c.verdict; pixels : pixels ≡ wrote p c.pixels d; colours : colours ≡ wrote p c.colours e }
no_write c v p d e pixels colours is same same' =
    record {
      verdict = sym (ap (λ (x : ChunkWalk). x.verdict) is);
      pixels = same ∙ sym (ap (λ (x : ChunkWalk). wrote p x.pixels d) is ∙ wrote_none p d);
      colours = same' ∙ sym (ap (λ (x : ChunkWalk). wrote p x.colours e) is ∙ wrote_none p e);
    }
