-- Laws of the definitions in specs/Full.antt.
use mathlib.Core.Path.{◌≡◌, refl, sym, ap, ap₂, ◌∙◌}
use mathlib.Core.List.{List, ◌++◌}
use Prim.Native.Nat.{ℕ, ◌≤◌, ◌<◌, ◌-◌}
use native.Mathlib.Omega.{arith}
use lib.ListN.{length, take, drop, replicate, length-replicate, length-take}
use lib.Dec.{leb}
use borrow.Author.Tests.{le-leb, lt-leb, leb-true}
use Rattle.std.specs.Prelude.{Ok}
use Rattle.words.specs.Writes.{put, applied}
use Rattle.words.specs.Words.{require◌else◌then◌}
use Rattle.words.proofs.Laws.{bytes_take, span_back}
use Rattle.words.proofs.Bytewise.{bytes_replicate}
use Rattle.words.proofs.Tests.{by_test}
use Rattle.walk.proofs.Sound.{Sound, sound_ends, sound_fault, sound_then}
use Rattle.answer.specs.declared.Refusal.TheVariants.{BodyEnds}
use Rattle.walk.proofs.Laws.{wrote_one}
use Rattle.walk.specs.Walk.{Walk, ends, fault, and_then, wrote}
use Rattle.walk.specs.declared.Pass.{Pass}
use Rattle.walk.specs.declared.Pass.TheVariants.{Dry, Wet}
use Rattle.read_full.specs.Full.{black, copied}

pub black_whole : (n : ℕ) → black n ≡ and_then 0 (replicate n 0) (ends 0)
unfolding black
black_whole n = refl

pub black_applied : (n : ℕ) (d : List ℕ) → applied (black n).writes d ≡ put d 0 (replicate n 0)
unfolding black applied
black_applied n d = refl

pub copied_whole : (n : ℕ) (b : List ℕ) → n ≤ length b → copied n b ≡ and_then 0 (take n b) (ends n)
unfolding copied
copied_whole n b h = simp (le-leb n (length b) h)

pub copied_short : (n : ℕ) (b : List ℕ) → length b < n → copied n b ≡ fault BodyEnds
unfolding copied
copied_short n b h = simp (lt-leb n (length b) h)

-- a walk that is one write of the first n pixels: after a dry pass, after a wet one in which they came back as x
module _ {k : Walk} {end : ℕ} {v : List ℕ} (whole : k ≡ and_then 0 v (ends end)) (p : Pass) (d : List ℕ) where
  pub front_dry : p ≡ Dry → record { verdict : Ok end ≡ k.verdict; writes : d ≡ wrote p k.writes d }
  front_dry e = record { verdict = sym (ap (λ (w : Walk). w.verdict) whole); writes = sym (ap (λ (q : Pass). wrote q k.writes d) e) }

  pub front_wet : p ≡ Wet → (x : List ℕ) (n : ℕ) → x ≡ v → length v ≡ n
      → record { verdict : Ok end ≡ k.verdict; writes : x ++ drop (n - 0) d ≡ wrote p k.writes d }
  front_wet e x n i l = record {
    verdict = sym (ap (λ (w : Walk). w.verdict) whole);
    writes = span_back d x v 0 n n i l (omega arith)
        ∙ sym (ap₂ (λ (q : Pass) (w : Walk). wrote q w.writes d) e whole ∙ wrote_one Wet 0 v d);
  }

-- the data ends within the body; bytes are written, within the picture

pub black_sound : (n : ℕ) (b : List ℕ) → Sound b n (black n)
unfolding black
black_sound n b =
    sound_then b n 0 (replicate n 0) (ends 0) (omega (arith, length-replicate {A = ℕ} n 0)) (λ i. bytes_replicate n 0 (omega arith))
    (sound_ends b n 0 (omega arith))

pub copied_sound : (n : ℕ) (b : List ℕ) → Sound b n (copied n b)
unfolding copied
copied_sound n b =
    by_test (λ t. Sound b n (require t else fault BodyEnds then and_then 0 (take n b) (ends n))) (leb n (length b))
    (λ e. sound_then b n 0 (take n b) (ends n) (omega (arith, length-take n b)) (bytes_take n b) (sound_ends b n n (leb-true _ _ e)))
    (λ e. sound_fault b n BodyEnds)
