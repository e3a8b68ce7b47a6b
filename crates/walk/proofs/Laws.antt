-- Laws of walks.
use mathlib.Core.Path.{◌≡◌, refl, ap, ◌∙◌, sym}
use mathlib.Core.List.{List, [], ◌∷◌, ◌++◌}
use Prim.Native.Nat.{ℕ, ◌≤◌}
use native.Mathlib.Omega.{arith}
use lib.ListN.{length}
use Rattle.std.specs.Prelude.{Ok, Err}
use Rattle.words.specs.Writes.{Write, put, applied}
use Rattle.words.proofs.Laws.{applied_append}
use Rattle.answer.specs.declared.Refusal.{Refusal}
use Rattle.walk.specs.Walk.{Walk, and_then, onward, followed, stored, wrote, Verdict}
use Rattle.walk.specs.declared.Pass.{Pass}
use Rattle.walk.specs.declared.Pass.TheVariants.{Dry, Wet}

-- d after a walk's writes
abbrev pub after : List ℕ → Walk → List ℕ
after d k = applied k.writes d

-- what a pass writes

pub stored_wet : (p : Pass) (d : List ℕ) (at : ℕ) (v : List ℕ) → p ≡ Wet → put d at v ≡ stored p d at v
stored_wet p d at v e = ap (λ (q : Pass). stored q d at v) (sym e)

pub wrote_none : (p : Pass) (d : List ℕ) → wrote p [] d ≡ d
unfolding applied
wrote_none Dry d = refl
wrote_none Wet d = refl

pub wrote_one : (p : Pass) (at : ℕ) (v d : List ℕ) → wrote p (record { at = at; bytes = v } ∷ []) d ≡ stored p d at v
unfolding applied
wrote_one Dry at v d = refl
wrote_one Wet at v d = refl

-- a write, and then the rest
pub wrote_then : (p : Pass) (at : ℕ) (v d : List ℕ) (k : Walk) → wrote p (and_then at v k).writes d ≡ wrote p k.writes (stored p d at v)
unfolding applied
wrote_then Dry at v d k = refl
wrote_then Wet at v d k = refl

-- some writes, and then others
pub wrote_append : (p : Pass) (xs ys : List Write) (d : List ℕ) → wrote p (xs ++ ys) d ≡ wrote p ys (wrote p xs d)
wrote_append Dry xs ys d = refl
wrote_append Wet xs ys d = applied_append xs ys d

-- how a walk comes out, and what a pass over it leaves of d: the invariant of a reader's loop is that what is left gives what the whole gives
unfoldable pub seen : Pass → Walk → List ℕ → Verdict × List ℕ
seen p k d = (k.verdict, wrote p k.writes d)

pub seen_gives : (p : Pass) (k : Walk) (d e : List ℕ) (v : Verdict) → seen p k d ≡ (v, e) → record { verdict : v ≡ k.verdict; writes : e ≡ wrote p k.writes d }
unfolding seen
seen_gives p k d e v s = record { verdict = sym (ap (λ (x : Verdict × List ℕ). x.0) s); writes = sym (ap (λ (x : Verdict × List ℕ). x.1) s) }

pub seen_none : (p : Pass) (k : Walk) (d : List ℕ) (v : Verdict) → k ≡ record { writes = []; verdict = v } → seen p k d ≡ (v, d)
unfolding seen
seen_none p k d v e = ap (λ (x : Walk). seen p x d) e ∙ ap (λ (x : List ℕ). (v, x)) (wrote_none p d)

pub seen_then : (p : Pass) (at : ℕ) (v d : List ℕ) (k : Walk) → seen p (and_then at v k) d ≡ seen p k (stored p d at v)
unfolding seen
seen_then p at v d k = ap (λ (x : List ℕ). (k.verdict, x)) (wrote_then p at v d k)

-- one walk, which leaves e of d, and then another: where the first ended, and where it met a fault
module _ (p : Pass) (w : Walk) (k : ℕ → Walk) (d e : List ℕ) (left : e ≡ wrote p w.writes d) where
  pub seen_onward : (at : ℕ) → w.verdict ≡ Ok at → seen p (followed w k) d ≡ seen p (k at) e
  unfolding seen
  seen_onward at v =
      ap (λ (x : Verdict). seen p (onward w.writes x k) d) v
      ∙ ap (λ (x : List ℕ). ((k at).verdict, x)) (wrote_append p w.writes (k at).writes d ∙ ap (wrote p (k at).writes) (sym left))

  pub seen_stopped : (f : Refusal) → w.verdict ≡ Err f → seen p (followed w k) d ≡ (Err f, e)
  unfolding seen
  seen_stopped f v = ap (λ (x : Verdict). seen p (onward w.writes x k) d) v ∙ ap (λ (x : List ℕ). (Err f, x)) (sym left)

-- a body's data ends within its bytes
abbrev pub VerdictIn : List ℕ → Verdict → Type 0
VerdictIn b (Ok at) = at ≤ length b
VerdictIn b (Err e) = Unit {0}

-- a fault is no end
pub fault_not_end : {C : Type 0} {e : Refusal} {at : ℕ} → Err e ≡ Ok at → C
fault_not_end e = let z : ◌≡◌ {A = ℕ} 0 1 = cc in absurd (omega arith)
