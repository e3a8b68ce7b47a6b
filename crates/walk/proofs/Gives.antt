-- A walk without a fault, and what it turns a list of bytes into.
use mathlib.Core.Path.{◌≡◌, refl, sym, ap, ◌∙◌, subst}
use mathlib.Core.List.{List}
use Prim.Native.Nat.{ℕ}
use Rattle.std.specs.Prelude.{Ok}
use Rattle.words.specs.Writes.{put, applied}
use Rattle.words.proofs.Laws.{applied_append}
use Rattle.walk.specs.Walk.{Walk, ends, and_then, onward, followed, Verdict}

-- a walk with no fault, whose data ends at end and whose writes turn d into e
pub record Gives (k : Walk) (end : ℕ) (d e : List ℕ) : Type 0 where
  pub ended : k.verdict ≡ Ok end
  pub result : applied k.writes d ≡ e

pub gives_ends : (at : ℕ) (d : List ℕ) → Gives (ends at) at d d
unfolding applied
gives_ends at d = record { ended = refl; result = refl }

pub gives_then : {k : Walk} {end : ℕ} {d e : List ℕ} (to : ℕ) (v : List ℕ) (d' : List ℕ) → put d to v ≡ d' → Gives k end d' e → Gives (and_then to v k) end d e
unfolding applied
gives_then {k} {end} {d} {e} to v d' p g = record { ended = g.ended; result = ap (λ (x : List ℕ). applied k.writes x) p ∙ g.result }

pub gives_followed : {W : Walk} (k : ℕ → Walk) {m n : ℕ} {d e f : List ℕ} → Gives W m d e → Gives (k m) n e f → Gives (followed W k) n d f
gives_followed {W} k {m} {n} {d} {e} {f} a b =
    subst (λ (v : Verdict). Gives (onward W.writes v k) n d f) (sym a.ended)
    (record {
      ended = b.ended;
      result = applied_append W.writes (k m).writes d ∙ ap (λ (x : List ℕ). applied (k m).writes x) a.result ∙ b.result;
    })

pub gives_as : {k k' : Walk} {end : ℕ} {d e : List ℕ} → k ≡ k' → Gives k' end d e → Gives k end d e
gives_as {k} {k'} {end} {d} {e} p g = subst (λ (x : Walk). Gives x end d e) (sym p) g

pub gives_to : {k : Walk} {end end' : ℕ} {d d' e e' : List ℕ} → end ≡ end' → d ≡ d' → e ≡ e' → Gives k end d e → Gives k end' d' e'
gives_to {k} {end} {end'} {d} {d'} {e} {e'} n p q g =
    record { ended = g.ended ∙ ap Ok n; result = ap (λ (x : List ℕ). applied k.writes x) (sym p) ∙ g.result ∙ q }
