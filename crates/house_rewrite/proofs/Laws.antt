-- Laws of `rewrite_frame`, by the order of its checks, that the proof of `rewrite_frame` cites.
use mathlib.Core.Path.{◌≡◌, ap, ap₂, ◌∙◌}
use mathlib.Core.List.{List}
use mathlib.Core.Bool.{true, false}
use Prim.Native.Nat.{ℕ}
use Rattle.format.specs.Limits.{area, size_fits}
use Rattle.format.specs.declared.Size.{Size}
use Rattle.answer.specs.Answer.{told_written, Answer, Written}
use Rattle.answer.specs.declared.Refusal.TheVariants.{ShortSlice, BadSize}
use Rattle.state.specs.State.{State, state, enough, front, refilled}
use Rattle.state.specs.Outcome.{Outcome, lent_bytes, lent_bytes_pair, leaves, refuse, fitted}
use Rattle.read_frame.specs.Frame.{frame}
use Rattle.house_frame.specs.House.{house_frame}
use Rattle.house_rewrite.specs.Rewriting.{rewrote, rewrite_by, rewrite_frame}

-- the working pair is played on, and the output written
pub rewrote_from : (z : Size) (s t : State) (a : Written) (p q : List ℕ) (work : State) (out out' : List ℕ) → p ≡ t.picture → q ≡ t.palette
    → leaves (told_written a) (lent_bytes out') ≡ fitted (house_frame z s t) out
    → leaves (told_written a) (lent_bytes_pair out' (refilled (area z) (state p q) work)) ≡ rewrote z s t work out
rewrote_from z s t a p q work out out' e f g =
    ap₂ (λ (x y : List ℕ). leaves (told_written a) (lent_bytes_pair out' (refilled (area z) (state x y) work))) e f
    ∙ ap (λ (o : Outcome). leaves o.said (lent_bytes_pair o.memory.bytes (refilled (area z) t work))) g

module _ (b : List ℕ) (z : Size) (previous work : State) (out : List ℕ) where
  pub rewrite_size : size_fits z ≡ false → rewrite_frame b z previous work out ≡ refuse BadSize 0 (lent_bytes_pair out work)
  unfolding rewrite_frame
  rewrite_size e = rw e

  module _ (e : size_fits z ≡ true) where
    pub rewrite_short : enough (area z) previous ≡ false → rewrite_frame b z previous work out ≡ refuse ShortSlice 0 (lent_bytes_pair out work)
    unfolding rewrite_frame
    rewrite_short i = rw (e, i)

    module _ (i : enough (area z) previous ≡ true) where
      pub rewrite_work_short : enough (area z) work ≡ false → rewrite_frame b z previous work out ≡ refuse ShortSlice 0 (lent_bytes_pair out work)
      unfolding rewrite_frame
      rewrite_work_short j = rw (e, i, j)

      pub rewrite_read : enough (area z) work ≡ true → (a : Answer) → (frame z b).answer ≡ a
          → rewrite_frame b z previous work out ≡ rewrite_by z (frame z b) a (front (area z) previous) work out
      unfolding rewrite_frame
      rewrite_read j a r = rw (e, i, j) (ap (λ (x : Answer). rewrite_by z (frame z b) x (front (area z) previous) work out) r)
