-- `frame_at` meets its contract: the frame behind the k - 1 before it.
use mathlib.Core.Path.{◌≡◌, ◌∙◌, sym, ap}
use Prim.Native.Nat.{ℕ, suc, ◌-◌}
use native.Mathlib.Omega.{arith}
use Rattle.answer.proofs.Laws.{handed_on}
use Rattle.chunks.specs.Spans.{frame_at}
use Rattle.chunks.proofs.Spans.{frame_at_walked, next_after}
use Rattle.chunks.proofs.frame_at.Goals as goal

pub returns-in_err-at : goal.returns-in_err-at
returns-in_err-at c =
    let k : c.args.k ≡ suc (c.args.k - 1) = omega arith in
    handed_on c.from_residual.ensures.1
    ∙ sym (ap (λ (n : ℕ). frame_at c.args.b.now n 128) k ∙ frame_at_walked c.args.b.now (c.args.k - 1) 128
    ∙ ap (next_after c.args.b.now) (sym c.walk_frames.ensures ∙ c.in_err-at.was))

pub returns : goal.returns
returns c =
    let k : c.args.k ≡ suc (c.args.k - 1) = omega arith in
    c.next_at.ensures
    ∙ sym (ap (λ (n : ℕ). frame_at c.args.b.now n 128) k ∙ frame_at_walked c.args.b.now (c.args.k - 1) 128
    ∙ ap (next_after c.args.b.now) (sym c.walk_frames.ensures ∙ c.in_ok-at.was))
