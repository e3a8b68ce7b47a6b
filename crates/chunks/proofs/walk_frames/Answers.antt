-- `walk_frames` meets its contract. The invariant: the walk over all frames goes as far as the walk over the frames left does, from where the last one ended.
use mathlib.Core.Path.{◌≡◌, ◌∙◌, sym, ap}
use Prim.Native.Nat.{ℕ, ◌+◌, ◌-◌}
use native.Mathlib.Omega.{arith}
use Rattle.chunks.specs.Spans.{extent}
use Rattle.chunks.proofs.Spans.{extent_none, extent_fault, extent_more}
use Rattle.chunks.proofs.walk_frames.Goals as goal

pub returns-in-Err : goal.returns-in-Err
returns-in-Err c =
    sym (c.loop.invariant ∙ extent_fault c.args.b.now (c.args.count - c.loop.counter) c.loop.at (omega arith) _ (sym c.next_at.ensures ∙ c.in-Err.is))

pub loop-preserved : goal.loop-preserved
loop-preserved c =
    let one : c.args.count - c.loop.counter - 1 ≡ c.args.count - (c.loop.counter + 1) = omega arith in
    c.loop.invariant
    ∙ extent_more c.args.b.now (c.args.count - c.loop.counter) c.loop.at (omega arith) _ _ (sym c.next_at.ensures ∙ c.in-Ok.is)
    ∙ ap (λ (n : ℕ). extent c.args.b.now n c.in-Ok.frame.end) one

pub returns : goal.returns
returns c = sym (c.loop.invariant ∙ extent_none c.args.b.now (c.args.count - c.loop.counter) c.loop.at (omega arith))
