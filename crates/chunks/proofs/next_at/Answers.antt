-- `next_at` meets its contract: the next frame from the start is the next frame from here, whatever was stepped over.
use mathlib.Core.Path.{◌∙◌, sym, ap}
use native.Mathlib.Omega.{arith}
use Rattle.std.specs.Prelude.{Result}
use Rattle.answer.proofs.Laws.{handed_on, placed_ok}
use Rattle.answer.specs.declared.Refused.{Refused}
use Rattle.chunks.specs.declared.Chunk.{Chunk}
use Rattle.chunks.specs.declared.Layout.TheVariants.{Loose}
use Rattle.chunks.specs.Spans.{next_at}
use Rattle.chunks.proofs.Headers.{header_in_lem}
use Rattle.chunks.proofs.Spans.{next_none, next_frame, next_over, stepped_over}
use Rattle.chunks.proofs.next_at.Goals as goal

pub returns-then-start-b : goal.returns-then-start-b
returns-then-start-b c = sym (next_none c.args.b.now c.args.start (omega arith))

pub returns-then-u16_at-eq-FRAME_TYPE : goal.returns-then-u16_at-eq-FRAME_TYPE
returns-then-u16_at-eq-FRAME_TYPE c = c.packed_at.ensures
    ∙ sym (c.loop-at.invariant.1 ∙ next_frame c.args.b.now c.loop-at.at (omega arith) (sym c.u16_at.ensures.value ∙ c.if-u16_at-eq-FRAME_TYPE.true))

pub returns-in_err-at : goal.returns-in_err-at
returns-in_err-at c = handed_on c.from_residual.ensures.1
    ∙ sym (c.loop-at.invariant.1 ∙ next_over c.args.b.now c.loop-at.at (omega arith) (λ e. c.if-u16_at-eq-FRAME_TYPE.false (c.u16_at.ensures.value ∙ e)) _
    (sym c.header_at.ensures)
    ∙ ap (λ (x : Result Chunk Refused). stepped_over x (λ end. next_at Loose c.args.b.now end)) (sym c.placed.ensures ∙ c.in_err-at.was))

pub loop-at-smaller : goal.loop-at-smaller
loop-at-smaller c =
    let i = header_in_lem _ _ _ (sym c.header_at.ensures ∙ placed_ok _ _ (sym c.placed.ensures ∙ c.in_ok-at.was)) in
    omega (arith, i.0, i.1)

pub loop-at-preserved : goal.loop-at-preserved
loop-at-preserved c =
    let e = sym c.header_at.ensures ∙ placed_ok _ _ (sym c.placed.ensures ∙ c.in_ok-at.was) in (
      (header_in_lem _ _ _ e).1,
      c.loop-at.invariant.1 ∙ next_over c.args.b.now c.loop-at.at (omega arith) (λ e. c.if-u16_at-eq-FRAME_TYPE.false (c.u16_at.ensures.value ∙ e)) _ e,
    )

pub returns : goal.returns
returns c = sym (c.loop-at.invariant.1 ∙ next_none c.args.b.now c.loop-at.at (omega arith))
