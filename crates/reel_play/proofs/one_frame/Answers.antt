-- `one_frame` meets its contract: the frame that the step leads to lies within the bytes; it leaves what its playing leaves.
use mathlib.Core.Path.{ap, ◌∙◌, sym}
use Prim.Native.Nat.{◌-◌}
use native.Mathlib.Omega.{arith}
use Rattle.std.specs.Prelude.{Ok, Err}
use Rattle.words.specs.Words.{part}
use Rattle.words.proofs.Laws.{span_length}
use Rattle.answer.specs.Answer.{Answer}
use Rattle.answer.proofs.Laws.{handed_on}
use Rattle.state.specs.State.{state}
use Rattle.chunks.proofs.Spans.{next_in}
use Rattle.reel_play.specs.Play.{Ran, ran}
use Rattle.read_frame.specs.Frame.{frame}
use Rattle.read_frame.specs.Reading.{settled}
use Rattle.read_frame.proofs.Theorems.{refused_within}
use Rattle.reel_play.proofs.Laws.{one_fault, one_refused, one_played}
use Rattle.reel_play.proofs.one_frame.Goals as goal

pub returns-in_err-frame : goal.returns-in_err-frame
returns-in_err-frame c =
    let a = c.args in
    let s = state a.picture.now a.palette.now in
    ap (λ (r : Ran). ran r s) (handed_on c.from_residual.ensures.1)
    ∙ sym (one_fault a.layout a.size a.b.now a.at s _ (sym c.step_at.ensures ∙ c.in_err-frame.was))

pub slice_bounds-play_frame-count : goal.slice_bounds-play_frame-count
slice_bounds-play_frame-count c =
    let a = c.args in
    omega (arith, (next_in a.layout a.b.now a.at _ (sym c.step_at.ensures ∙ c.in_ok-frame.was)).1)

pub slice_bounds-play_frame-start : goal.slice_bounds-play_frame-start
slice_bounds-play_frame-start c =
    let a = c.args in
    omega (arith, (next_in a.layout a.b.now a.at _ (sym c.step_at.ensures ∙ c.in_ok-frame.was)).1)

pub slice_bounds-play_frame-end : goal.slice_bounds-play_frame-end
slice_bounds-play_frame-end c =
    let a = c.args in
    (next_in a.layout a.b.now a.at _ (sym c.step_at.ensures ∙ c.in_ok-frame.was)).2

pub overflow_add-result : goal.overflow_add-result
overflow_add-result c =
    let a = c.args in
    let i = next_in c.args.layout c.args.b.now c.args.at _ (sym c.step_at.ensures ∙ c.in_ok-frame.was) in
    let from = c.in_ok-frame.frame.from in
    let end = c.in_ok-frame.frame.end in
    let place = refused_within a.size (part a.b.now from end) _ _ (sym c.play_frame.ensures.answer ∙ c.in-Err.is) in
    omega (arith, i.1, i.2, place, span_length a.b.now from end (end - from) i.2 (omega (arith, i.1)))

pub returns-in-Ok : goal.returns-in-Ok
returns-in-Ok c =
    let a = c.args in
    let x = c.play_frame in
    let s = state a.picture.now a.palette.now in
    let f = c.in_ok-frame.frame in
    ap (ran (Ok f)) (x.ensures.state ∙ ap (λ (y : Answer). settled (frame a.size (part a.b.now f.from f.end)) y s) c.in-Ok.is)
    ∙ sym (one_played a.layout a.size a.b.now a.at s _ _ (sym c.step_at.ensures ∙ c.in_ok-frame.was) (sym x.ensures.answer ∙ c.in-Ok.is))

pub returns-in-Err : goal.returns-in-Err
returns-in-Err c =
    let a = c.args in
    let x = c.play_frame in
    let s = state a.picture.now a.palette.now in
    let f = c.in_ok-frame.frame in
    ap (ran (Err _)) (x.ensures.state ∙ ap (λ (y : Answer). settled (frame a.size (part a.b.now f.from f.end)) y s) c.in-Err.is)
    ∙ sym (one_refused a.layout a.size a.b.now a.at s _ _ (sym c.step_at.ensures ∙ c.in_ok-frame.was) _ (sym x.ensures.answer ∙ c.in-Err.is))
