-- Both branches play the sub-chunks alike; how many bytes are in packets decides which is taken, and nothing else.
use mathlib.Core.Path.{ap, ◌∙◌, sym}
use lib.Seq.{length-take-le}
use Rattle.answer.specs.Answer.{placed}
use Rattle.answer.proofs.Laws.{handed_on}
use Rattle.state.specs.State.{state}
use Rattle.read_frame.specs.Frame.{FrameWalk}
use Rattle.read_frame.specs.Reading.{settled}
use Rattle.read_frame.proofs.Laws.{frame_told, part_in}
use Rattle.read_frame.proofs.play_frame.Goals as goal

pub returns-in_err-header-clause-answer : goal.returns-in_err-header-clause-answer
returns-in_err-header-clause-answer c =
    let a = c.args in
    let f = frame_told a.size a.b.now _ (sym (c.placed.ensures ∙ ap (placed 0) c.frame_header.ensures) ∙ c.in_err-header.was) in
    handed_on c.from_residual.ensures.1 ∙ sym (ap (λ (x : FrameWalk). x.answer) f)

pub slice_bounds-whole-end : goal.slice_bounds-whole-end
slice_bounds-whole-end c = sym
    (length-take-le _ c.args.b.now (part_in c.args.b.now _ (sym (c.placed.ensures ∙ ap (placed 0) c.frame_header.ensures) ∙ c.in_ok-header.was)).0)

pub packet_bytes-requires : goal.packet_bytes-requires
packet_bytes-requires c = (part_in c.args.b.now _ (sym (c.placed.ensures ∙ ap (placed 0) c.frame_header.ensures) ∙ c.in_ok-header.was)).1

pub play_twice-requires : goal.play_twice-requires
play_twice-requires c = ((part_in c.args.b.now _ (sym (c.placed.ensures ∙ ap (placed 0) c.frame_header.ensures) ∙ c.in_ok-header.was)).1, c.requires)

pub returns-then-packet_bytes-lt-MANY : goal.returns-then-packet_bytes-lt-MANY
returns-then-packet_bytes-lt-MANY c =
    let a = c.args in
    let x = c.play_twice in
    let f = frame_told a.size a.b.now _ (sym (c.placed.ensures ∙ ap (placed 0) c.frame_header.ensures) ∙ c.in_ok-header.was) in record {
      answer = x.ensures.answer ∙ sym (ap (λ (y : FrameWalk). y.answer) f);
      state = x.ensures.state ∙ sym (ap (λ (y : FrameWalk). settled y x.result (state a.picture.now a.palette.now)) f);
    }

pub play_saved-requires : goal.play_saved-requires
play_saved-requires c = ((part_in c.args.b.now _ (sym (c.placed.ensures ∙ ap (placed 0) c.frame_header.ensures) ∙ c.in_ok-header.was)).1, c.requires)

pub returns : goal.returns
returns c =
    let a = c.args in
    let x = c.play_saved in
    let f = frame_told a.size a.b.now _ (sym (c.placed.ensures ∙ ap (placed 0) c.frame_header.ensures) ∙ c.in_ok-header.was) in record {
      answer = x.ensures.answer ∙ sym (ap (λ (y : FrameWalk). y.answer) f);
      state = x.ensures.state ∙ sym (ap (λ (y : FrameWalk). settled y x.result (state a.picture.now a.palette.now)) f);
    }
