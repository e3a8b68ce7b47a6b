-- A frame is its header, and then its sub-chunks.
use mathlib.Core.Path.{ap, ◌∙◌, sym}
use lib.Seq.{length-take-le}
use Rattle.answer.specs.Answer.{placed}
use Rattle.answer.proofs.Laws.{handed_on}
use Rattle.walk.specs.Walk.{wrote}
use Rattle.walk.proofs.Laws.{wrote_none}
use Rattle.read_frame.specs.Frame.{FrameWalk}
use Rattle.read_frame.proofs.Laws.{frame_told, part_in}
use Rattle.read_frame.proofs.walk_frame.Goals as goal

pub returns-in_err-header : goal.returns-in_err-header
returns-in_err-header c =
    let a = c.args in
    let f = frame_told a.size a.b.now _ (sym (c.placed.ensures ∙ ap (placed 0) c.frame_header.ensures) ∙ c.in_err-header.was) in record {
      answer = handed_on c.from_residual.ensures.1 ∙ sym (ap (λ (x : FrameWalk). x.answer) f);
      pixels = sym (ap (λ (x : FrameWalk). wrote a.pass x.pixels a.picture.now) f ∙ wrote_none a.pass a.picture.now);
      colours = sym (ap (λ (x : FrameWalk). wrote a.pass x.colours a.palette.now) f ∙ wrote_none a.pass a.palette.now);
    }

pub slice_bounds-walk_chunks-end : goal.slice_bounds-walk_chunks-end
slice_bounds-walk_chunks-end c = sym
    (length-take-le _ c.args.b.now (part_in c.args.b.now _ (sym (c.placed.ensures ∙ ap (placed 0) c.frame_header.ensures) ∙ c.in_ok-header.was)).0)

pub walk_chunks-requires : goal.walk_chunks-requires
walk_chunks-requires c =
    let p = c.requires in
    ((part_in c.args.b.now _ (sym (c.placed.ensures ∙ ap (placed 0) c.frame_header.ensures) ∙ c.in_ok-header.was)).1, p.0, p.1, p.2)

pub returns : goal.returns
returns c =
    let a = c.args in
    let x = c.walk_chunks in
    let f = frame_told a.size a.b.now _ (sym (c.placed.ensures ∙ ap (placed 0) c.frame_header.ensures) ∙ c.in_ok-header.was) in record {
      answer = x.ensures.answer ∙ sym (ap (λ (x : FrameWalk). x.answer) f);
      pixels = x.ensures.pixels ∙ sym (ap (λ (x : FrameWalk). wrote a.pass x.pixels a.picture.now) f);
      colours = x.ensures.colours ∙ sym (ap (λ (x : FrameWalk). wrote a.pass x.colours a.palette.now) f);
    }
