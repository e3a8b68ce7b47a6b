-- `whole_reel` meets its contract: the header is checked first, and then the frames are walked within the size that it tells.
use mathlib.Core.Path.{refl, ◌∙◌, sym, ap, subst}
use Prim.Native.Nat.{◌+◌}
use native.Mathlib.Omega.{arith}
use lib.Seq.{length-take-le}
use Rattle.answer.specs.Answer.{placed}
use Rattle.answer.proofs.Laws.{handed_on, placed_ok}
use Rattle.reel_header.specs.Head.{Headed}
use Rattle.reel_header.proofs.Laws.{head_in}
use Rattle.reel_trailer.specs.Room.{WholeReel}
use Rattle.reel_trailer.proofs.Laws.{walk_placed, walk_to, walked_in}
use Rattle.reel_trailer.proofs.whole_reel.Goals as goal

pub returns-in_err-head : goal.returns-in_err-head
returns-in_err-head c =
    subst (WholeReel c.args.bytes.now) (sym (handed_on c.from_residual.ensures.1))
    (walk_placed c.args.bytes.now _ (ap (λ (x : Headed). placed 0 x) (sym c.head_of.ensures) ∙ sym c.placed.ensures ∙ c.in_err-head.was))

pub overflow_add-count : goal.overflow_add-count
overflow_add-count c =
    let headed = sym c.head_of.ensures ∙ placed_ok _ _ (sym c.placed.ensures ∙ c.in_ok-head.was) in
    omega (arith, (head_in _ _ _ headed).few_frames)

pub slice_bounds-walk_frames-end : goal.slice_bounds-walk_frames-end
slice_bounds-walk_frames-end c =
    let headed = sym c.head_of.ensures ∙ placed_ok _ _ (sym c.placed.ensures ∙ c.in_ok-head.was) in
    sym (length-take-le c.in_ok-head.head.size c.args.bytes.now (head_in _ _ _ headed).most)

pub returns-in_err-walk_frames : goal.returns-in_err-walk_frames
returns-in_err-walk_frames c =
    let b = c.args.bytes.now in
    let h = c.in_ok-head.head in
    let headed = sym c.head_of.ensures ∙ placed_ok _ _ (sym c.placed.ensures ∙ c.in_ok-head.was) in
    subst (WholeReel b) (sym (handed_on c.from_residual-in_err-walk_frames.ensures.1))
    (walk_to b h.picture h.frames h.size h.speed headed h.size (h.frames + 1) refl (omega arith) _ (sym c.walk_frames.ensures ∙ c.in_err-walk_frames.was))

pub returns : goal.returns
returns c =
    let b = c.args.bytes.now in
    let h = c.in_ok-head.head in
    let headed = sym c.head_of.ensures ∙ placed_ok _ _ (sym c.placed.ensures ∙ c.in_ok-head.was) in
    let walked = sym c.walk_frames.ensures ∙ c.in_ok-walk_frames.was in
    record {
      inside = (head_in _ _ _ headed).most;
      walked = walked_in b h.picture h.frames h.size h.speed headed h.size (h.frames + 1) refl (omega arith) _ walked;
      walk = walk_to b h.picture h.frames h.size h.speed headed h.size (h.frames + 1) refl (omega arith) _ walked;
    }
