-- `start_player` meets its contract: an accepted check leaves frame 1's state in both pairs, so that the first shows it already.
use Rattle.std.proofs.Common.{sym, ap, ◌∙◌, arith}
use lib.Seq.{length-take-le}
use Rattle.std.specs.Prelude.{Ok, Result}
use Rattle.answer.specs.declared.Refused.{Refused}
use Rattle.answer.specs.Answer.{Answer, placed, told}
use Rattle.answer.proofs.Laws.{handed_on, placed_ok}
use Rattle.state.specs.State.{state}
use Rattle.state.specs.Outcome.{lent_pairs, leaves}
use Rattle.reel_header.specs.Head.{Headed}
use Rattle.reel_header.proofs.Laws.{head_in}
use Rattle.board_player.specs.declared.Player.{Player}
use Rattle.board_player.specs.Player.{starts}
use Rattle.board_player.proofs.Laws.{placed_at_lem, start_refused, start_headed, start_framed, start_done}
use Rattle.board_player.proofs.start_player.Goals as goal

pub returns-in_err-check_reel : goal.returns-in_err-check_reel
returns-in_err-check_reel c =
    let a = c.args in
    let l = c.check_reel.new in
    let s = state l.first_picture l.first_palette in
    let t = state l.second_picture l.second_palette in
    ap (λ (r : Result Player Refused). starts r (lent_pairs s t)) (handed_on c.from_residual.ensures.1)
    ∙ start_refused a.bytes.now a.reading (state a.first_picture.now a.first_palette.now) (state a.second_picture.now a.second_palette.now) s t _ _
    (ap (λ (x : Answer). leaves (told x) (lent_pairs s t)) (sym c.in_err-check_reel.was) ∙ c.check_reel.ensures)

pub returns-in_err-head : goal.returns-in_err-head
returns-in_err-head c =
    let a = c.args in
    let l = c.check_reel.new in
    let s = state l.first_picture l.first_palette in
    let t = state l.second_picture l.second_palette in
    absurd (start_headed a.bytes.now a.reading (state a.first_picture.now a.first_palette.now) (state a.second_picture.now a.second_palette.now) s t
    (ap (λ (x : Answer). leaves (told x) (lent_pairs s t)) (sym c.in_ok-check_reel.was) ∙ c.check_reel.ensures) _
    (ap (λ (x : Headed). placed 0 x) (sym c.head_of.ensures) ∙ sym c.placed.ensures ∙ c.in_err-head.was))

pub slice_bounds-step_at-end : goal.slice_bounds-step_at-end
slice_bounds-step_at-end c =
    sym (length-take-le _ _ (head_in _ _ _ (sym c.head_of.ensures ∙ placed_ok _ _ (sym c.placed.ensures ∙ c.in_ok-head.was))).most)

pub step_at-requires : goal.step_at-requires
step_at-requires c =
    let i = head_in _ _ _ (sym c.head_of.ensures ∙ placed_ok _ _ (sym c.placed.ensures ∙ c.in_ok-head.was)) in
    omega (arith, i.least, length-take-le _ _ i.most)

pub returns-in_err-frame : goal.returns-in_err-frame
returns-in_err-frame c =
    let a = c.args in
    let l = c.check_reel.new in
    let s = state l.first_picture l.first_palette in
    let t = state l.second_picture l.second_palette in
    absurd (start_framed a.bytes.now a.reading (state a.first_picture.now a.first_palette.now) (state a.second_picture.now a.second_palette.now) s t
    (ap (λ (x : Answer). leaves (told x) (lent_pairs s t)) (sym c.in_ok-check_reel.was) ∙ c.check_reel.ensures) _
    (sym c.head_of.ensures ∙ placed_ok _ _ (sym c.placed.ensures ∙ c.in_ok-head.was)) _ (sym c.step_at.ensures ∙ c.in_err-frame.was))

pub returns : goal.returns
returns c =
    let a = c.args in
    let l = c.check_reel.new in
    let s = state l.first_picture l.first_palette in
    let t = state l.second_picture l.second_palette in
    let headed = sym c.head_of.ensures ∙ placed_ok _ _ (sym c.placed.ensures ∙ c.in_ok-head.was) in
    ap (λ (p : Player). starts (Ok p) (lent_pairs s t))
    (c.player_at.ensures ∙ placed_at_lem a.bytes.now a.reading c.in_ok-head.head headed _ (sym c.step_at.ensures ∙ c.in_ok-frame.was))
    ∙ start_done a.bytes.now a.reading (state a.first_picture.now a.first_palette.now) (state a.second_picture.now a.second_palette.now) s t
    (ap (λ (x : Answer). leaves (told x) (lent_pairs s t)) (sym c.in_ok-check_reel.was) ∙ c.check_reel.ensures)
