-- `step` meets its contract: what the clock says of the reading decides, and a frame that is due is drawn or refused.
use Rattle.std.proofs.Common.{sym, ap, ◌∙◌}
use Rattle.std.specs.Prelude.{Ok, Result}
use Rattle.answer.specs.declared.Refused.{Refused}
use Rattle.answer.proofs.Laws.{handed_on}
use Rattle.state.specs.State.{state}
use Rattle.state.specs.Outcome.{lent_pair, leaves}
use Rattle.reel_play.specs.Play.{ran, Ran}
use Rattle.board_clock.specs.declared.Due.TheVariants.{Nothing, SetBack}
use Rattle.board_player.specs.declared.Event.TheVariants as event
use Rattle.board_player.specs.declared.Player.{Player}
use Rattle.board_player.specs.declared.Stepped.{Stepped}
use Rattle.board_player.specs.Player.{told_tick, plays, ticks, standing}
use Rattle.board_player.proofs.Laws.{tick_by_lem, tick_refused, tick_drawn}
use Rattle.board_player.proofs.step.Goals as goal

pub returns-in_err-drawn-in-Frame : goal.returns-in_err-drawn-in-Frame
returns-in_err-drawn-in-Frame c =
    let a = c.args in
    let s = state c.draw_next.new.picture c.draw_next.new.palette in
    ap (λ (r : Result Stepped Refused). ticks a.player r (lent_pair s)) (handed_on c.from_residual.ensures.1)
    ∙ tick_refused a.player a.bytes.now a.reading (state a.picture.now a.palette.now) _ c.step-turn.ensures c.in-Frame.is _ s
    (ap (λ (r : Ran). ran r s) (sym c.in_err-drawn-in-Frame.was) ∙ c.draw_next.ensures)

pub returns-in-Nothing : goal.returns-in-Nothing
returns-in-Nothing c =
    let a = c.args in
    tick_by_lem a.player a.bytes.now a.reading (state a.picture.now a.palette.now) _ c.step-turn.ensures Nothing c.in-Nothing.is

pub returns-in-SetBack : goal.returns-in-SetBack
returns-in-SetBack c =
    let a = c.args in
    let s = state a.picture.now a.palette.now in
    ap (λ (p : Player). plays p (leaves (told_tick (Ok event.SetBack)) (lent_pair s))) c.standing_at.ensures
    ∙ tick_by_lem a.player a.bytes.now a.reading s _ c.step-turn.ensures SetBack c.in-SetBack.is

pub returns-in_ok-drawn-in-Frame : goal.returns-in_ok-drawn-in-Frame
returns-in_ok-drawn-in-Frame c =
    let a = c.args in
    let s = state c.draw_next.new.picture c.draw_next.new.palette in
    ap (λ (p : Player). plays p (leaves (told_tick (Ok event.Drawn)) (lent_pair s)))
    (c.standing_at-in-Frame.ensures ∙ ap (standing a.player c.step-turn.result.stands) c.place_after-place.ensures)
    ∙ tick_drawn a.player a.bytes.now a.reading (state a.picture.now a.palette.now) _ c.step-turn.ensures c.in-Frame.is _ s
    (ap (λ (r : Ran). ran r s) (sym c.in_ok-drawn-in-Frame.was) ∙ c.draw_next.ensures)
