-- `tick` meets its contract: where nothing was due, the record that isn't stored is the one that stands there.
use Rattle.std.proofs.Common.{sym, ap, ◌∙◌, ◌∷◌, []}
use Rattle.std.specs.Prelude.{Result}
use Rattle.answer.specs.declared.Refused.{Refused}
use Rattle.answer.specs.Answer.{done}
use Rattle.state.specs.State.{state}
use Rattle.state.specs.Outcome.{lent_pair, leaves}
use Rattle.board_player.specs.declared.Event.{Event}
use Rattle.board_player.specs.declared.Stepped.{Stepped}
use Rattle.board_player.specs.Player.{event_number, plays, ticks}
use Rattle.board_player.proofs.Laws.{tick_quiet}
use Rattle.board_player.proofs.tick.Goals as goal

pub returns-in-Nothing : goal.returns-in-Nothing
returns-in-Nothing c =
    let a = c.args in
    let m = lent_pair (state c.step.new.picture c.step.new.palette) in
    let s = c.in_ok-stepped.stepped in
    let tells = ap (λ (e : Event). plays s.player (leaves (done (event_number e ∷ [])) m)) (sym c.in-Nothing.is) in
    ap (λ (e : Event). plays a.player.now (leaves (done (event_number e ∷ [])) m)) c.in-Nothing.is
    ∙ tick_quiet a.player.now s.player a.bytes.now (state a.picture.now a.palette.now) m a.reading
    (tells ∙ ap (λ (r : Result Stepped Refused). ticks a.player.now r m) (sym c.in_ok-stepped.was) ∙ c.step.ensures)
