-- `replay` meets its contract: the numbers are stored only where there is room for all.
use Rattle.std.proofs.Common.{◌∙◌}
use Rattle.state.proofs.Laws.{fitted_none, fitted_whole}
use Rattle.board_clock.proofs.Laws.{length_numbers, replay_fitted}
use Rattle.board_clock.proofs.replay.Goals as goal

pub returns-then-out-readings : goal.returns-then-out-readings
returns-then-out-readings c =
    let a = c.args in
    fitted_none _ a.out.now _ (length_numbers a.frames a.speed _ a.readings.now) c.if-out-readings.true
    ∙ replay_fitted a.speed a.frames a.start a.readings.now a.out.now c.if-frames-lt1.false c.if-frames-gt-MAX_FRAMES.false

pub returns : goal.returns
returns c =
    let a = c.args in
    fitted_whole _ a.out.now _ (length_numbers a.frames a.speed _ a.readings.now) _ c.if-out-readings.false c.store_numbers.ensures
    ∙ replay_fitted a.speed a.frames a.start a.readings.now a.out.now c.if-frames-lt1.false c.if-frames-gt-MAX_FRAMES.false
