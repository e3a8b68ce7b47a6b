-- `flic_close_reel` meets its contract: it hands on what `close_reel` answers to the reel that the record stands for.
use mathlib.Core.Path.{ap, ◌∙◌}
use Rattle.state.specs.State.{state}
use Rattle.reel_build.specs.declared.Reel.{Reel}
use Rattle.reel_close.specs.Closing.{close_reel}
use Rattle.capi.proofs.Laws.{held_reel}
use Rattle.capi.proofs.flic_close_reel.Goals as goal

pub returns : goal.returns
returns c =
    let a = c.args in
    held_reel _ _ _ c.built_for_c.ensures.0
    (c.close_reel-a.ensures ∙ ap
    (λ (r : Reel). close_reel r a.bytes.now (state a.first_picture.now a.first_palette.now) (state a.second_picture.now a.second_palette.now))
    c.from.ensures) c.built_for_c.ensures.1
