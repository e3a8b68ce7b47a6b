-- `flic_add_frame` meets its contract: it hands on what `add_frame` answers to the reel that the record stands for.
use mathlib.Core.Path.{ap, ◌∙◌}
use Rattle.state.specs.State.{state}
use Rattle.reel_build.specs.declared.Reel.{Reel}
use Rattle.reel_build.specs.Building.{add_frame}
use Rattle.capi.proofs.Laws.{held_reel}
use Rattle.capi.proofs.flic_add_frame.Goals as goal

pub returns : goal.returns
returns c =
    let a = c.args in
    held_reel _ _ _ c.built_for_c.ensures.0
    (c.add_frame-a.ensures ∙ ap
    (λ (r : Reel). add_frame r a.bytes.now (state a.shown_picture.now a.shown_palette.now) (state a.next_picture.now a.next_palette.now))
    c.from.ensures) c.built_for_c.ensures.1
