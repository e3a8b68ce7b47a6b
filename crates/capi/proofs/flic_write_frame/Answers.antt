-- `flic_write_frame` meets its contract: it hands on what `write_frame` answers.
use mathlib.Core.Path.{ap, ◌∙◌}
use Rattle.format.specs.declared.Size.{Size}
use Rattle.state.specs.State.{state}
use Rattle.house_frame.specs.Writing.{write_frame}
use Rattle.capi.proofs.Laws.{held_length}
use Rattle.capi.proofs.flic_write_frame.Goals as goal

pub returns : goal.returns
returns c =
    let a = c.args in
    held_length c.from.ensures.0
    (c.write_frame-a.ensures ∙ ap
    (λ (z : Size). write_frame z (state a.previous_picture.now a.previous_palette.now) (state a.next_picture.now a.next_palette.now) a.out.now)
    c.size_from_c-size.ensures) c.from.ensures.1
