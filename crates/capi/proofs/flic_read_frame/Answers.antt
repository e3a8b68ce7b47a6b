-- `flic_read_frame` meets its contract: it hands on what `read_frame` answers.
use mathlib.Core.Path.{ap, ◌∙◌}
use Rattle.format.specs.declared.Size.{Size}
use Rattle.state.specs.State.{state}
use Rattle.read_frame.specs.Reading.{read_frame}
use Rattle.capi.proofs.Laws.{held}
use Rattle.capi.proofs.flic_read_frame.Goals as goal

pub returns : goal.returns
returns c =
    let a = c.args in
    held c.from.ensures
    (c.read_frame-a.ensures ∙ ap (λ (z : Size). read_frame a.bytes.now z (state a.picture.now a.palette.now)) c.size_from_c-size.ensures)
