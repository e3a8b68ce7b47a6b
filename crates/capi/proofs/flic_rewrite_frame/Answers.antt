-- `flic_rewrite_frame` meets its contract: it hands on what `rewrite_frame` answers.
use mathlib.Core.Path.{ap, ◌∙◌}
use Rattle.format.specs.declared.Size.{Size}
use Rattle.state.specs.State.{state}
use Rattle.house_rewrite.specs.Rewriting.{rewrite_frame}
use Rattle.capi.proofs.Laws.{held_length}
use Rattle.capi.proofs.flic_rewrite_frame.Goals as goal

pub returns : goal.returns
returns c =
    let a = c.args in
    held_length c.from.ensures.0
    (c.rewrite_frame-a.ensures ∙ ap
    (λ (z : Size). rewrite_frame a.bytes.now z (state a.previous_picture.now a.previous_palette.now)
    (state a.work_picture.now a.work_palette.now) a.out.now) c.size_from_c-size.ensures) c.from.ensures.1
