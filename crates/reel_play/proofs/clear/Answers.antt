-- `clear` meets its contract: both slices are filled with 0 over their whole length, which is that of a blank pair.
use mathlib.Core.Path.{ap₂, ◌∙◌}
use Rattle.state.specs.State.{state}
use Rattle.reel_play.proofs.Laws.{exact_blank}
use Rattle.reel_play.proofs.clear.Goals as goal

pub returns : goal.returns
returns c =
    let a = c.args in
    ap₂ state c.fill.ensures c.fill-2.ensures ∙ exact_blank a.size (state a.picture.now a.palette.now) c.requires
