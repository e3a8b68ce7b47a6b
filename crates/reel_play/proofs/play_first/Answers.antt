-- `play_first` meets its contract: frame 1 is played on a pair that was cleared, and the copies are made after it.
use mathlib.Core.Path.{ap, ◌∙◌}
use Rattle.state.specs.State.{State, state}
use Rattle.reel_play.specs.Play.{one_frame}
use Rattle.reel_play.proofs.Laws.{exact_kept}
use Rattle.reel_play.proofs.play_first.Goals as goal

pub one_frame-ran-requires : goal.one_frame-ran-requires
one_frame-ran-requires c =
    let a = c.args in
    (c.requires.0, exact_kept a.size (state a.picture.now a.palette.now) c.requires.1 _ _ c.clear.auto.picture c.clear.auto.palette)

pub returns : goal.returns
returns c =
    let a = c.args in record {
      first = c.one_frame-ran.ensures ∙ ap (λ (s : State). one_frame a.layout a.size a.b.now 128 s) c.clear.ensures;
      picture = c.copy.ensures;
      palette = c.copy-2.ensures;
    }
