-- `zeros` meets its contract: the buffer with nothing at its front.
use mathlib.Core.Path.{refl}
use Rattle.reel_trailer.specs.Room.{padded}
use Rattle.reel_trailer.proofs.zeros.Goals as goal

pub returns : goal.returns
unfolding padded
returns c = refl
