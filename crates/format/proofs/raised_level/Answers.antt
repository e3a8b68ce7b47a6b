-- `raised_level` meets its contract: four times a level of at most 63 and a sixteenth of it fit a byte.
use mathlib.Core.Path.{refl}
use Rattle.format.specs.Format.{raised}
use native.Mathlib.Omega.{arith}
use Rattle.format.proofs.raised_level.Goals as goal

pub overflow_add-result : goal.overflow_add-result
overflow_add-result c = omega arith

pub returns : goal.returns
unfolding raised
returns c = refl
