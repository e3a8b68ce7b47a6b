-- `count_of` meets its contract: 0 means 256, and any other count itself.
use native.Mathlib.Omega.{arith}
use mathlib.Core.Path.{◌∙◌}
use Rattle.read_colour.specs.Colour.{count_of}
use Rattle.read_colour.proofs.Laws.{count_pos}
use borrow.Author.Rules.{rules}
use Rattle.read_colour.proofs.count_of.Goals as goal

pub returns-then-x-eq0 : goal.returns-then-x-eq0
unfolding count_of
returns-then-x-eq0 c = search rules

pub returns-else-x-eq0 : goal.returns-else-x-eq0
returns-else-x-eq0 c = (c.from.ensures ∙ count_pos _ c.if-x-eq0.false, omega (arith, c.from.ensures))
