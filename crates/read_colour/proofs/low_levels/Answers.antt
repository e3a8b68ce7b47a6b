-- `low_levels` meets its contract: the definition is the conjunction of what `all` tests.
use Rattle.std.proofs.Common.{leb, refl, rules}
use Rattle.std.proofs.lemmas.List.Recursion.{and_is}
use Rattle.format.specs.Format.{max_level}
use Rattle.read_colour.specs.Colour.{low_levels}
use Rattle.read_colour.proofs.low_levels.Goals as goal

pub returns : goal.returns
unfolding low_levels
returns c = and_is low_levels (λ x. leb x max_level) refl (λ _ _. refl) c.args.part.now 0 _ (search rules) (search rules)
