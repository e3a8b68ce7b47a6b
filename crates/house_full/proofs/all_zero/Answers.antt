-- `all_zero` meets its contract: the closure tests one pixel, and `all` does so for each.
use mathlib.Core.Path.{◌∙◌}
use borrow.Author.Tests.{tests}
use lib.Dec.{eqb}
use Rattle.std.proofs.Common.{rules}
use Rattle.std.proofs.lemmas.Iterator.{YieldsList-from_slice}
use Rattle.std.proofs.lemmas.Iterator.Search.{all_from_yields_List}
use Rattle.house_full.proofs.Laws.{zero_each}
use Rattle.house_full.proofs.all_zero.Goals as goal

pub returns : goal.returns
returns c =
    all_from_yields_List (λ x. eqb x 0) _ _ _ c.all.ensures.ran (YieldsList-from_slice c.args.picture.now cc) (λ x b q k. search (rules, tests))
    ∙ zero_each c.args.picture.now
