-- The invariant: what was counted and the edges of the rows left make all of them; a row has at most as many as pixels, so the sum fits.
use mathlib.Core.Path.{ap, ◌∙◌}
use native.Mathlib.Omega.{arith}
use lib.Dec.{ltb}
use Rattle.house_full.proofs.Edges.{counting_more, counting_done}
use Rattle.house_full.proofs.more_edges.Goals as goal

pub loop-row-preserved : goal.loop-row-preserved
loop-row-preserved c =
    let l = c.loop-row in
    let one = c.in-Some.ensures.steps in (
      omega (arith, one.0, l.invariant.2, c.requires.size.some_wide),
      tt,
      one.0 ∙ l.invariant.2,
      counting_more l.invariant.3 c.requires.size.some_wide c.in-Some.row.now _ c.from-count.result one.1.0 (one.1.1 ∙ l.invariant.2)
          (c.from-count.ensures ∙ c.row_edges.ensures),
    )

pub returns : goal.returns
returns c =
    let l = c.loop-row in
    ap (ltb c.args.n) (counting_done l.invariant.3 (omega (arith, c.in-None.ensures.steps.1.0, l.invariant.2)))
