-- `size_fits` meets its contract: at each format the definition computes to its test.
use mathlib.Core.Path.{◌∙◌, sym, ap}
use borrow.Author.Tests.{ne_eqb, eq-eqb}
use Rattle.format.specs.Limits.{size_in}
use Rattle.format.specs.declared.Format.{Format}
use Rattle.format.proofs.size_fits.Goals as goal

pub returns-then-size-ne-FLI_WIDTH : goal.returns-then-size-ne-FLI_WIDTH
returns-then-size-ne-FLI_WIDTH c =
    let z = c.args.size in
    simp (c.in-Fli.is, ne_eqb z.width 320 c.if-size-ne-FLI_WIDTH.true)

pub returns-in-Flc : goal.returns-in-Flc
returns-in-Flc c =
    let z = c.args.size in
    c.size_ok.ensures ∙ sym (ap (λ (f : Format). size_in f z.width z.height) c.in-Flc.is)

pub returns-else-size-ne-FLI_WIDTH : goal.returns-else-size-ne-FLI_WIDTH
returns-else-size-ne-FLI_WIDTH c =
    let z = c.args.size in
    simp (c.in-Fli.is, eq-eqb z.width 320 c.if-size-ne-FLI_WIDTH.false)
