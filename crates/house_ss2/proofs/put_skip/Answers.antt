-- No gap stores nothing.
use Rattle.house_ss2.proofs.RowLaws.{skip_none, skip_some}
use Rattle.words.specs.Writes.{put}
use Rattle.words.proofs.Laws.{put_nil}
use lib.ListN.{length}
use native.Mathlib.Omega.{arith}
use mathlib.Core.Path.{sym, ap, ◌∙◌}
use Rattle.house_ss2.proofs.put_skip.Goals as goal

pub returns-then-g-eq0 : goal.returns-then-g-eq0
returns-then-g-eq0 c =
    let a = c.args in
    let e = skip_none a.g c.if-g-eq0.true in
    (omega (arith, ap length e), sym (ap (put a.out.now a.at) e ∙ put_nil a.out.now a.at))

pub put_u16-requires : goal.put_u16-requires
put_u16-requires c = omega (arith, c.requires, ap length (skip_some c.args.g (omega (arith, c.if-g-eq0.false))), c.if-g-eq0.false)

pub returns : goal.returns
returns c =
    let a = c.args in
    let e = skip_some a.g (omega (arith, c.if-g-eq0.false)) in
    (omega (arith, ap length e), c.put_u16.ensures ∙ ap (put a.out.now a.at) (sym e))
