-- No gap has no skip word, and any other one of two bytes.
use Rattle.house_ss2.proofs.RowLaws.{skip_none, skip_some}
use lib.ListN.{length}
use native.Mathlib.Omega.{arith}
use mathlib.Core.Path.{sym, ap}
use Rattle.house_ss2.proofs.skip_size.Goals as goal

pub returns-then-g-eq0 : goal.returns-then-g-eq0
returns-then-g-eq0 c = (sym (ap length (skip_none c.args.g c.if-g-eq0.true)), omega arith)

pub returns-else-g-eq0 : goal.returns-else-g-eq0
returns-else-g-eq0 c = (sym (ap length (skip_some c.args.g (omega (arith, c.if-g-eq0.false)))), omega arith)
