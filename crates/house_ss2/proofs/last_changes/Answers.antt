-- An even width has no last-pixel word, an odd one has it where the last pixels differ.
use Rattle.house_ss2.proofs.LineLaws.{changes_even, changes_odd}
use Rattle.house_ss2.proofs.last_changes.Goals as goal

pub returns-then-width-eq0 : goal.returns-then-width-eq0
returns-then-width-eq0 c = let a = c.args in changes_even a.width a.a.now a.b.now c.if-width-eq0.true

pub returns : goal.returns
returns c = let a = c.args in changes_odd a.width a.a.now a.b.now c.if-width-eq0.false
