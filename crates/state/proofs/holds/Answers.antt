-- `holds` meets its contract: each return decides the test that it stands for.
use borrow.Author.Tests.{lt-leb, le-leb}
use Rattle.state.proofs.holds.Goals as goal

pub returns-then-pixels-n : goal.returns-then-pixels-n
returns-then-pixels-n c = simp (lt-leb _ _ c.if-pixels-n.true)

pub returns : goal.returns
returns c = simp (le-leb _ _ c.if-pixels-n.false)
