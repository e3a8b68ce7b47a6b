-- `same_bytes` meets its contract: the two are equal byte by byte.
use mathlib.Core.Path.{sym, ◌∙◌}
use Rattle.words.proofs.Laws.{same_pointwise}
use Rattle.words.proofs.same_bytes.Goals as goal

pub returns : goal.returns
returns c = c.eq.ensures ∙ sym (same_pointwise c.args.a.now c.args.b.now)
