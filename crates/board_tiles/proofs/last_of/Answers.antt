-- `last_of` meets its contract: the last mark stands under the leading zeros.
use native.Mathlib.Omega.{arith}
use mathlib.Core.Path.{sym}
use Rattle.board_tiles.proofs.Marking.{none_last, leading_last}
use Rattle.board_tiles.proofs.last_of.Goals as goal

pub returns-then-word-eq0 : goal.returns-then-word-eq0
returns-then-word-eq0 c = sym (none_last c.args.word (omega arith) c.if-word-eq0.true)

pub overflow_sub-result : goal.overflow_sub-result
overflow_sub-result c = omega (arith, leading_last c.args.word (omega arith) (omega arith))

pub returns : goal.returns
returns c = omega (arith, leading_last c.args.word (omega arith) (omega arith))
