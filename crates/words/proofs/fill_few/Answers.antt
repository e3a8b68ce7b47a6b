-- `fill_few` meets its contract: every byte of one to three is the first, the middle one or the last (`few_filled`).
use native.Mathlib.Omega.{arith}
use lib.ListN.{length-set}
use Rattle.words.proofs.Runs.{few_filled}
use Rattle.words.proofs.fill_few.Goals as goal

pub bounds-part-n : goal.bounds-part-n
bounds-part-n c = simp length-set (omega arith)

pub bounds-part-n-2 : goal.bounds-part-n-2
bounds-part-n-2 c = simp length-set (omega arith)

pub returns : goal.returns
returns c = few_filled c.args.part.now c.args.value (omega arith) (omega arith)
