-- `fill_some` meets its contract: the first bytes and the last as many leave no gap (`ends_filled`).
use Prim.Native.Nat.{◌-◌}
use native.Mathlib.Omega.{arith}
use lib.ListN.{length}
use Rattle.words.proofs.Runs.{ends_filled}
use Rattle.words.proofs.fill_some.Goals as goal

pub returns-then-n-ge8 : goal.returns-then-n-ge8
returns-then-n-ge8 c =
    let a = c.args in
    ends_filled a.part.now c.fill_eight.new.part c.fill_eight-then-n-ge8.new.part a.value 8 (length a.part.now - 8) (omega arith) (omega arith)
    c.fill_eight.ensures c.fill_eight-then-n-ge8.ensures

pub returns : goal.returns
returns c =
    let a = c.args in
    ends_filled a.part.now c.put_four.new.out c.put_four-2.new.out a.value 4 (length a.part.now - 4) (omega arith) (omega arith) c.put_four.ensures
    c.put_four-2.ensures
