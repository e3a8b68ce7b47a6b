-- `copy_few` meets its contract: the first bytes and the last as many leave no gap (`ends_copied`).
use Prim.Native.Nat.{◌-◌}
use native.Mathlib.Omega.{arith}
use lib.ListN.{length}
use Rattle.words.proofs.Runs.{ends_copied, one_copied}
use Rattle.words.proofs.copy_few.Goals as goal

pub returns-then-n-ge8 : goal.returns-then-n-ge8
returns-then-n-ge8 c =
    let a = c.args in
    ends_copied a.dst.now c.copy_eight.new.dst c.copy_eight-then-n-ge8.new.dst a.src.now 8 (length a.src.now - 8) (omega arith) (omega arith)
    (omega arith) c.copy_eight.ensures c.copy_eight-then-n-ge8.ensures

pub returns-then-n-ge4 : goal.returns-then-n-ge4
returns-then-n-ge4 c =
    let a = c.args in
    ends_copied a.dst.now c.copy_four.new.dst c.copy_four-then-n-ge4.new.dst a.src.now 4 (length a.src.now - 4) (omega arith) (omega arith)
    (omega arith) c.copy_four.ensures c.copy_four-then-n-ge4.ensures

pub returns-then-n-ge2 : goal.returns-then-n-ge2
returns-then-n-ge2 c =
    let a = c.args in
    ends_copied a.dst.now c.copy_two.new.dst c.copy_two-then-n-ge2.new.dst a.src.now 2 (length a.src.now - 2) (omega arith) (omega arith)
    (omega arith) c.copy_two.ensures c.copy_two-then-n-ge2.ensures

pub returns : goal.returns
returns c = one_copied c.args.dst.now c.args.src.now (omega arith) (omega arith)
