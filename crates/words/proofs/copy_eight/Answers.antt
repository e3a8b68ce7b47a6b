-- `copy_eight` meets its contract: four bytes, and then as many again (`halves_copied`).
use Prim.Native.Nat.{◌+◌}
use native.Mathlib.Omega.{arith}
use Rattle.words.proofs.Runs.{halves_copied, four_taken}
use Rattle.words.proofs.copy_eight.Goals as goal

pub returns : goal.returns
returns c =
    let a = c.args in
    let e = c.copy_four.new.dst in
    halves_copied a.dst.now e c.put_four.new.out a.src.now a.at 4 (omega arith) (omega arith) c.copy_four.ensures
    (rw (four_taken a.src.now (a.at + 4) (omega arith)) c.put_four.ensures)
