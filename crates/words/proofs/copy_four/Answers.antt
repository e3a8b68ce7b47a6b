-- `copy_four` meets its contract: the four bytes stored are what src has there.
use native.Mathlib.Omega.{arith}
use Rattle.words.proofs.Runs.{four_taken}
use Rattle.words.proofs.copy_four.Goals as goal

pub returns : goal.returns
returns c =
    let a = c.args in
    rw (four_taken a.src.now a.at (omega arith)) c.put_four.ensures
