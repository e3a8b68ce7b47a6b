-- `copy_two` meets its contract: two stores side by side are one `put`, of what src has there.
use native.Mathlib.Omega.{arith}
use lib.ListN.{length-set}
use Rattle.words.proofs.Runs.{two_taken}
use Rattle.words.proofs.Laws.{put_two}
use Rattle.words.proofs.copy_two.Goals as goal

pub bounds-dst-at-2 : goal.bounds-dst-at-2
bounds-dst-at-2 c = simp length-set (omega arith)

pub returns : goal.returns
returns c =
    let a = c.args in
    rw (two_taken a.src.now a.at (omega arith)) (put_two a.dst.now a.at _ _ (omega arith))
