-- `fill_eight` meets its contract: four bytes, and then as many again.
use mathlib.Core.Path.{refl}
use native.Mathlib.Omega.{arith}
use lib.ListN.{replicate}
use Rattle.words.proofs.Laws.{put_then}
use Rattle.words.proofs.fill_eight.Goals as goal

pub returns : goal.returns
returns c =
    let a = c.args in
    put_then a.part.now c.put_four.new.out c.put_four-2.new.out (replicate 4 a.value) (replicate 4 a.value) a.at 4 refl (omega arith)
    c.put_four.ensures c.put_four-2.ensures
