-- The two bytes are stored one after the other.
use mathlib.Core.Path.{ap, ◌∙◌, sym}
use native.Mathlib.Omega.{arith}
use lib.ListN.{length-set}
use Rattle.words.proofs.Laws.{put_two}
use Rattle.words.specs.Writes.{put}
use Rattle.read_packets.proofs.Laws.{pair_taken}
use Rattle.read_packets.proofs.put_pair.Goals as goal

pub bounds-picture-to-2 : goal.bounds-picture-to-2
bounds-picture-to-2 c = simp length-set (omega arith)

pub returns : goal.returns
returns c =
    let a = c.args in
    put_two a.picture.now a.to _ _ (omega arith) ∙ ap (put a.picture.now a.to) (sym (pair_taken a.body.now a.at c.requires.0))
