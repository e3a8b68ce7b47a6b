-- The word is p, q, p, q (`pairs_word`), and each pair is one of the first two or of the last two (`few_pairs`).
use mathlib.Core.Path.{ap, ◌∙◌}
use mathlib.Core.List.{List, []}
use Prim.Native.Nat.{ℕ, ◌+◌, ◌-◌, ◌*◌}
use native.Mathlib.Omega.{arith}
use Rattle.words.specs.Writes.{put}
use Rattle.words.specs.Words.{le32}
use Rattle.read_packets.proofs.Laws.{pairs_word, few_pairs}
use Rattle.read_packets.proofs.fill_few_pairs.Goals as goal

pub returns : goal.returns
returns c =
    let a = c.args in
    let pre = c.requires in
    let x = c.from in
    let y = c.from-2 in
    let pair = x.result + 256 * y.result in
    let v = le32 (pair + 65536 * pair) [] in
    let word = pairs_word a.p a.q pair (omega (arith, c.ranges.p.fits)) (omega (arith, c.ranges.q.fits)) (omega (arith, x.ensures, y.ensures)) in
    c.put_u32-2.ensures ∙ ap (λ (l : List ℕ). put l (2 * a.n - 4) v) c.put_u32.ensures
    ∙ few_pairs a.part.now v a.n a.p a.q word pre.0 pre.1 pre.2
