-- The picture with its last pixel set, or kept, is the one on which the packets act, and it is as long as it was.
use mathlib.Core.Path.{ap, ◌∙◌, sym}
use native.Mathlib.Omega.{arith}
use Rattle.walk.specs.Walk.{wrote}
use Rattle.read_packets.specs.Packets.{packets}
use Rattle.read_ss2.proofs.Laws.{line_wrote, line_packets_lem}
use Rattle.read_ss2.proofs.walk_line.Goals as goal

pub walk_packets-requires : goal.walk_packets-requires
walk_packets-requires c =
    let p = c.requires in
    (p.0, p.2, p.3, omega arith, omega arith, λ e. omega (arith, c.put_last.auto.picture, p.4 e))

pub returns : goal.returns
returns c =
    let a = c.args in record {
      verdict = c.walk_packets.ensures.verdict ∙ sym (line_packets_lem a.width a.body.now a.row a.last a.count a.from);
      writes = c.walk_packets.ensures.writes
          ∙ ap (wrote a.pass (packets 2 a.width a.body.now a.count a.row a.from 0).writes) c.put_last.ensures
          ∙ sym (line_wrote a.width a.body.now a.row a.pass a.last a.count a.from a.picture.now);
    }
