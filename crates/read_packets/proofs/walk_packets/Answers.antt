-- A dry pass is the check, in which the row doesn't matter; a wet one does the writes.
use mathlib.Core.Path.{ap, ◌∙◌, sym}
use Rattle.walk.specs.Walk.{wrote}
use Rattle.walk.specs.declared.Pass.{Pass}
use Rattle.read_packets.specs.Packets.{packets}
use Rattle.read_packets.proofs.Laws.{packets_row}
use Rattle.read_packets.proofs.walk_packets.Goals as goal

pub put_packets-requires : goal.put_packets-requires
put_packets-requires g c = let p = c.requires in (p.0, p.1, p.2, p.3, p.4, p.5 c.in-Wet.is)

pub returns-in-Dry : goal.returns-in-Dry
returns-in-Dry g c =
    let a = c.args in
    let k = packets g.row.UNIT a.width a.body.now a.count a.row a.from 0 in record {
      verdict = c.check_packets.ensures ∙ sym (packets_row g.row.UNIT a.width a.body.now a.count a.row a.from 0);
      writes = sym (ap (λ (p : Pass). wrote p k.writes a.picture.now) c.in-Dry.is);
    }

pub returns-in-Wet : goal.returns-in-Wet
returns-in-Wet g c =
    let a = c.args in
    let x = c.put_packets in
    let k = packets g.row.UNIT a.width a.body.now a.count a.row a.from 0 in record {
      verdict = x.ensures.verdict;
      writes = x.ensures.writes ∙ sym (ap (λ (p : Pass). wrote p k.writes a.picture.now) c.in-Wet.is);
    }
