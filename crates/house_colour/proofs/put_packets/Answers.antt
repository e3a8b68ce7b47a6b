-- Invariant: all packets stored at at are the count stored so far, and the packets from entry i on stored at here.
use Rattle.house_colour.proofs.Laws.{packet_lent}
use Rattle.house_colour.specs.Colours.{changed_entries, colour_packet}
use Rattle.house_cells.proofs.StretchLaws.{measured_first, measured_on, measured_all, written_first, written_room, written_on, written_all}
use Rattle.house_cells.proofs.CellLaws.{flat_map_each}
use lib.ListN.{length}
use native.Mathlib.Omega.{arith}
use mathlib.Core.Path.{refl, ap, ◌∙◌}
use Rattle.house_colour.proofs.put_packets.Invariants.{each}
use Rattle.house_colour.proofs.put_packets.Goals as goal

pub loop-s-init : goal.loop-s-init
unfolding changed_entries
loop-s-init c =
    let a = c.args in (
      omega arith,
      omega arith,
      measured_first 3 256 a.previous.now a.next.now each,
      written_first 3 256 a.previous.now a.next.now colour_packet a.out.now a.at c.requires.2,
    )

pub put_packet-here-requires : goal.put_packet-here-requires
put_packet-here-requires c =
    let a = c.args in
    let l = c.loop-s in
    let s = c.in-Some.s in
    let e = c.in-Some.ensures in
    let room = written_room 3 256 a.previous.now a.next.now colour_packet a.out.now a.at l.out l.here l.i l.invariant.3 s.gap s.changed e _
    (packet_lent a.previous.now a.next.now l.i s.gap s.changed) in
    (omega (arith, room), omega (arith, e), omega arith)

pub loop-s-preserved : goal.loop-s-preserved
loop-s-preserved c =
    let a = c.args in
    let l = c.loop-s in
    let s = c.in-Some.s in
    let e = c.in-Some.ensures in
    let p = c.put_packet-here in (
      omega (arith, e.1.inside),
      omega (arith, l.invariant.1, e.0),
      measured_on 3 256 a.previous.now a.next.now each l.i l.count l.invariant.2 s.gap s.changed e 1 refl,
      written_on 3 256 a.previous.now a.next.now colour_packet a.out.now a.at l.out l.here l.i l.invariant.3 s.gap s.changed e _
          (packet_lent a.previous.now a.next.now l.i s.gap s.changed) p.new.out p.result (omega (arith, p.ensures.0)) p.ensures.1,
    )

pub returns : goal.returns
unfolding changed_entries
returns c =
    let a = c.args in
    let l = c.loop-s in
    let none = c.in_default.ensures in (
      measured_all 3 256 a.previous.now a.next.now each l.i l.count l.invariant.2 none ∙ ap length (flat_map_each (changed_entries a.previous.now a.next.now)),
      omega (arith, l.invariant.0, l.invariant.1),
      (written_all 3 256 a.previous.now a.next.now colour_packet a.out.now a.at l.out l.here l.i l.invariant.3 none).1,
    )
