-- Invariant: size is the bytes of the stretches before entry i, and what is left is those from entry i on.
use Rattle.house_colour.proofs.Laws.{packet_length, body_length}
use Rattle.house_colour.specs.Colours.{changed_entries, colour_packet}
use Rattle.house_cells.proofs.StretchLaws.{measured_first, measured_on, measured_all}
use native.Mathlib.Omega.{arith}
use Prim.Native.Nat.{◌+◌, ◌*◌}
use mathlib.Core.Path.{sym}
use Rattle.house_colour.proofs.colour_size.Goals as goal

pub loop-s-init : goal.loop-s-init
loop-s-init c =
    let a = c.args in
    (omega arith, omega arith, measured_first 3 256 a.previous.now a.next.now colour_packet)

pub loop-s-preserved : goal.loop-s-preserved
loop-s-preserved c =
    let a = c.args in
    let l = c.loop-s in
    let s = c.in-Some.s in
    let e = c.in-Some.ensures in (
      omega (arith, e.1.inside),
      omega (arith, l.invariant.1, e.0),
      measured_on 3 256 a.previous.now a.next.now colour_packet l.i l.size l.invariant.2 s.gap s.changed e (2 + s.changed * 3)
          (sym (packet_length a.previous.now a.next.now l.i s.gap s.changed c.requires.1 e.1.inside)),
    )

pub returns : goal.returns
unfolding changed_entries
returns c =
    let a = c.args in
    let l = c.loop-s in (
      omega (
        arith,
        measured_all 3 256 a.previous.now a.next.now colour_packet l.i l.size l.invariant.2 c.in_default.ensures,
        body_length a.previous.now a.next.now,
      ),
      omega (arith, l.invariant.0, l.invariant.1),
    )
