-- Invariant: all packets stored at at are the count stored so far, and those of the left units from unit i on stored at here.
use Rattle.house_packets.proofs.GapLaws.{storing_first, storing_room, storing_on, storing_ends}
use Rattle.house_cells.proofs.EachLaws.{cells_few, cells_inside}
use lib.ListN.{length}
use Prim.Native.Nat.{◌+◌}
use native.Mathlib.Omega.{arith}
use Rattle.house_packets.proofs.put_units.Goals as goal

pub loop-left-init : goal.loop-left-init
loop-left-init c =
    let a = c.args in
    storing_first a.form.unit a.form.least a.b.now a.x a.m a.k a.out.now a.at c.requires.1 c.requires.3

pub packet_at-p-requires : goal.packet_at-p-requires
packet_at-p-requires c =
    let a = c.args in (
      omega (arith, c.loop-left-test.true),
      cells_inside a.form.unit _ (a.x + a.m) (length a.b.now) (omega (arith, c.loop-left.invariant.place)) c.requires.0,
    )

pub put_packet-here-requires : goal.put_packet-here-requires
put_packet-here-requires c =
    let a = c.args in
    let l = c.loop-left in
    let p = c.packet_at-p in (
      storing_room a.form.unit a.form.least a.b.now a.x a.m a.k a.out.now a.at l.out l.here l.skip l.i l.left l.count l.invariant p.result.units p.result.code
          p.result.len p.ensures,
      l.invariant.small,
      p.ensures.byte,
    )

pub overflow_add-i : goal.overflow_add-i
overflow_add-i c = let a = c.args in omega
    (arith, c.loop-left.invariant.place, c.packet_at-p.ensures.inside, cells_few a.form.unit (a.x + a.m) (length a.b.now) a.form.fits.some_unit c.requires.0)

pub loop-left-preserved : goal.loop-left-preserved
loop-left-preserved c =
    let a = c.args in
    let l = c.loop-left in
    let p = c.packet_at-p in
    storing_on a.form.unit a.form.least a.b.now a.x a.m a.k a.out.now a.at l.out l.here l.skip l.i l.left l.count l.invariant p.result.units p.result.code
    p.result.len p.ensures
    c.put_packet-here.new.out c.put_packet-here.result c.put_packet-here.ensures

pub shape_of-out : goal.shape_of-out
shape_of-out c = c.loop-left.invariant.ahead.long

pub returns : goal.returns
returns c =
    let a = c.args in
    let l = c.loop-left in
    storing_ends a.form.unit a.form.least a.b.now a.x a.m a.k a.out.now a.at l.out l.here l.skip l.i l.left l.count l.invariant
    (omega (arith, c.loop-left-test.false))
