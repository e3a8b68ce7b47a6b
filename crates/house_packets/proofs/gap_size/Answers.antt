-- Invariant: size is that of the packets before unit i, and the left units from unit i on give the rest.
use Rattle.house_packets.proofs.GapLaws.{sizing_first, sizing_on, sizing_ends}
use Rattle.house_cells.proofs.EachLaws.{cells_few, cells_inside}
use lib.ListN.{length}
use Prim.Native.Nat.{◌+◌}
use native.Mathlib.Omega.{arith}
use Rattle.house_packets.proofs.gap_size.Goals as goal

pub loop-left-init : goal.loop-left-init
loop-left-init c =
    let a = c.args in
    sizing_first a.form.unit a.form.least a.form.longest a.b.now a.x a.m a.g c.shortened-size.result c.shortened-size.ensures.0 c.shortened-size.ensures.1

pub packet_at-p-requires : goal.packet_at-p-requires
packet_at-p-requires c =
    let a = c.args in (
      omega (arith, c.loop-left-test.true),
      cells_inside a.form.unit _ (a.x + a.m) (length a.b.now) (omega (arith, c.loop-left.invariant.place)) c.requires.0,
    )

pub overflow_add-i : goal.overflow_add-i
overflow_add-i c = let a = c.args in omega
    (arith, c.loop-left.invariant.place, c.packet_at-p.ensures.inside, cells_few a.form.unit (a.x + a.m) (length a.b.now) a.form.fits.some_unit c.requires.0)

pub loop-left-preserved : goal.loop-left-preserved
loop-left-preserved c =
    let a = c.args in
    let l = c.loop-left in
    let p = c.packet_at-p in
    sizing_on a.form.unit a.form.least a.form.longest a.b.now a.x a.m a.g l.i l.left l.size l.invariant p.result.units p.result.code p.result.len p.ensures

pub returns : goal.returns
returns c =
    let a = c.args in
    let l = c.loop-left in
    sizing_ends a.form.unit a.form.least a.form.longest a.b.now a.x a.m a.g l.i l.left l.size l.invariant (omega (arith, c.loop-left-test.false))
