-- Invariant: the first j units are equal to unit v, and the count goes on from unit x + j.
use Rattle.house_packets.proofs.UnitLaws.{equal_first, equal_on, equal_stops, equal_ends}
use Rattle.house_cells.proofs.EachLaws.{cell_inside, cells_few}
use Rattle.house_packets.specs.Units.{unit_at}
use lib.ListN.{length}
use native.Mathlib.Omega.{arith}
use Prim.Native.Nat.{◌+◌}
use Rattle.house_packets.proofs.equals_of.Goals as goal

pub loop-j-init : goal.loop-j-init
loop-j-init c = let a = c.args in equal_first (unit_at a.form.unit a.b.now a.v) a.form.unit a.b.now a.x a.m

pub overflow_add-x : goal.overflow_add-x
overflow_add-x c = let a = c.args in omega (arith, c.loop-j-test.true, cells_few a.form.unit (a.x + a.m) (length a.b.now) a.form.fits.some_unit c.requires.1)

pub same_unit-requires : goal.same_unit-requires
same_unit-requires c =
    let a = c.args in (
      c.requires.0,
      cell_inside a.form.unit (a.x + c.loop-j.j) (a.x + a.m) (length a.b.now) (omega (arith, c.loop-j-test.true)) c.requires.1,
    )

pub returns-then-not-same_unit : goal.returns-then-not-same_unit
returns-then-not-same_unit c =
    let a = c.args in
    let l = c.loop-j in
    let s = c.same_unit in
    equal_stops (unit_at a.form.unit a.b.now a.v) a.form.unit a.b.now a.x a.m l.j l.invariant s.result c.loop-j-test.true s.ensures c.if-not-same_unit.true

pub loop-j-preserved : goal.loop-j-preserved
loop-j-preserved c =
    let a = c.args in
    let l = c.loop-j in
    let s = c.same_unit in
    equal_on (unit_at a.form.unit a.b.now a.v) a.form.unit a.b.now a.x a.m l.j l.invariant s.result c.loop-j-test.true s.ensures c.if-not-same_unit.false

pub returns : goal.returns
returns c =
    let a = c.args in
    equal_ends (unit_at a.form.unit a.b.now a.v) a.form.unit a.b.now a.x a.m c.loop-j.j c.loop-j.invariant (omega arith)
