-- Invariant: no repeat begins at the first j units, and the count goes on from unit x + j.
use Rattle.house_packets.proofs.UnitLaws.{single_first, single_on, single_stops, single_ends}
use Rattle.house_cells.proofs.EachLaws.{cells_few, cells_inside}
use lib.ListN.{length}
use native.Mathlib.Omega.{arith}
use Prim.Native.Nat.{◌+◌}
use Rattle.house_packets.proofs.up_to_repeat.Goals as goal

pub loop-j-init : goal.loop-j-init
loop-j-init c = let a = c.args in single_first a.form.least a.form.unit a.b.now a.x a.m

pub overflow_add-x : goal.overflow_add-x
overflow_add-x c = let a = c.args in omega (arith, c.loop-j-test.true, cells_few a.form.unit (a.x + a.m) (length a.b.now) a.form.fits.some_unit c.requires)

pub repeats_at-requires : goal.repeats_at-requires
repeats_at-requires c =
    let a = c.args in
    cells_inside a.form.unit _ (a.x + a.m) (length a.b.now) (omega (arith, c.loop-j-test.true)) c.requires

pub returns-then-repeats_at : goal.returns-then-repeats_at
returns-then-repeats_at c =
    let a = c.args in
    let l = c.loop-j in
    let s = c.repeats_at in
    single_stops a.form.least a.form.unit a.b.now a.x a.m l.j l.invariant s.result c.loop-j-test.true s.ensures c.if-repeats_at.true

pub loop-j-preserved : goal.loop-j-preserved
loop-j-preserved c =
    let a = c.args in
    let l = c.loop-j in
    let s = c.repeats_at in
    single_on a.form.least a.form.unit a.b.now a.x a.m l.j l.invariant s.result c.loop-j-test.true s.ensures c.if-repeats_at.false

pub returns : goal.returns
returns c =
    let a = c.args in
    single_ends a.form.least a.form.unit a.b.now a.x a.m c.loop-j.j c.loop-j.invariant (omega arith)
