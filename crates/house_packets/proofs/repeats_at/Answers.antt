-- Fewer than least units are no repeat, and of others the first and least - 1 after it decide.
use Rattle.house_packets.proofs.UnitLaws.{repeats_few, repeats_some}
use Rattle.house_cells.proofs.EachLaws.{cell_inside, cells_few, cells_inside}
use lib.ListN.{length}
use Prim.Native.Nat.{◌+◌}
use native.Mathlib.Omega.{arith}
use Rattle.house_packets.proofs.repeats_at.Goals as goal

pub returns-then-m-form : goal.returns-then-m-form
returns-then-m-form c =
    let a = c.args in
    repeats_few a.form.least a.form.unit a.b.now a.x a.m c.if-m-form.true

pub overflow_add-x : goal.overflow_add-x
overflow_add-x c = let a = c.args in
    omega (arith, c.if-m-form.false, a.form.fits.some_least, cells_few a.form.unit (a.x + a.m) (length a.b.now) a.form.fits.some_unit c.requires)

pub equals_of-requires : goal.equals_of-requires
equals_of-requires c =
    let a = c.args in (
      cell_inside a.form.unit a.x (a.x + a.m) (length a.b.now) (omega (arith, c.if-m-form.false, a.form.fits.some_least)) c.requires,
      cells_inside a.form.unit _ (a.x + a.m) (length a.b.now) (omega (arith, c.if-m-form.false, a.form.fits.some_least)) c.requires,
    )

pub returns : goal.returns
returns c =
    let a = c.args in
    repeats_some a.form.least a.form.unit a.b.now a.x a.m c.equals_of.result a.form.fits.some_least (omega (arith, c.if-m-form.false)) c.equals_of.ensures.0
