-- The first bytes decide, or, where a unit has two, the second.
use Prim.Native.Nat.{◌*◌}
use Rattle.house_packets.proofs.UnitLaws.{unit_other, unit_one, unit_two}
use Rattle.house_packets.proofs.same_unit.Goals as goal

pub returns-then-b-i : goal.returns-then-b-i
returns-then-b-i c =
    let a = c.args in
    let f = a.form in
    unit_other a.b.now (a.x * f.unit) (a.y * f.unit) f.unit f.fits.some_unit f.fits.small_unit c.requires.0 c.requires.1 c.if-b-i.true

pub returns-then-form-eq1 : goal.returns-then-form-eq1
returns-then-form-eq1 c =
    let a = c.args in
    let f = a.form in
    unit_one a.b.now (a.x * f.unit) (a.y * f.unit) f.unit f.fits.some_unit f.fits.small_unit c.requires.0 c.requires.1 c.if-b-i.false c.if-form-eq1.true

pub returns : goal.returns
returns c =
    let a = c.args in
    let f = a.form in
    unit_two a.b.now (a.x * f.unit) (a.y * f.unit) f.unit f.fits.some_unit f.fits.small_unit c.requires.0 c.requires.1 c.if-b-i.false c.if-form-eq1.false
