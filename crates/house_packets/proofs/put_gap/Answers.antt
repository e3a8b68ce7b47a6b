-- The packets that shorten the gap, and then those of the units behind them, after what is left of the gap.
use Rattle.house_packets.proofs.GapLaws.{gap_length, gap_stored}
use Rattle.house_packets.specs.Units.{units_at}
use native.Mathlib.Omega.{arith}
use Rattle.house_packets.proofs.put_gap.Goals as goal

pub put_empty-requires : goal.put_empty-requires
put_empty-requires c =
    let a = c.args in
    omega (arith, c.requires.3, gap_length a.form.least a.form.longest a.g c.shortened-s.result (units_at a.form.unit a.b.now a.x a.m) c.shortened-s.ensures.0)

pub put_units-p-requires : goal.put_units-p-requires
put_units-p-requires c =
    let a = c.args in (
      c.requires.0,
      omega (arith, c.shortened-s.ensures.3, a.form.fits.small_longest),
      c.requires.2,
      omega (
        arith,
        c.requires.3,
        gap_length a.form.least a.form.longest a.g c.shortened-s.result (units_at a.form.unit a.b.now a.x a.m) c.shortened-s.ensures.0,
      ),
    )

pub returns : goal.returns
returns c =
    let a = c.args in
    let s = c.shortened-s in
    let p = c.put_units-p in (
      gap_stored a.form.least a.form.longest a.g s.result (units_at a.form.unit a.b.now a.x a.m) s.ensures.0 a.out.now c.put_empty.new.out p.new.out a.at
          p.result.count p.result.end c.requires.3 c.put_empty.ensures p.ensures.0,
      omega (arith, s.ensures.1, p.ensures.1),
    )
