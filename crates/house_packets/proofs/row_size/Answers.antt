-- Invariant: size is that of the stretches before unit i, and the stretches from unit i on give the rest.
use Rattle.house_packets.proofs.RowLaws.{stretch_bytes, row_bytes, stretch_gap, stretch_fits}
use Rattle.house_cells.proofs.EachLaws.{cells_few}
use Rattle.house_packets.specs.Packets.{Packet, bytes}
use Rattle.house_cells.proofs.StretchLaws.{measured_first, measured_on, measured_all}
use Rattle.format.specs.Limits.{max_width}
use lib.ListN.{length}
use native.Mathlib.Omega.{arith}
use mathlib.Core.Path.{sym, ap, ◌∙◌}
use mathlib.Core.List.{List}
use Rattle.house_packets.proofs.row_size.Goals as goal

pub loop-s-init : goal.loop-s-init
loop-s-init c =
    let a = c.args in
    (omega arith, omega arith, measured_first a.form.unit a.n a.a.now a.b.now (stretch_bytes a.form.unit a.form.least a.form.longest))

pub overflow_mul-form : goal.overflow_mul-form
overflow_mul-form c =
    let a = c.args in
    let s = c.in-Some.s in
    omega (
      arith,
      (stretch_fits a.form.unit a.form.least a.form.longest a.form.fits a.n c.loop-s.i s.gap s.changed max_width (length a.b.now)
          c.in-Some.ensures.1.inside c.requires.0 c.requires.2).gap_wide,
    )

pub gap_size-size-requires : goal.gap_size-size-requires
gap_size-size-requires c =
    let a = c.args in
    let s = c.in-Some.s in
    let f = stretch_fits a.form.unit a.form.least a.form.longest a.form.fits a.n c.loop-s.i s.gap s.changed max_width (length a.b.now)
    c.in-Some.ensures.1.inside c.requires.0 c.requires.2 in
    (f.row, omega (arith, f.gap_few, f.gap_wide), f.changed_wide)

pub overflow_add-size : goal.overflow_add-size
overflow_add-size c =
    let a = c.args in
    let s = c.in-Some.s in
    let f = stretch_fits a.form.unit a.form.least a.form.longest a.form.fits a.n c.loop-s.i s.gap s.changed max_width (length a.b.now)
    c.in-Some.ensures.1.inside c.requires.0 c.requires.2 in
    omega (
      arith,
      c.gap_size-size.ensures.1,
      f.gap_wide,
      f.changed_wide,
      c.loop-s.invariant.1,
      c.loop-s.invariant.0,
      cells_few a.form.unit a.n max_width a.form.fits.some_unit c.requires.0,
    )

pub loop-s-preserved : goal.loop-s-preserved
loop-s-preserved c =
    let a = c.args in
    let l = c.loop-s in
    let s = c.in-Some.s in
    let e = c.in-Some.ensures in
    let p = c.gap_size-size in
    let f = stretch_fits a.form.unit a.form.least a.form.longest a.form.fits a.n l.i s.gap s.changed max_width (length a.b.now) e.1.inside c.requires.0
    c.requires.2 in
    let is = stretch_gap a.form.unit a.form.least a.form.longest a.a.now a.b.now l.i s.gap s.changed in (
      omega (arith, e.1.inside),
      omega (arith, l.invariant.1, p.ensures.1, f.gap),
      measured_on a.form.unit a.n a.a.now a.b.now (stretch_bytes a.form.unit a.form.least a.form.longest) l.i l.size l.invariant.2 s.gap s.changed e
          p.result (p.ensures.0 ∙ ap (λ (ps : List Packet). length (bytes ps)) is),
    )

pub returns : goal.returns
returns c =
    let a = c.args in
    let l = c.loop-s in (
      measured_all a.form.unit a.n a.a.now a.b.now (stretch_bytes a.form.unit a.form.least a.form.longest) l.i l.size l.invariant.2 c.in_default.ensures
          ∙ ap length (sym (row_bytes a.form.unit a.form.least a.form.longest a.n a.a.now a.b.now)),
      omega (arith, l.invariant.0, l.invariant.1),
    )
