-- Invariant: all packets stored at at are the count stored so far, and those of the stretches from unit i on stored at here.
use Rattle.house_packets.proofs.RowLaws.{stretch_bytes, row_stretches, row_bytes, stretch_gap, stretch_fits}
use Rattle.house_cells.proofs.EachLaws.{cells_few}
use Rattle.house_packets.specs.Packets.{bytes, stretch_packets}
use Rattle.house_cells.proofs.StretchLaws.{measured_first, measured_on, measured_all, written_first, written_room, written_on, written_all}
use Rattle.format.specs.Limits.{max_width}
use Rattle.words.specs.Writes.{put}
use lib.ListN.{length}
use native.Mathlib.Omega.{arith}
use Prim.Native.Nat.{ℕ, ◌+◌}
use mathlib.Core.List.{List}
use mathlib.Core.Path.{sym, ap, ◌∙◌}
use Rattle.house_packets.proofs.put_row.Goals as goal

pub loop-s-init : goal.loop-s-init
loop-s-init c =
    let a = c.args in (
      omega arith,
      omega arith,
      measured_first a.form.unit a.n a.a.now a.b.now (stretch_packets a.form.unit a.form.least a.form.longest),
      written_first a.form.unit a.n a.a.now a.b.now (stretch_bytes a.form.unit a.form.least a.form.longest) a.out.now a.at
          (omega (arith, c.requires.3, ap length (row_bytes a.form.unit a.form.least a.form.longest a.n a.a.now a.b.now))),
    )

pub overflow_mul-form : goal.overflow_mul-form
overflow_mul-form c =
    let a = c.args in
    let s = c.in-Some.s in
    omega (
      arith,
      (stretch_fits a.form.unit a.form.least a.form.longest a.form.fits a.n c.loop-s.i s.gap s.changed max_width (length a.b.now)
          c.in-Some.ensures.1.inside c.requires.0 c.requires.2).gap_wide,
    )

pub put_gap-p-requires : goal.put_gap-p-requires
put_gap-p-requires c =
    let a = c.args in
    let l = c.loop-s in
    let s = c.in-Some.s in
    let e = c.in-Some.ensures in
    let f = stretch_fits a.form.unit a.form.least a.form.longest a.form.fits a.n l.i s.gap s.changed max_width (length a.b.now) e.1.inside c.requires.0
    c.requires.2 in (
      f.row,
      f.gap_wide,
      omega (arith, f.changed_wide),
      written_room a.form.unit a.n a.a.now a.b.now (stretch_bytes a.form.unit a.form.least a.form.longest) a.out.now a.at l.out l.here l.i l.invariant.3
          s.gap s.changed e _ (ap bytes (stretch_gap a.form.unit a.form.least a.form.longest a.a.now a.b.now l.i s.gap s.changed)),
    )

pub overflow_add-count : goal.overflow_add-count
overflow_add-count c =
    let a = c.args in
    let s = c.in-Some.s in
    let f = stretch_fits a.form.unit a.form.least a.form.longest a.form.fits a.n c.loop-s.i s.gap s.changed max_width (length a.b.now)
    c.in-Some.ensures.1.inside c.requires.0 c.requires.2 in
    omega (
      arith,
      c.put_gap-p.ensures.1,
      f.gap_wide,
      f.changed_wide,
      c.loop-s.invariant.1,
      c.loop-s.invariant.0,
      cells_few a.form.unit a.n max_width a.form.fits.some_unit c.requires.0,
    )

pub loop-s-preserved : goal.loop-s-preserved
loop-s-preserved c =
    let a = c.args in
    let l = c.loop-s in
    let s = c.in-Some.s in
    let e = c.in-Some.ensures in
    let p = c.put_gap-p in
    let f = stretch_fits a.form.unit a.form.least a.form.longest a.form.fits a.n l.i s.gap s.changed max_width (length a.b.now) e.1.inside c.requires.0
    c.requires.2 in
    let is = stretch_gap a.form.unit a.form.least a.form.longest a.a.now a.b.now l.i s.gap s.changed in (
      omega (arith, e.1.inside),
      omega (arith, l.invariant.1, p.ensures.1, f.gap),
      measured_on a.form.unit a.n a.a.now a.b.now (stretch_packets a.form.unit a.form.least a.form.longest) l.i l.count l.invariant.2 s.gap s.changed e
          p.result.count (p.ensures.0.number ∙ ap length is),
      written_on a.form.unit a.n a.a.now a.b.now (stretch_bytes a.form.unit a.form.least a.form.longest) a.out.now a.at l.out l.here l.i l.invariant.3
          s.gap s.changed e _ (ap bytes is) p.new.out p.result.end p.ensures.0.ends p.ensures.0.stored,
    )

pub returns : goal.returns
returns c =
    let a = c.args in
    let l = c.loop-s in
    let none = c.in_default.ensures in
    let is = row_bytes a.form.unit a.form.least a.form.longest a.n a.a.now a.b.now in
    let all = written_all a.form.unit a.n a.a.now a.b.now (stretch_bytes a.form.unit a.form.least a.form.longest) a.out.now a.at l.out l.here l.i
    l.invariant.3 none in (
      record {
        number =
            measured_all a.form.unit a.n a.a.now a.b.now (stretch_packets a.form.unit a.form.least a.form.longest) l.i l.count l.invariant.2 none
            ∙ ap length (sym (row_stretches a.form.unit a.form.least a.form.longest a.n a.a.now a.b.now));
        ends = all.0 ∙ ap (λ (v : List ℕ). a.at + length v) (sym is);
        stored = all.1 ∙ ap (put a.out.now a.at) (sym is);
      },
      omega (arith, l.invariant.1, l.invariant.0),
    )
