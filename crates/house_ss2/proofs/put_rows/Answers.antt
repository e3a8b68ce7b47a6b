-- Invariant: all stretches stored at at are those stored so far, of count rows, and those from row i on stored at here.
use Rattle.house_ss2.proofs.RowLaws.{rows, stretch_rows}
use Rattle.house_ss2.specs.Delta.{stretch_lines, changed_rows, line_count}
use Rattle.house_cells.proofs.EachLaws.{cells_inside}
use Rattle.house_cells.proofs.StretchLaws.{measured_first, measured_on, measured_all, written_first, written_room, written_on, written_all}
use lib.ListN.{length}
use native.Mathlib.Omega.{arith}
use Prim.Native.Nat.{◌+◌}
use mathlib.Core.Path.{refl}
use Rattle.house_ss2.proofs.put_rows.Goals as goal

pub loop-s-init : goal.loop-s-init
unfolding changed_rows
loop-s-init c =
    let a = c.args in (
      omega arith,
      omega arith,
      measured_first a.width a.height a.previous.now a.next.now rows,
      written_first a.width a.height a.previous.now a.next.now (stretch_lines a.width) a.out.now a.at c.requires.5,
    )

pub put_stretch-here-requires : goal.put_stretch-here-requires
put_stretch-here-requires c =
    let a = c.args in
    let l = c.loop-s in
    let s = c.in-Some.s in
    let e = c.in-Some.ensures in
    let x = e.1.inside in
    let n = l.i + s.gap + s.changed in (
      c.requires.0,
      c.requires.1,
      omega (arith, x, c.requires.2),
      cells_inside a.width n a.height (length a.previous.now) x (omega (arith, c.requires.3)),
      cells_inside a.width n a.height (length a.next.now) x (omega (arith, c.requires.4)),
      written_room a.width a.height a.previous.now a.next.now (stretch_lines a.width) a.out.now a.at l.out l.here l.i l.invariant.3 s.gap s.changed e _
          refl,
    )

pub loop-s-preserved : goal.loop-s-preserved
loop-s-preserved c =
    let a = c.args in
    let l = c.loop-s in
    let s = c.in-Some.s in
    let e = c.in-Some.ensures in
    let p = c.put_stretch-here in (
      omega (arith, e.1.inside),
      omega (arith, l.invariant.1),
      measured_on a.width a.height a.previous.now a.next.now rows l.i l.count l.invariant.2 s.gap s.changed e s.changed
          (stretch_rows a.width l.i s.gap s.changed a.previous.now a.next.now),
      written_on a.width a.height a.previous.now a.next.now (stretch_lines a.width) a.out.now a.at l.out l.here l.i l.invariant.3 s.gap s.changed e _
          refl p.new.out p.result p.ensures.0 p.ensures.1,
    )

pub returns : goal.returns
unfolding line_count changed_rows
returns c =
    let a = c.args in
    let l = c.loop-s in
    let none = c.in_default.ensures in (
      measured_all a.width a.height a.previous.now a.next.now rows l.i l.count l.invariant.2 none,
      omega (arith, l.invariant.0, l.invariant.1),
      (written_all a.width a.height a.previous.now a.next.now (stretch_lines a.width) a.out.now a.at l.out l.here l.i l.invariant.3 none).1,
    )
