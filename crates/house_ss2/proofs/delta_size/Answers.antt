-- Invariant: size is that of the stretches before row i, and the stretches from row i on give the rest.
use Rattle.house_ss2.proofs.RowLaws.{stretch_length, body_length}
use Rattle.house_ss2.specs.Delta.{stretch_lines, changed_rows}
use Rattle.house_cells.proofs.EachLaws.{cells_inside}
use Rattle.house_cells.proofs.StretchLaws.{measured_first, measured_on, measured_all}
use lib.ListN.{length}
use native.Mathlib.Omega.{arith}
use Prim.Native.Nat.{◌+◌}
use Rattle.house_ss2.proofs.delta_size.Goals as goal

pub loop-s-init : goal.loop-s-init
loop-s-init c =
    let a = c.args in
    (omega arith, omega arith, measured_first a.width a.height a.previous.now a.next.now (stretch_lines a.width))

pub lines_size-requires : goal.lines_size-requires
lines_size-requires c =
    let a = c.args in
    let x = c.in-Some.ensures.1.inside in
    let n = c.loop-s.i + c.in-Some.s.gap + c.in-Some.s.changed in (
      c.requires.0,
      c.requires.1,
      omega (arith, x, c.requires.2),
      cells_inside a.width n a.height (length a.previous.now) x (omega (arith, c.requires.3)),
      cells_inside a.width n a.height (length a.next.now) x (omega (arith, c.requires.4)),
    )

pub loop-s-preserved : goal.loop-s-preserved
loop-s-preserved c =
    let a = c.args in
    let l = c.loop-s in
    let s = c.in-Some.s in
    let e = c.in-Some.ensures in
    let k = c.skip_size in
    let n = c.lines_size in (
      omega (arith, e.1.inside),
      omega (arith, l.invariant.1, k.ensures.1, n.ensures.1, e.0),
      measured_on a.width a.height a.previous.now a.next.now (stretch_lines a.width) l.i l.size l.invariant.2 s.gap s.changed e (k.result + n.result)
          (omega (arith, k.ensures.0, n.ensures.0, stretch_length a.width l.i s.gap s.changed a.previous.now a.next.now)),
    )

pub returns : goal.returns
unfolding changed_rows
returns c =
    let a = c.args in
    let l = c.loop-s in (
      omega (
        arith,
        measured_all a.width a.height a.previous.now a.next.now (stretch_lines a.width) l.i l.size l.invariant.2 c.in_default.ensures,
        body_length a.width a.height a.previous.now a.next.now,
      ),
      omega (arith, l.invariant.0, l.invariant.1, c.requires.2),
    )
