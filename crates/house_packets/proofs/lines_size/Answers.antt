-- Invariant: size is the bytes of the lines before row r, and the rows from row r on give the rest.
use Rattle.house_cells.proofs.EachLaws.{cell_inside, sizing_first, sizing_on, sizing_ends}
use lib.ListN.{length}
use native.Mathlib.Omega.{arith}
use Prim.Native.Nat.{◌+◌}
use Rattle.house_packets.proofs.lines_size.Goals as goal

pub loop-r-init : goal.loop-r-init
loop-r-init g c = let a = c.args in sizing_first a.width a.previous.now a.next.now (g.L.Line.line a.width) a.first a.n g.L.Line.line_most

pub slice_bounds-line_size-end : goal.slice_bounds-line_size-end
slice_bounds-line_size-end g c =
    let a = c.args in
    omega (arith, cell_inside a.width c.loop-r.r (a.first + a.n) (length a.previous.now) c.loop-r-test.true c.requires.3)

pub slice_bounds-line_size-end-in-loop-r : goal.slice_bounds-line_size-end-in-loop-r
slice_bounds-line_size-end-in-loop-r g c =
    let a = c.args in
    omega (arith, cell_inside a.width c.loop-r.r (a.first + a.n) (length a.next.now) c.loop-r-test.true c.requires.4)

pub loop-r-preserved : goal.loop-r-preserved
loop-r-preserved g c =
    let a = c.args in
    let l = c.loop-r in
    let m = c.line_size-size in
    sizing_on a.width a.previous.now a.next.now (g.L.Line.line a.width) a.first a.n g.L.Line.line_most l.r l.size l.invariant m.result c.loop-r-test.true
    m.ensures.0 m.ensures.1

pub returns : goal.returns
returns g c =
    let a = c.args in
    let l = c.loop-r in
    sizing_ends a.width a.previous.now a.next.now (g.L.Line.line a.width) a.first a.n g.L.Line.line_most l.r l.size l.invariant c.loop-r-test.false
