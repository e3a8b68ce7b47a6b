-- Invariant: all lines stored at at are those stored so far, and those of the rows from row r on stored at here.
use Rattle.house_cells.proofs.EachLaws.{cell_inside, storing_first, storing_room, storing_on, storing_ends}
use Rattle.words.proofs.Laws.{part_length}
use lib.ListN.{length}
use native.Mathlib.Omega.{arith}
use Prim.Native.Nat.{ℕ, ◌+◌, ◌*◌, ◌≤◌}
use mathlib.Core.List.{List}
use Rattle.house_packets.proofs.put_lines.Goals as goal

pub loop-r-init : goal.loop-r-init
loop-r-init g c = let a = c.args in storing_first a.width a.previous.now a.next.now (g.L.Line.line a.width) a.first a.n a.out.now a.at c.requires.4

pub slice_bounds-put_line-end : goal.slice_bounds-put_line-end
slice_bounds-put_line-end g c =
    let a = c.args in
    omega (arith, cell_inside a.width c.loop-r.r (a.first + a.n) (length a.previous.now) c.loop-r-test.true c.requires.2)

pub slice_bounds-put_line-end-in-loop-r : goal.slice_bounds-put_line-end-in-loop-r
slice_bounds-put_line-end-in-loop-r g c =
    let a = c.args in
    omega (arith, cell_inside a.width c.loop-r.r (a.first + a.n) (length a.next.now) c.loop-r-test.true c.requires.3)

pub put_line-here-requires : goal.put_line-here-requires
put_line-here-requires g c =
    let a = c.args in
    let l = c.loop-r in
    let r = l.r in
    let inside : (b : List ℕ) → (a.first + a.n) * a.width ≤ length b → r * a.width + a.width ≤ length b =
    (λ b h. cell_inside a.width r (a.first + a.n) (length b) c.loop-r-test.true h) in (
      c.requires.0,
      c.requires.1,
      part_length a.previous.now (r * a.width) a.width (inside a.previous.now c.requires.2),
      part_length a.next.now (r * a.width) a.width (inside a.next.now c.requires.3),
      storing_room a.width a.previous.now a.next.now (g.L.Line.line a.width) a.first a.n a.out.now a.at l.out r l.here l.invariant c.loop-r-test.true,
    )

pub loop-r-preserved : goal.loop-r-preserved
loop-r-preserved g c =
    let a = c.args in
    let l = c.loop-r in
    let p = c.put_line-here in
    storing_on a.width a.previous.now a.next.now (g.L.Line.line a.width) a.first a.n a.out.now a.at l.out l.r l.here l.invariant c.loop-r-test.true
    p.new.out p.result p.ensures.0 p.ensures.1

pub returns : goal.returns
returns g c =
    let a = c.args in
    let l = c.loop-r in
    storing_ends a.width a.previous.now a.next.now (g.L.Line.line a.width) a.first a.n a.out.now a.at l.out l.r l.here l.invariant c.loop-r-test.false
