-- The first row and the row count are two bytes each.
use Rattle.house_lc.proofs.RowLaws.{body_length}
use Rattle.house_cells.proofs.EachLaws.{cells_inside}
use lib.ListN.{length}
use native.Mathlib.Omega.{arith}
use Prim.Native.Nat.{◌+◌}
use Rattle.house_lc.proofs.delta_size.Goals as goal

pub lines_size-requires : goal.lines_size-requires
lines_size-requires c =
    let a = c.args in
    let r = c.changed_rows-rows in
    let x = r.ensures.2 in (
      c.requires.0,
      c.requires.1,
      omega (arith, x, c.requires.2),
      cells_inside a.width (r.result.first + r.result.count) a.height (length a.previous.now) x (omega (arith, c.requires.3)),
      cells_inside a.width (r.result.first + r.result.count) a.height (length a.next.now) x (omega (arith, c.requires.4)),
    )

pub returns : goal.returns
returns c =
    let a = c.args in
    let s = c.changed_rows-rows in
    let r = s.ensures in
    let l = c.lines_size.ensures in
    (omega (arith, l.0, body_length a.width a.height a.previous.now a.next.now s.result.first s.result.count r.0 r.1), omega (arith, l.1, r.2, c.requires.2))
