-- The first row, the row count, and then the lines.
use Rattle.house_lc.proofs.RowLaws.{body_length, body_stored}
use Rattle.house_cells.proofs.EachLaws.{cells_inside}
use lib.ListN.{length}
use native.Mathlib.Omega.{arith}
use Prim.Native.Nat.{◌+◌}
use Rattle.house_lc.proofs.write_delta.Goals as goal

pub put_u16-requires : goal.put_u16-requires
put_u16-requires c =
    let a = c.args in
    let r = c.changed_rows-rows in (
      omega (arith, c.requires.5, body_length a.width a.height a.previous.now a.next.now r.result.first r.result.count r.ensures.0 r.ensures.1),
      omega (arith, r.ensures.2, c.requires.2),
    )

pub put_u16-requires-2 : goal.put_u16-requires-2
put_u16-requires-2 c =
    let a = c.args in
    let r = c.changed_rows-rows in (
      omega (arith, c.requires.5, body_length a.width a.height a.previous.now a.next.now r.result.first r.result.count r.ensures.0 r.ensures.1),
      omega (arith, r.ensures.2, c.requires.2),
    )

pub put_lines-requires : goal.put_lines-requires
put_lines-requires c =
    let a = c.args in
    let r = c.changed_rows-rows in
    let x = r.ensures.2 in (
      c.requires.0,
      c.requires.1,
      cells_inside a.width (r.result.first + r.result.count) a.height (length a.previous.now) x (omega (arith, c.requires.3)),
      cells_inside a.width (r.result.first + r.result.count) a.height (length a.next.now) x (omega (arith, c.requires.4)),
      omega (arith, c.requires.5, body_length a.width a.height a.previous.now a.next.now r.result.first r.result.count r.ensures.0 r.ensures.1),
    )

pub returns : goal.returns
returns c =
    let a = c.args in
    let r = c.changed_rows-rows in
    body_stored a.width a.height a.previous.now a.next.now r.result.first r.result.count r.ensures.0 r.ensures.1 a.out.now c.put_u16.new.out
    c.put_u16-2.new.out c.put_lines.new.out a.at c.requires.5 c.put_u16.ensures c.put_u16-2.ensures c.put_lines.ensures.1
