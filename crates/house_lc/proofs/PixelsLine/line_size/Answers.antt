-- The packet count is one byte.
use Rattle.house_lc.proofs.LineLaws.{line_length}
use Rattle.house_cells.specs.Rows.{row}
use native.Mathlib.Omega.{arith}
use Rattle.house_lc.proofs.PixelsLine.line_size.Goals as goal

pub returns : goal.returns
returns c =
    let a = c.args in
    let m = c.row_size.ensures in
    (omega (arith, m.0, line_length a.width (row a.a.now a.b.now)), omega (arith, m.1, c.requires.1))
