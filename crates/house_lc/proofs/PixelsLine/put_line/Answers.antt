-- The packets, and then their count in front of them: it fits its byte (`count_small`).
use Rattle.house_lc.proofs.LineLaws.{line_length, line_counted}
use Rattle.house_cells.specs.Rows.{row}
use native.Mathlib.Omega.{arith}
use Rattle.house_lc.proofs.PixelsLine.put_line.Goals as goal

pub put_row-p-requires : goal.put_row-p-requires
put_row-p-requires c =
    let a = c.args in
    omega (arith, c.requires, line_length a.width (row a.a.now a.b.now))

pub overflow_cast-out : goal.overflow_cast-out
overflow_cast-out c = omega (arith, (line_counted c.requires.1 c.requires.4 c.put_row-p.ensures.0).small)

pub bounds-out-at : goal.bounds-out-at
bounds-out-at c = (line_counted c.requires.1 c.requires.4 c.put_row-p.ensures.0).inside

pub returns : goal.returns
returns c =
    let x = line_counted c.requires.1 c.requires.4 c.put_row-p.ensures.0 in
    (x.ends, x.stored)
