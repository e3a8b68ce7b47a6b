-- A gap of unchanged cells that doesn't end with the cells ends with a changed one.
use native.Mathlib.Omega.{arith}
use Rattle.house_cells.specs.Cells.{Next}
use Rattle.house_cells.proofs.StretchLaws.{next_none, next_some}
use Rattle.house_cells.proofs.next_stretch.Goals as goal

pub returns-then-start-n : goal.returns-then-start-n
returns-then-start-n c =
    let a = c.args in
    next_none a.k a.n a.p.now a.q.now a.i c.run_of-gap.result c.run_of-gap.ensures.0 (omega arith)

pub returns : goal.returns
returns c =
    let a = c.args in
    let x : Next a.k a.n a.p.now a.q.now a.i c.run_of-gap.result c.run_of-changed.result = record {
      gap = c.run_of-gap.ensures.0;
      changed = c.run_of-changed.ensures.0;
      inside = c.run_of-changed.ensures.1;
    } in
    (next_some a.k a.n a.p.now a.q.now a.i c.run_of-gap.result c.run_of-changed.result x (omega arith), x)
