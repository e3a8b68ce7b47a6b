-- The invariant: what was counted and the edges from here on make all of them.
use native.Mathlib.Omega.{arith}
use Rattle.house_full.proofs.Edges.{count_same, count_other, count_last}
use Rattle.house_full.proofs.row_edges.Goals as goal
use Rattle.house_full.proofs.row_edges.Goals.{then-row-i, else-row-i}

pub loop-i-preserved : goal.loop-i-preserved
loop-i-preserved c =
    let s = c.args.row.now in
    let l = c.loop-i in
    elim c.if-row-i.branch [
      | then-row-i w ↦ (
        omega (arith, w.count-is, l.invariant.0),
        omega (arith, w.count-is, l.invariant.1, count_other s l.i (omega arith) w.if-row-i.true),
      )
      | else-row-i w ↦ (
        omega (arith, w.count-is, l.invariant.0),
        omega (arith, w.count-is, l.invariant.1, count_same s l.i (omega arith) w.if-row-i.false),
      )
    ]

pub returns : goal.returns
returns c = omega (arith, c.loop-i.invariant.1, count_last c.args.row.now c.loop-i.i (omega arith))
