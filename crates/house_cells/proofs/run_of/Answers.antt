-- Invariant: the run from cell i on is the cells up to j and the run from cell j on.
use native.Mathlib.Omega.{arith}
use Rattle.house_cells.proofs.RunLaws.{running_on, running_stops, running_ends}
use Rattle.house_cells.proofs.run_of.Goals as goal

pub returns-then-not-found : goal.returns-then-not-found
returns-then-not-found c =
    let a = c.args in
    let l = c.loop-j in
    running_stops a.p.now a.q.now a.k a.n a.i a.sought l.j c.found.result l.invariant c.loop-j-test.true c.found.ensures (omega (arith, l.auto.j))
    c.if-not-found.true

pub loop-j-preserved : goal.loop-j-preserved
loop-j-preserved c =
    let a = c.args in
    let l = c.loop-j in
    running_on a.p.now a.q.now a.k a.n a.i a.sought l.j c.found.result l.invariant c.loop-j-test.true c.found.ensures c.if-not-found.false

pub returns : goal.returns
returns c =
    let a = c.args in
    let l = c.loop-j in
    running_ends a.p.now a.q.now a.k a.n a.i a.sought l.j l.invariant c.requires.0 (omega arith)
