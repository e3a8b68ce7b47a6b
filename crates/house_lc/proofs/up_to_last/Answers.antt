-- Invariant: no row from row r on is changed.
use Rattle.house_lc.proofs.RowLaws.{still_first, still_on, still_stops, still_ends}
use native.Mathlib.Omega.{arith}
use Prim.Native.Nat.{◌-◌}
use Rattle.house_lc.proofs.up_to_last.Goals as goal

pub loop-r-init : goal.loop-r-init
loop-r-init c = let a = c.args in still_first a.width a.height a.previous.now a.next.now

pub returns-then-not-row_stays : goal.returns-then-not-row_stays
returns-then-not-row_stays c =
    let a = c.args in
    let l = c.loop-r in
    still_stops a.width a.height a.previous.now a.next.now l.r (l.r - 1) c.row_stays.result (omega (arith, c.loop-r-test.true)) l.invariant
    c.row_stays.ensures c.if-not-row_stays.true

pub loop-r-preserved : goal.loop-r-preserved
loop-r-preserved c =
    let a = c.args in
    let l = c.loop-r in
    still_on a.width a.height a.previous.now a.next.now l.r (l.r - 1) c.row_stays.result (omega (arith, c.loop-r-test.true)) l.invariant
    c.row_stays.ensures c.if-not-row_stays.false

pub returns : goal.returns
returns c = let a = c.args in still_ends a.width a.height a.previous.now a.next.now c.loop-r.r c.loop-r.invariant (omega arith)
