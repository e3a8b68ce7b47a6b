-- The first changed row is behind the run of unchanged ones; where none is changed, the last one is before it.
use Rattle.house_lc.proofs.RowLaws.{first_is, count_is}
use native.Mathlib.Omega.{arith}
use Rattle.house_lc.proofs.changed_rows.Goals as goal

pub returns : goal.returns
returns c =
    let a = c.args in
    let e = first_is a.width a.height a.previous.now a.next.now in
    let n = count_is a.width a.height a.previous.now a.next.now in
    let f = c.run_of-first.ensures in
    let l = c.up_to_last-end.ensures in
    let s = c.saturating_sub.ensures in
    (omega (arith, e, f.0), omega (arith, e, f.0, l.0, n, s), omega (arith, f.1, l.1, s))
