-- The part that the range lends is the k bytes at offset at; unchanged or changed is then one test.
use Rattle.house_cells.proofs.RunLaws.{found_unchanged, found_changed}
use Rattle.house_cells.proofs.found.Goals as goal

pub returns-in-Unchanged : goal.returns-in-Unchanged
returns-in-Unchanged c =
    let a = c.args in
    found_unchanged c.same_bytes-unchanged.result a.p.now a.q.now a.at a.k c.same_bytes-unchanged.ensures a.sought c.in-Unchanged.is

pub returns-in-Changed : goal.returns-in-Changed
returns-in-Changed c =
    let a = c.args in
    found_changed c.same_bytes-unchanged.result a.p.now a.q.now a.at a.k c.same_bytes-unchanged.ensures a.sought c.in-Changed.is
