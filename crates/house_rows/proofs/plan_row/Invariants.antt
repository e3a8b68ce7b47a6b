-- `plan_row` meets its contract. The invariant: the sums and first bytes from pixel i on are the house rows', here is the sum at i, repeat the
-- longest at i, and the window stands at i + 1; one pixel more is a step of `Steps`.
use Rattle.house_rows.proofs.Searching.{Searching}
use Rattle.house_rows.proofs.plan_row.Given as goal

abbrev pub invariant-loop-i : goal.invariant-loop-i
invariant-loop-i l =
    Searching l.row l.w l.sums l.first l.far l.i l.repeat l.ends.split l.ends.near l.here l.ends.turns
