-- `store_numbers` meets its contract: each turn stores the number that stands after one reading more.
use Rattle.std.proofs.Common.{suc, ◌≤◌, arith}
use Rattle.board_clock.proofs.Numbers.{stored_small, storing_again, storing_done}
use Rattle.board_clock.proofs.store_numbers.Goals as goal

-- the number that the turn stores is at most the ring's
pub overflow_cast-out : goal.overflow_cast-out
overflow_cast-out c =
    let l = c.loop-i in
    let small : c.step.result.stands.number ≤ suc c.args.frames =
    stored_small _ _ _ _ _ _ _ _ l.invariant c.loop-i-test.true _ c.step.ensures c.requires.0 c.requires.1 in
    omega arith

pub loop-i-preserved : goal.loop-i-preserved
loop-i-preserved c =
    let l = c.loop-i in
    storing_again _ _ _ _ _ _ _ _ l.invariant c.loop-i-test.true _ c.step.ensures c.requires.0 c.requires.1 (omega arith)

pub returns : goal.returns
returns c = storing_done _ _ _ _ _ _ _ _ c.loop-i.invariant c.loop-i-test.false
