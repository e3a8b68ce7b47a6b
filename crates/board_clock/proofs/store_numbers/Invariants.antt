-- `store_numbers` meets its contract: each turn stores the number that stands after one reading more.
use Rattle.board_clock.proofs.Numbers.{Storing}
use Rattle.board_clock.proofs.store_numbers.Given as goal

abbrev pub invariant-loop-i : goal.invariant-loop-i
invariant-loop-i l = Storing l.initial.out l.readings l.frames l.speed l.start l.out l.stands l.i
