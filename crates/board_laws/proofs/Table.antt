-- Every item of the table holds: one computation over the definitions.
use lib.Dec.{T}
use Rattle.words.specs.Words.{same}
use Rattle.board_clock.specs.Clock.{elapsed, due, stepped}
use Rattle.board_clock.specs.Replay.{numbers}
use Rattle.board_laws.specs.Numbers.{holds, all, clock_numbers}

pub clock_numbers_hold : T (all clock_numbers)
unfolding all holds clock_numbers same numbers stepped due elapsed
clock_numbers_hold = tt
