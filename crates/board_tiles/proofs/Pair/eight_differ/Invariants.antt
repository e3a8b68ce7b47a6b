-- `eight_differ` meets its contract. The invariant: the byte tells of the pixels in the rows before y.
use mathlib.Core.Path.{◌≡◌}
use Rattle.board_tiles.specs.Noted.{tells, below}
use Rattle.board_tiles.proofs.Pair.eight_differ.Given as goal

abbrev pub invariant-loop-y : goal.invariant-loop-y
invariant-loop-y l = tells l.m ≡ below l.self.width l.self.previous.now l.self.next.now l.y l.at
