-- `note_rows` meets its contract: nothing is noted at first, and each turn notes one row more.
use Prim.Native.Nat.{◌+◌}
use Rattle.board_tiles.specs.Noted.{below, Noted}
use Rattle.board_tiles.proofs.Pair.note_rows.Given as goal

abbrev pub invariant-loop-y : goal.invariant-loop-y
invariant-loop-y l = Noted l.fn.marks l.marks l.self.width (λ x. below l.self.width l.self.previous.now l.self.next.now l.y (l.at + x))
