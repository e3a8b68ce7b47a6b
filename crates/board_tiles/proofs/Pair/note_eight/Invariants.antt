-- `note_eight` meets its contract. The invariant: the columns before x are noted, those from x on are as they were.
use Prim.Native.Nat.{◌+◌}
use Rattle.board_tiles.specs.Tiles.{TILE}
use Rattle.board_tiles.specs.Noted.{below, Noted}
use Rattle.board_tiles.proofs.Pair.note_eight.Given as goal

abbrev pub invariant-loop-x : goal.invariant-loop-x
invariant-loop-x l = Noted l.initial.marks l.marks l.x (λ i. below l.self.width l.self.previous.now l.self.next.now TILE (l.at + i))
