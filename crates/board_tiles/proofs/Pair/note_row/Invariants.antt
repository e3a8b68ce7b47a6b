-- `note_row` meets its contract. The invariant: the columns before x are noted, those from x on are as they were.
use lib.ListN.{get_or}
use mathlib.Core.Bool.{◌||◌}
use Prim.Native.Nat.{◌+◌}
use Rattle.board_tiles.specs.Tiles.{changed}
use Rattle.board_tiles.specs.Noted.{tells, Noted}
use Rattle.board_tiles.proofs.Pair.note_row.Given as goal

abbrev pub invariant-loop-x : goal.invariant-loop-x
invariant-loop-x l = Noted l.initial.marks l.marks l.x
    (λ i. tells (get_or l.initial.marks i 0) || changed l.self.previous.now l.self.next.now (l.at + i))
