-- `store_words` meets its contract: each turn stores the word of one tile row more.
use Rattle.board_tiles.proofs.Storing.{Storing}
use Rattle.board_tiles.proofs.Pair.store_words.Given as goal

abbrev pub invariant-loop-j : goal.invariant-loop-j
invariant-loop-j l = Storing l.initial.words l.self.previous.now l.self.next.now l.self.width l.self.height l.words l.marks l.j
