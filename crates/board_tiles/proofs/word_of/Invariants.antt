-- `word_of` meets its contract. The invariant: the word of the tiles from i on; a turn shifts the bit of the tile before them in.
use Rattle.board_tiles.specs.Noted.{noted}
use Rattle.board_tiles.proofs.Marking.{Spelling}
use Rattle.board_tiles.proofs.word_of.Given as goal

abbrev pub invariant-loop-i : goal.invariant-loop-i
invariant-loop-i l = Spelling (noted l.marks) l.count l.word l.i
