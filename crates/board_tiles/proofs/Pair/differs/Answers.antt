-- `differs` meets its contract: the exclusive or of two bytes is 0 exactly if they are equal.
use lib.ListN.{get_or}
use Rattle.board_tiles.proofs.Noting.{tells_xor}
use Rattle.board_tiles.proofs.Pair.differs.Goals as goal

pub returns : goal.returns
returns c = let a = c.args in tells_xor (get_or a.self.previous.now a.at 0) (get_or a.self.next.now a.at 0)
