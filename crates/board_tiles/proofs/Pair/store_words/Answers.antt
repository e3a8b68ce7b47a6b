-- `store_words` meets its contract: each turn stores the word of one tile row more.
use native.Mathlib.Omega.{arith}
use Rattle.board_tiles.proofs.Laws.{tiles_ceil}
use Rattle.board_tiles.proofs.Noting.{room_zeros, room_within}
use Rattle.board_tiles.proofs.Storing.{storing_first, storing_again, storing_done}
use Rattle.board_tiles.proofs.Pair.store_words.Goals as goal

pub loop-j-init : goal.loop-j-init
loop-j-init c = let s = c.args.self in storing_first _ s.previous.now s.next.now s.width s.height _ (room_within _ s.width room_zeros)

pub loop-j-preserved : goal.loop-j-preserved
loop-j-preserved c = storing_again _ _ _ _ _ _ _ _ c.loop-j.invariant
    (omega (arith, c.div_ceil-j-end.ensures, tiles_ceil c.args.self.height)) (omega arith) _ c.word_at.ensures.value _ c.word_at.ensures.room

pub returns : goal.returns
returns c = storing_done _ _ _ _ _ _ _ _ c.loop-j.invariant (omega (arith, c.div_ceil-j-end.ensures, tiles_ceil c.args.self.height))
