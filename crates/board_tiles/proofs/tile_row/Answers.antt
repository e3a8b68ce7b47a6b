-- `tile_row` meets its contract: a word's bits are its marks.
use native.Mathlib.Omega.{arith}
use Rattle.board_tiles.proofs.Marking.{ones_count, trailing_first, row_is}
use Rattle.board_tiles.proofs.tile_row.Goals as goal

pub returns : goal.returns
returns c = let w = c.args.word in row_is w _ _ _ (ones_count w (omega arith)) (trailing_first w (omega arith)) c.last_of.ensures
