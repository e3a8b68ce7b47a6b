-- `word_of` meets its contract. The invariant: the word of the tiles from i on; a turn shifts the bit of the tile before them in.
use native.Mathlib.Omega.{arith}
use mathlib.Core.Bool.{true, false}
use mathlib.Core.Path.{refl, sym, ◌∙◌}
use Rattle.board_tiles.proofs.Marking.{spelling_first, spelling_room, spelling_again, spelling_done}
use Rattle.board_tiles.proofs.word_of.Goals as goal

pub loop-i-init : goal.loop-i-init
loop-i-init c = spelling_first _ _ c.requires.0

pub overflow_add-word : goal.overflow_add-word
overflow_add-word c = let r = spelling_room _ _ _ _ c.loop-i.invariant (omega arith) in omega arith

pub overflow_add-word-then-tile_noted : goal.overflow_add-word-then-tile_noted
overflow_add-word-then-tile_noted c = let r = spelling_room _ _ _ _ c.loop-i.invariant (omega arith) in omega arith

pub loop-i-preserved-then-tile_noted : goal.loop-i-preserved-then-tile_noted
loop-i-preserved-then-tile_noted c =
    spelling_again _ _ _ _ c.loop-i.invariant _ (omega arith) true (sym c.tile_noted.ensures ∙ c.if-tile_noted.true) _ refl

pub loop-i-preserved : goal.loop-i-preserved
loop-i-preserved c =
    spelling_again _ _ _ _ c.loop-i.invariant _ (omega arith) false (sym c.tile_noted.ensures ∙ c.if-tile_noted.false) _ (omega arith)

pub returns : goal.returns
returns c = spelling_done _ _ _ _ c.loop-i.invariant (omega arith)
