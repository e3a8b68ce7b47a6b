-- `note_rows` meets its contract: nothing is noted at first, and each turn notes one row more.
use mathlib.Core.Path.{refl}
use Rattle.board_tiles.specs.Tiles.{any}
use Rattle.board_tiles.proofs.Noting.{cleared, noted_row}
use Rattle.board_tiles.proofs.Pair.note_rows.Goals as goal

pub loop-y-init : goal.loop-y-init
unfolding any
loop-y-init c = cleared c.args.marks.now _ _ c.requires.0 c.fill.ensures _ (λ x. refl)

pub loop-y-preserved : goal.loop-y-preserved
loop-y-preserved c = let s = c.args.self in noted_row _ _ _ _ s.previous.now s.next.now c.args.at c.loop-y.y c.loop-y.invariant c.note_row.ensures
