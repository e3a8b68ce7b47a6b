-- `tile_noted` meets its contract: bytes joined by or are 0 exactly if each is.
use lib.ListN.{get_or}
use mathlib.Core.Path.{refl}
use Prim.Native.Nat.{◌+◌, ◌*◌}
use Rattle.board_tiles.specs.Tiles.{TILE, any}
use Rattle.board_tiles.specs.Noted.{tells}
use Rattle.board_tiles.proofs.Noting.{tells_more}
use Rattle.board_tiles.proofs.tile_noted.Goals as goal

pub loop-a-init : goal.loop-a-init
unfolding any
loop-a-init c = refl

pub loop-a-preserved : goal.loop-a-preserved
loop-a-preserved c = tells_more (λ a. tells (get_or c.args.marks.now (TILE * c.args.i + a) 0)) c.loop-a.a _ _ c.loop-a.invariant refl
