-- `eight_differ` meets its contract: bytes joined by or are 0 exactly if each is.
use mathlib.Core.Path.{refl}
use Prim.Native.Nat.{◌+◌, ◌*◌}
use Rattle.board_tiles.specs.Tiles.{any, changed}
use Rattle.board_tiles.proofs.Noting.{tells_more}
use Rattle.board_tiles.proofs.Pair.eight_differ.Goals as goal

pub loop-y-init : goal.loop-y-init
unfolding any
loop-y-init c = refl

pub loop-y-preserved : goal.loop-y-preserved
loop-y-preserved c = let s = c.args.self in
    tells_more (λ b. changed s.previous.now s.next.now (c.args.at + b * s.width)) c.loop-y.y _ _ c.loop-y.invariant c.differs-m.ensures
