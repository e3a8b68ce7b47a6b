-- `tile_noted` meets its contract. The invariant: the byte tells of the columns before a.
use lib.ListN.{get_or}
use mathlib.Core.Path.{◌≡◌}
use Prim.Native.Nat.{◌+◌, ◌*◌}
use Rattle.board_tiles.specs.Tiles.{TILE, any}
use Rattle.board_tiles.specs.Noted.{tells}
use Rattle.board_tiles.proofs.tile_noted.Given as goal

abbrev pub invariant-loop-a : goal.invariant-loop-a
invariant-loop-a l = tells l.m ≡ any (λ a. tells (get_or l.marks (TILE * l.i + a) 0)) l.a
