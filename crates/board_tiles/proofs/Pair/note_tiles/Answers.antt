-- `note_tiles` meets its contract: a tile row has eight rows of pixels, or those that are left of the picture.
use native.Mathlib.Omega.{arith}
use mathlib.Core.Path.{refl}
use Prim.Native.Nat.{◌-◌, ◌*◌}
use Rattle.board_tiles.specs.Tiles.{TILE}
use Rattle.board_tiles.proofs.Noting.{rows_inside, noted_ext, column_is}
use Rattle.board_tiles.proofs.Pair.note_tiles.Goals as goal

pub note_rows-requires : goal.note_rows-requires
note_rows-requires c = let s = c.args.self in (c.requires.0, rows_inside s.width s.height (8 * c.args.j) (s.height - 8 * c.args.j) (omega arith))

pub note_eight-requires : goal.note_eight-requires
note_eight-requires c = let s = c.args.self in (c.requires.0, rows_inside s.width s.height (8 * c.args.j) 8 (omega arith))

pub returns-then-self-top : goal.returns-then-self-top
returns-then-self-top c = let s = c.args.self in noted_ext _ _ _ _ _ c.note_rows.ensures
    (λ x i. column_is s.width s.height s.previous.now s.next.now c.args.j (s.height - 8 * c.args.j) (8 * c.args.j * s.width) x refl i
    (omega arith) (omega arith) (λ k l m. omega arith))

pub returns-else-self-top : goal.returns-else-self-top
returns-else-self-top c = let s = c.args.self in noted_ext _ _ _ _ _ c.note_eight.ensures
    (λ x i. column_is s.width s.height s.previous.now s.next.now c.args.j TILE (8 * c.args.j * s.width) x refl i (omega arith) (omega arith)
    (λ k l m. absurd (omega arith)))
