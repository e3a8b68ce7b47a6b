-- `note_row` meets its contract. The invariant: the columns before x are noted, those from x on are as they were.
use native.Mathlib.Omega.{arith}
use lib.ListN.{get_or}
use mathlib.Core.Bool.{Bool, ◌||◌}
use mathlib.Core.Path.{ap, ap₂, ◌∙◌}
use Rattle.board_tiles.specs.Noted.{tells}
use Rattle.board_tiles.proofs.Noting.{noted_more, tells_or}
use Rattle.board_tiles.proofs.Pair.note_row.Goals as goal

pub loop-x-preserved : goal.loop-x-preserved
loop-x-preserved c =
    let l = c.loop-x in
    noted_more _ _ _ _ _ l.invariant (omega (arith, l.invariant.long))
    (tells_or (get_or l.marks l.x 0) c.differs.result ∙ ap₂ (λ (s t : Bool). s || t) (ap tells (l.invariant.kept l.x (omega arith))) c.differs.ensures)
