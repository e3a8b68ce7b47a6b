-- The ranges lend the row.
use Rattle.house_cells.proofs.EachLaws.{lent_row}
use Rattle.house_cells.specs.Cells.{stays}
use mathlib.Core.Path.{ap, ◌∙◌}
use Rattle.house_lc.proofs.row_stays.Goals as goal

pub returns : goal.returns
returns c = let a = c.args in c.same_bytes.ensures ∙ ap stays (lent_row a.width a.previous.now a.next.now a.r)
