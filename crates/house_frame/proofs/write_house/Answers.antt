-- `write_house` meets its contract: where the rows have more edges than the delta has bytes it is shorter than the full chunk (`full_edges`), and no
-- row is searched; where not, they are.
use mathlib.Core.Path.{◌∙◌}
use Rattle.house_frame.proofs.Laws.{delta_taken, delta_sought}
use Rattle.house_frame.proofs.write_house.Goals as goal

pub measure_colours-colours-requires : goal.measure_colours-colours-requires
measure_colours-colours-requires c = (c.requires.0.colours, c.requires.1.colours)

pub measure_delta-delta-requires : goal.measure_delta-delta-requires
measure_delta-delta-requires c = (c.requires.0.picture, c.requires.1.picture)

pub write_searched-requires : goal.write_searched-requires
write_searched-requires c =
    let a = c.args in
    let s = delta_sought a.size a.previous.picture.now a.next.picture.now c.measure_delta-delta.ensures c.if-delta.true in
    (c.requires.0, c.requires.1, c.measure_colours-colours.ensures, s.0, c.size_of.ensures ∙ s.1)

pub write_planned-requires : goal.write_planned-requires
write_planned-requires c =
    let a = c.args in
    let s = delta_taken a.size a.previous.picture.now a.next.picture.now c.measure_delta-delta.ensures c.if-delta.false in
    (c.requires.0, c.requires.1, c.measure_colours-colours.ensures, s.0, λ k. absurd (s.1 k))
