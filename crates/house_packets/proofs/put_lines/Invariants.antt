-- Invariant: all lines stored at at are those stored so far, and those of the rows from row r on stored at here.
use Rattle.house_cells.proofs.EachLaws.{Storing}
use Rattle.house_packets.proofs.put_lines.Given as goal

abbrev pub invariant-loop-r : goal.invariant-loop-r
invariant-loop-r g l = Storing l.width l.previous l.next (g.L.Line.line l.width) l.first l.n l.initial.out l.at l.out l.r l.here
