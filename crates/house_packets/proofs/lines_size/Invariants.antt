-- Invariant: size is the bytes of the lines before row r, and the rows from row r on give the rest.
use Rattle.house_cells.proofs.EachLaws.{Sizing}
use Rattle.house_packets.proofs.lines_size.Given as goal

abbrev pub invariant-loop-r : goal.invariant-loop-r
invariant-loop-r g l = Sizing l.width l.previous l.next (g.L.Line.line l.width) l.first l.n g.L.Line.line_most l.r l.size
