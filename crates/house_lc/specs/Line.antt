-- The line of a row in the house form's delta of an FLI (document 02, Req 06): its packet count and its packets.
use Rattle.std.specs.Prelude.{ℕ, ◌+◌, ◌*◌, List, ◌∷◌, length}
use Rattle.format.specs.Limits.{max_width}
use Rattle.house_cells.specs.Cells.{Cell}
use Rattle.house_packets.specs.Packets.{Packet, packet_bytes, bytes, row_packets}

-- the packets of a row of width pixels, with single pixels as units: "in a stretch of changed pixels three or more equal ones are repeated, at most 127,
-- otherwise copied up to such a repeat, the end, or 127; gaps over 255 use skip 255, type 0"
abbrev pub line_packets : ℕ → Cell → List Packet
line_packets width r = row_packets 1 3 255 width r.old r.new

-- the line of a row of width pixels: "A row start is one byte" (Req 04), the packet count, and then the packets; a row without change has none
unfoldable pub line : ℕ → Cell → List ℕ
unfolding row_packets packet_bytes
line width r = length (line_packets width r) ∷ bytes (line_packets width r)

-- it has no more bytes: its packet count, and four for each pixel
abbrev pub line_most : ℕ
line_most = 1 + 4 * max_width
