-- The line of a row in the house form's delta (document 01, "House form of a frame", Delta): its last-pixel word, its packet count, its packets.
use Rattle.std.specs.Prelude.{ℕ, ◌+◌, ◌-◌, ◌*◌, ◌/◌, ◌%◌, List, ◌∷◌, Bool, false, not, cond, eqb, length, get_or}
use Rattle.words.specs.Words.{le16}
use Rattle.format.specs.Limits.{max_width}
use Rattle.house_cells.specs.Cells.{Cell}
use Rattle.house_packets.specs.Packets.{Packet, packet_bytes, bytes, row_packets}

-- the packets of a row of width pixels: kind 7 counts pairs, two equal ones are a repeat, and the longest skip is 254
abbrev pub line_packets : ℕ → Cell → List Packet
line_packets width r = row_packets 2 2 254 (width / 2) r.old r.new

-- the packet count and the packets of a row of width pixels
unfoldable pub counted : ℕ → Cell → List ℕ
unfolding row_packets packet_bytes
counted width r = le16 (length (line_packets width r)) (bytes (line_packets width r))

-- "An odd width's last column uses the last-pixel word, if changed"
unfoldable pub last_changes : ℕ → Cell → Bool
last_changes width r = cond (eqb (width % 2) 0) false (not (eqb (get_or r.old (width - 1) 0) (get_or r.new (width - 1) 0)))

-- the line of a row of width pixels: its last-pixel word, if there is one, its packet count and its packets
unfoldable pub line : ℕ → Cell → List ℕ
unfolding last_changes counted
line width r = cond (last_changes width r) (get_or r.new (width - 1) 0 ∷ 128 ∷ counted width r) (counted width r)

-- it has no more bytes: two words, and two bytes and its pixels for each pair
abbrev pub line_most : ℕ
line_most = 4 + 2 * max_width
