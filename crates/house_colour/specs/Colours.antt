-- The house form's colour chunk (document 01, "House form of a frame").
use Rattle.std.specs.Prelude.{ℕ, ◌+◌, ◌*◌, ◌%◌, length}
use mathlib.Core.List.{List, ◌∷◌, flat_map}
use Rattle.words.specs.Words.{le16}
use Rattle.house_cells.specs.Cells.{cells, news, Stretch, stretches}

-- the stretches of changed entries from the previous palette to the next
unfoldable pub changed_entries : List ℕ → List ℕ → List Stretch
changed_entries previous next = stretches (cells 3 256 previous next)

-- a packet: "skip, count (0 means 256), three bytes a colour"
unfoldable pub colour_packet : Stretch → List ℕ
colour_packet s = s.gap ∷ length s.changed % 256 ∷ news s.changed

-- "kind 4, one packet for each longest stretch of changed entries"
unfoldable pub colour_body : List ℕ → List ℕ → List ℕ
unfolding changed_entries colour_packet
colour_body previous next = le16 (length (changed_entries previous next)) (flat_map colour_packet (changed_entries previous next))

-- it has no more bytes: the packet count, and for each of 256 entries a packet of its own
abbrev pub colour_most : ℕ
colour_most = 2 + (2 + 3) * 256
