-- The row rule (document 01, "House form of a frame"), for every row of every width, and a row of which it fixes the packets.
use Rattle.std.specs.Prelude.{◌≡◌, List, ℕ, ◌+◌, ◌≤◌, ◌<◌, length, get_or}
use Rattle.house_least.specs.Least.{sum, Way, Preferred}
use Rattle.house_rows.specs.Row.{RowPacket, span, size, allowed, house, bytes, house_bytes, Encodes, Before}

-- packets that may follow each other through the row s
abbrev pub Through : List ℕ → List RowPacket → Type 0
Through s ps = Way span size allowed s ps

pub record RowRule (s : List ℕ) : Type 0 where
  -- "packets": what goes through s is what encodes it, and its cost is its number of bytes
  pub through : (ps : List RowPacket) → Through s ps → Encodes (bytes ps s) s × (length (bytes ps s) ≡ sum size ps)
  pub encodings : (bs : List ℕ) → Encodes bs s → (ps : List RowPacket) × Through s ps × (bs ≡ bytes ps s)
  -- the house row is such
  pub decodes : Encodes (house_bytes s) s
  -- "of least total bytes"
  pub least : (bs : List ℕ) → Encodes bs s → length (house_bytes s) ≤ length bs
  -- "Ties within a row, left to right: among first packets that begin a least encoding, a repeat before a copy, then the longest"
  pub ties : Preferred span size allowed Before s (house s)
  -- the rule leaves one result
  pub only : (ps : List RowPacket) → Preferred span size allowed Before s ps → ps ≡ house s

-- no neighbours are equal
abbrev pub Apart : List ℕ → Type 0
Apart s = (i : ℕ) → i + 1 < length s → get_or s i 0 ≡ get_or s (i + 1) 0 → ⊥
