-- Units of a row of next pixels by their place, and a packet by its numbers: what the contracts of the functions below a row's packets cite.
use Rattle.std.specs.Prelude.{ℕ, zero, suc, ◌+◌, ◌*◌, ◌≤◌, ◌<◌, ◌≡◌, List, [], ◌∷◌, length, take, drop}
use Rattle.words.specs.Writes.{put}
use Rattle.house_packets.specs.Packets.{Packet, packet_bytes, bytes, units_of, first_packet}

-- what the functions take: a unit is a pixel or a pair, a packet can hold the least repeat, and a byte the longest skip
pub record Form (unit least longest : ℕ) : Type 0 where
  pub some_unit : 1 ≤ unit
  pub small_unit : unit ≤ 2
  pub some_least : 1 ≤ least
  pub small_least : least ≤ 127
  pub some_longest : 1 ≤ longest
  pub small_longest : longest ≤ 255

-- unit x of the row b
abbrev pub unit_at : ℕ → List ℕ → ℕ → List ℕ
unit_at unit b x = take unit (drop (x * unit) b)

-- m units from unit x on
unfoldable pub units_at : ℕ → List ℕ → ℕ → ℕ → List (List ℕ)
units_at unit b x zero = []
units_at unit b x (suc m) = unit_at unit b x ∷ units_at unit b (x + 1) m

-- the first packet of m units from unit x on: n units, type t, and l bytes of data, which stand in the row
pub record PacketAt (unit least : ℕ) (b : List ℕ) (x m n t l : ℕ) : Type 0 where
  pub units : n ≡ units_of (first_packet least 0 (units_at unit b x m))
  pub bytes : (k : ℕ) → packet_bytes (first_packet least k (units_at unit b x m)) ≡ k ∷ t ∷ take l (drop (x * unit) b)
  pub some : 1 ≤ n
  pub inside : n ≤ m
  pub byte : t < 256
  pub short : l ≤ 2 * n
  pub there : x * unit + l ≤ length b

-- the bytes of s packets of skip longest and type 0
unfoldable pub empty_packets : ℕ → ℕ → List ℕ
empty_packets longest zero = []
empty_packets longest (suc s) = longest ∷ 0 ∷ empty_packets longest s

-- packets ps, stored from offset at on: how many they are, where they end, and what the output holds then
pub record Stores (ps : List Packet) (out₀ : List ℕ) (at : ℕ) (out : List ℕ) (count end : ℕ) : Type 0 where
  pub number : count ≡ length ps
  pub ends : end ≡ at + length (bytes ps)
  pub stored : out ≡ put out₀ at (bytes ps)
