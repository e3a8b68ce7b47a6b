-- The packets of a row in a delta of the house form (document 01, "House form of a frame", Delta; document 02, Req 06). A row is seen as units of
-- some pixels each. unit: how many pixels a packet counts as one, 2 in kind 7 and 1 in kind 12; least: how many equal next units make a repeat,
-- 2 in kind 7 and 3 in kind 12; longest: the longest skip, 254 in kind 7 and 255 in kind 12. The words quoted below are document 01's, of kind 7.
use Prim.Native.Nat.{ℕ, zero, suc, pred, ◌-◌, ◌*◌, ◌/◌, min}
use mathlib.Core.List.{List, [], ◌∷◌, ◌++◌, map, flatten, flat_map}
use Rattle.std.specs.Prelude.{Bool, length, take, get_or}
use Rattle.std.proofs.Math.Bool.{false, cond}
use Rattle.std.proofs.Math.Dec.{leb}
use Rattle.std.proofs.Math.ListN.{replicate}
use Rattle.words.specs.Words.{same}
use Rattle.house_cells.specs.Cells.{Cell, cells, Stretch, stretches}

-- a packet skips k pixels, and then copies units, or repeats one unit n times; of a unit it holds the next pixels
pub data Packet : Type 0 where
  copy : ℕ → List (List ℕ) → Packet
  repeat : ℕ → ℕ → List ℕ → Packet

-- "skip in pixels, signed type; n of 0 or more copies n pixel pairs, minus n repeats one pair n times"
unfoldable pub packet_bytes : Packet → List ℕ
unfolding flatten
packet_bytes (copy k vs) = k ∷ length vs ∷ flatten vs
packet_bytes (repeat k n v) = k ∷ (256 - n) ∷ v

-- the bytes of packets
abbrev pub bytes : List Packet → List ℕ
bytes = flat_map packet_bytes

-- how many units a packet takes
abbrev pub units_of : Packet → ℕ
units_of (copy k vs) = length vs
units_of (repeat k n v) = n

-- how many units at the front are v
unfoldable pub equals : List ℕ → List (List ℕ) → ℕ
equals v [] = 0
equals v (u ∷ us) = cond (same v u) (suc (equals v us)) 0

module _ (least : ℕ) where
  -- whether a repeat begins at the front: "two or more equal next pairs in a row"
  unfoldable pub repeats : List (List ℕ) → Bool
  unfolding equals
  repeats [] = false
  repeats (v ∷ us) = leb least (suc (equals v us))

  -- how many units stand before the first repeat, or the stretch's end
  unfoldable pub up_to_repeat : List (List ℕ) → ℕ
  unfolding repeats
  up_to_repeat [] = 0
  up_to_repeat (v ∷ us) = cond (repeats (v ∷ us)) 0 (suc (up_to_repeat us))

  -- the first packet, after k pixels, of the units vs that are left of a stretch, of which get_or vs 0 [] is the first: "two or more equal next pairs in a row are one
  -- repeat, as long as can be, at most 127; otherwise pairs are copied up to such a repeat, the stretch's end, or 127"
  unfoldable pub first_packet : ℕ → List (List ℕ) → Packet
  unfolding repeats equals up_to_repeat
  first_packet k vs =
      cond (repeats vs)
      (repeat k (min 127 (equals (get_or vs 0 []) vs)) (get_or vs 0 []))
      (copy k (take (min 127 (up_to_repeat vs)) vs))

  -- the packets of units after k pixels; the first m units lie in the packet before
  unfoldable pub unit_packets : ℕ → ℕ → List (List ℕ) → List Packet
  unfolding first_packet
  unit_packets k m [] = []
  unit_packets k zero (v ∷ us) = first_packet k (v ∷ us) ∷ unit_packets 0 (pred (units_of (first_packet k (v ∷ us)))) us
  unit_packets k (suc m) (v ∷ us) = unit_packets k m us

-- how often a gap of g pixels is shortened: "A gap over 254 pixels is first shortened by packets of skip 254 and type 0"
unfoldable pub shortenings : ℕ → ℕ → ℕ
shortenings longest g = (g - 1) / longest

module _ (least longest : ℕ) where
  -- the packets of units after a gap of g pixels
  unfoldable pub gap_packets : ℕ → List (List ℕ) → List Packet
  unfolding shortenings unit_packets
  gap_packets g vs = replicate (shortenings longest g) (copy longest []) ++ unit_packets least (g - longest * shortenings longest g) 0 vs

module _ (unit least longest : ℕ) where
  -- the packets of a stretch of changed units: of a unit its next pixels are written
  unfoldable pub stretch_packets : Stretch → List Packet
  unfolding gap_packets
  stretch_packets s = gap_packets least longest (unit * s.gap) (map (λ (c : Cell). c.new) s.changed)

  -- the packets of a row a that is to be b, of n units: "The row is seen as pairs from column 0; a pair is changed if either pixel is"
  unfoldable pub row_packets : ℕ → List ℕ → List ℕ → List Packet
  unfolding stretch_packets flat_map
  row_packets n a b = flat_map stretch_packets (stretches (cells unit n a b))
