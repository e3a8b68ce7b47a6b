-- Laws of packets: the first packet of units by its numbers, and the packets of units one after the other.
use mathlib.Core.Path.{◌≡◌, refl, sym, ap, ap₂, ◌∙◌}
use mathlib.Core.List.{List, [], ◌∷◌, ◌++◌, flatten, flat_map}
use mathlib.Core.Bool.{Bool, true, false, cond}
use Prim.Native.Nat.{ℕ, zero, suc, pred, ◌+◌, ◌-◌, ◌*◌, ◌≤◌, min}
use native.Mathlib.Omega.{arith}
use native.Mathlib.Nat.{mul-le-mul_left}
use lib.ListN.{length, take, drop, get_or, length-append, length-drop}
use lib.Seq.{length-take-le}
use Rattle.words.proofs.Tests.{by_test}
use Rattle.house_cells.proofs.CellLaws.{flat_map_cons}
use Rattle.house_cells.proofs.EachLaws.{cells_inside}
use Rattle.house_packets.specs.Packets.{Packet, copy, repeat, packet_bytes, bytes, units_of, equals, repeats, up_to_repeat, first_packet, unit_packets}
use Rattle.house_packets.specs.Units.{unit_at, units_at, PacketAt}
use Rattle.house_packets.proofs.UnitLaws.{length_units, drop_units, take_units, flat_units, first_unit, equals_itself, equals_le, equals_least, until_some, until_le, until_least}

-- the first packet of some units

module _ (least k : ℕ) (vs : List (List ℕ)) where
  pub packet_repeat : repeats least vs ≡ true → first_packet least k vs ≡ repeat k (min 127 (equals (get_or vs 0 []) vs)) (get_or vs 0 [])
  unfolding first_packet
  packet_repeat e = simp e

  pub packet_copy : repeats least vs ≡ false → first_packet least k vs ≡ copy k (take (min 127 (up_to_repeat least vs)) vs)
  unfolding first_packet
  packet_copy e = simp e

  abbrev either : ℕ → Bool → Packet
  either j t = cond t (repeat j (min 127 (equals (get_or vs 0 []) vs)) (get_or vs 0 [])) (copy j (take (min 127 (up_to_repeat least vs)) vs))

  -- neither how many units it takes nor how many bytes it has hangs on the skip
  pub packet_sizes : (units_of (first_packet least k vs) ≡ units_of (first_packet least 0 vs))
      × (length (packet_bytes (first_packet least k vs)) ≡ length (packet_bytes (first_packet least 0 vs)))
  unfolding first_packet packet_bytes
  packet_sizes =
      by_test (λ t. (units_of (either k t) ≡ units_of (either 0 t)) × (length (packet_bytes (either k t)) ≡ length (packet_bytes (either 0 t))))
      (repeats least vs)
      (λ e. (refl, refl))
      (λ e. (refl, refl))

repeat_bytes : (k n : ℕ) (v : List ℕ) → packet_bytes (repeat k n v) ≡ k ∷ (256 - n) ∷ v
unfolding packet_bytes
repeat_bytes k n v = refl

copy_bytes : (k : ℕ) (vs : List (List ℕ)) → packet_bytes (copy k vs) ≡ k ∷ length vs ∷ flatten vs
unfolding packet_bytes
copy_bytes k vs = refl

-- the first packet of m units from unit x on
module _ (unit least : ℕ) (some_unit : 1 ≤ unit) (small : unit ≤ 2) (b : List ℕ) (x m : ℕ) (any : 1 ≤ m) (row : (x + m) * unit ≤ length b) where
  front : get_or (units_at unit b x m) 0 [] ≡ unit_at unit b x
  front = ap (λ (vs : List (List ℕ)). get_or vs 0 []) (first_unit unit b x m any)

  -- n units from unit x on lie in the row, two bytes a unit at most
  lies : (n : ℕ) → n ≤ m → (n * unit ≤ 2 * n) × (x * unit + n * unit ≤ length b)
  lies n h = (omega (arith, mul-le-mul_left n small), omega (arith, cells_inside unit (x + n) (x + m) (length b) (omega arith) row))

  -- a repeat: n of the first 127 units are like the first
  pub repeat_at : (n : ℕ) → repeats least (units_at unit b x m) ≡ true → n ≡ equals (unit_at unit b x) (units_at unit b x (min 127 m))
      → PacketAt unit least b x m n (256 - n) unit
  repeat_at n e en =
      let v = unit_at unit b x in
      let vs = units_at unit b x m in
      let same : n ≡ min 127 (equals v vs) = en ∙ ap (equals v) (sym (take_units unit b x m 127)) ∙ equals_least v 127 vs in
      let some : 1 ≤ equals v vs = omega (arith, ap (equals v) (first_unit unit b x m any), equals_itself v (units_at unit b (x + 1) (m - 1))) in
      let high = equals_le v vs in
      let long = length_units unit b x m in
      let one = lies 1 any in
      let is : (k : ℕ) → first_packet least k vs ≡ repeat k n v =
      (λ k. packet_repeat least k vs e ∙ ap (λ (u : List ℕ). repeat k (min 127 (equals u vs)) u) front ∙ ap (λ (j : ℕ). repeat k j v) (sym same)) in
      record {
        units = sym (ap units_of (is 0));
        bytes = λ k. ap packet_bytes (is k) ∙ repeat_bytes k n v;
        some = omega arith;
        inside = omega arith;
        byte = omega arith;
        short = omega arith;
        there = omega (arith, one.1);
      }

  -- a copy: n units before the first repeat, which the first 127 units and least - 1 after them decide
  pub copy_at : (n s : ℕ) → 1 ≤ least → repeats least (units_at unit b x m) ≡ false → s
      ≡ up_to_repeat least (units_at unit b x (min (126 + least) m)) → n ≡ min 127 s
      → PacketAt unit least b x m n n (n * unit)
  copy_at n s some_least e es en =
      let vs = units_at unit b x m in
      let decide : min 127 (up_to_repeat least (units_at unit b x (min (126 + least) m))) ≡ min 127 (up_to_repeat least vs) =
      ap (λ (us : List (List ℕ)). min 127 (up_to_repeat least us)) (sym (take_units unit b x m (126 + least)))
      ∙ until_least least some_least 127 (126 + least) vs (omega arith) in
      let same : n ≡ min 127 (up_to_repeat least vs) = en ∙ ap (min 127) es ∙ decide in
      let some : 1 ≤ up_to_repeat least vs =
      omega (
        arith,
        ap (up_to_repeat least) (first_unit unit b x m any),
        until_some least (unit_at unit b x) (units_at unit b (x + 1) (m - 1)) (ap (repeats least) (sym (first_unit unit b x m any)) ∙ e),
      ) in
      let high = until_le least vs in
      let long = length_units unit b x m in
      let inside : n ≤ m = omega arith in
      let fits : min n m ≡ n = omega arith in
      let these : take n vs ≡ units_at unit b x n = take_units unit b x m n ∙ ap (units_at unit b x) fits in
      let is : (k : ℕ) → first_packet least k vs ≡ copy k (units_at unit b x n) =
      (λ k. packet_copy least k vs e ∙ ap (λ (j : ℕ). copy k (take j vs)) (sym same) ∙ ap (copy k) these) in
      record {
        units = sym (ap units_of (is 0) ∙ length_units unit b x n);
        bytes = λ k. ap packet_bytes (is k) ∙ copy_bytes k (units_at unit b x n)
            ∙ ap₂ (λ (j : ℕ) (l : List ℕ). k ∷ j ∷ l) (length_units unit b x n) (flat_units unit b x n);
        some = omega arith;
        inside = inside;
        byte = omega arith;
        short = (lies n inside).0;
        there = (lies n inside).1;
      }

-- the packets of units

module _ (least : ℕ) where
  -- what lies in the packet before is passed
  packets_from : (k m : ℕ) (vs : List (List ℕ)) → unit_packets least k m vs ≡ unit_packets least k 0 (drop m vs)
  unfolding unit_packets
  packets_from k zero vs = refl
  packets_from k (suc m) [] = refl
  packets_from k (suc m) (v ∷ vs) = packets_from k m vs

  pub packets_next : (k n : ℕ) (v : List ℕ) (us : List (List ℕ)) → 1 ≤ n → units_of (first_packet least k (v ∷ us)) ≡ n
      → unit_packets least k 0 (v ∷ us) ≡ first_packet least k (v ∷ us) ∷ unit_packets least 0 0 (drop n (v ∷ us))
  unfolding unit_packets
  packets_next k zero v us h e = absurd (omega arith)
  packets_next k (suc n) v us h e =
      ap (λ (ps : List Packet). first_packet least k (v ∷ us) ∷ ps) (ap (λ (j : ℕ). unit_packets least 0 (pred j) us) e ∙ packets_from 0 n us)

  -- how many packets, and how many bytes, don't hang on the skip
  pub packets_sizes : (k : ℕ) (vs : List (List ℕ))
      → (length (unit_packets least k 0 vs) ≡ length (unit_packets least 0 0 vs))
      × (length (bytes (unit_packets least k 0 vs)) ≡ length (bytes (unit_packets least 0 0 vs)))
  unfolding unit_packets flat_map
  packets_sizes k [] = (refl, refl)
  packets_sizes k (v ∷ us) =
      let p = packet_sizes least k (v ∷ us) in
      let e : unit_packets least 0 (pred (units_of (first_packet least k (v ∷ us)))) us
      ≡ unit_packets least 0 (pred (units_of (first_packet least 0 (v ∷ us)))) us =
      ap (λ (j : ℕ). unit_packets least 0 (pred j) us) p.0 in (
        ap (λ (ps : List Packet). suc (length ps)) e,
        omega (
          arith,
          length-append (packet_bytes (first_packet least k (v ∷ us))) (bytes (unit_packets least 0 (pred (units_of (first_packet least k (v ∷ us)))) us)),
          length-append (packet_bytes (first_packet least 0 (v ∷ us))) (bytes (unit_packets least 0 (pred (units_of (first_packet least 0 (v ∷ us)))) us)),
          ap (λ (ps : List Packet). length (bytes ps)) e,
          p.1,
        ),
      )

-- the first packet of m units from unit x on, and those after it
module _ (unit least : ℕ) (b : List ℕ) (x m n t l : ℕ) (p : PacketAt unit least b x m n t l) where
  -- those after it
  abbrev after : List Packet
  after = unit_packets least 0 0 (units_at unit b (x + n) (m - n))

  pub packets_at : (k : ℕ) → unit_packets least k 0 (units_at unit b x m) ≡ first_packet least k (units_at unit b x m) ∷ after
  packets_at k =
      let first = first_unit unit b x m (omega (arith, p.some, p.inside)) in
      ap (unit_packets least k 0) first
      ∙ packets_next least k n (unit_at unit b x) (units_at unit b (x + 1) (m - 1)) p.some
      (ap (λ (vs : List (List ℕ)). units_of (first_packet least k vs)) (sym first) ∙ (packet_sizes least k (units_at unit b x m)).0 ∙ sym p.units)
      ∙ ap₂ (λ (vs us : List (List ℕ)). first_packet least k vs ∷ unit_packets least 0 0 us) (sym first)
      (ap (drop n) (sym first) ∙ drop_units unit b x m n p.inside)

  pub packets_count : (k : ℕ) → length (unit_packets least k 0 (units_at unit b x m)) ≡ 1 + length after
  packets_count k = omega (arith, ap length (packets_at k))

  pub packets_bytes : (k : ℕ) → bytes (unit_packets least k 0 (units_at unit b x m)) ≡ (k ∷ t ∷ take l (drop (x * unit) b)) ++ bytes after
  packets_bytes k =
      ap bytes (packets_at k) ∙ flat_map_cons packet_bytes (first_packet least k (units_at unit b x m)) after
      ∙ ap (λ (v : List ℕ). v ++ bytes after) (p.bytes k)

  pub packets_size : (k : ℕ) → length (bytes (unit_packets least k 0 (units_at unit b x m))) ≡ 2 + l + length (bytes after)
  packets_size k =
      let v = take l (drop (x * unit) b) in
      let lv = length-take-le l (drop (x * unit) b) (omega (arith, length-drop (x * unit) b, p.there)) in
      omega (arith, ap length (packets_bytes k), length-append v (bytes after))

pub packets_done : (unit least : ℕ) (b : List ℕ) (k x m : ℕ) → m ≤ 0 → unit_packets least k 0 (units_at unit b x m) ≡ []
unfolding units_at unit_packets
packets_done unit least b k x zero h = refl
packets_done unit least b k x (suc m) h = absurd (omega arith)
