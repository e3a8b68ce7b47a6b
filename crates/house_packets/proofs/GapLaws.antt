-- Laws of units after a gap: their packets' bytes, and the loops that size and store them.
use mathlib.Core.Path.{◌≡◌, refl, sym, ap, ap₂, ◌∙◌}
use mathlib.Core.List.{List, [], ◌∷◌, ◌++◌, flat_map}
use Prim.Native.Nat.{ℕ, zero, suc, ◌+◌, ◌-◌, ◌*◌, ◌/◌, ◌≤◌, ◌<◌}
use native.Mathlib.Omega.{arith}
use native.Mathlib.Nat.{add-sub_cancel_left, mul-le-mul_right, div-eq_of_lt, mul-div-le, lt-mul-div-succ}
use lib.ListN.{length, take, drop, replicate, length-append, length-replicate}
use Rattle.words.specs.Writes.{put}
use Rattle.words.proofs.Laws.{put_then}
use Rattle.house_cells.proofs.Ahead.{Ahead, ahead_first, ahead_room, ahead_on, ahead_ends}
use Rattle.house_cells.proofs.CellLaws.{flat_map_append, flat_map_nil}
use Rattle.house_packets.specs.Packets.{Packet, copy, packet_bytes, bytes, unit_packets, shortenings, gap_packets}
use Rattle.house_packets.specs.Units.{units_at, PacketAt, empty_packets, Stores}
use Rattle.house_packets.proofs.PacketLaws.{packets_sizes, packets_count, packets_bytes, packets_size, packets_done}

-- how often a gap is shortened

module _ (longest g : ℕ) (some : 1 ≤ longest) where
  pub shortened_none : g ≤ longest → (0 ≡ shortenings longest g) × (0 ≤ g) × (longest * 0 ≤ g) × (g ≤ longest + longest * 0)
  unfolding shortenings
  shortened_none h = (sym (div-eq_of_lt {n = g - 1} {m = longest} (omega arith)), omega arith, omega arith, omega arith)

  pub shortened_some : longest < g → ((g - 1) / longest ≡ shortenings longest g) × ((g - 1) / longest ≤ g) × (longest * ((g - 1) / longest) ≤ g)
      × (g ≤ longest + longest * ((g - 1) / longest))
  unfolding shortenings
  shortened_some h =
      let q = (g - 1) / longest in
      let low = mul-div-le (g - 1) longest in
      let high = lt-mul-div-succ (g - 1) {b = longest} some in
      (refl, omega (arith, mul-le-mul_right q some), omega arith, omega arith)

-- packets of skip longest and type 0

module _ (longest : ℕ) where
  pub length_empty : (s : ℕ) → length (empty_packets longest s) ≡ 2 * s
  unfolding empty_packets
  length_empty zero = refl
  length_empty (suc s) = omega (arith, length_empty s)

  empty_none : empty_packets longest 0 ≡ []
  unfolding empty_packets
  empty_none = refl

  empty_bytes : (s : ℕ) → bytes (replicate s (copy longest [])) ≡ empty_packets longest s
  unfolding packet_bytes empty_packets flat_map
  empty_bytes zero = refl
  empty_bytes (suc s) = ap (λ (l : List ℕ). longest ∷ 0 ∷ l) (empty_bytes s)

  -- of all s packets those from packet k on are still to be stored
  module _ (s : ℕ) (out₀ : List ℕ) (at : ℕ) where
    abbrev pub Emptying : List ℕ → ℕ → Type 0
    Emptying out k = Ahead out₀ at (empty_packets longest s) out (at + 2 * k) (empty_packets longest (s - k))

    pub emptying_first : at + 2 * s ≤ length out₀ → Emptying out₀ 0
    emptying_first h =
        let here : at ≡ at + 2 * 0 = omega arith in
        let all : empty_packets longest s ≡ empty_packets longest (s - 0) = let z : s ≡ s - 0 = omega arith in ap (empty_packets longest) z in
        record { same = ap₂ (put out₀) here all; ends = omega (arith, ap length all); room = omega (arith, length_empty s); long = refl }

    module _ (out : List ℕ) (k : ℕ) (r : Emptying out k) where
      module _ (h : k < s) where
        next : empty_packets longest (s - k) ≡ longest ∷ 0 ∷ empty_packets longest (s - (k + 1))
        unfolding empty_packets
        next = let z : s - k ≡ suc (s - (k + 1)) = omega arith in ap (empty_packets longest) z

        pub emptying_room : at + 2 * k + 2 ≤ length out
        emptying_room = ahead_room out₀ at (empty_packets longest s) r (longest ∷ 0 ∷ []) (empty_packets longest (s - (k + 1))) next

        pub emptying_on : (out' : List ℕ) → out' ≡ put out (at + 2 * k) (longest ∷ 0 ∷ []) → Emptying out' (k + 1)
        emptying_on out' e =
            ahead_on out₀ at (empty_packets longest s) r (longest ∷ 0 ∷ []) (empty_packets longest (s - (k + 1))) next out' (at + 2 * (k + 1)) (omega arith) e

      pub emptying_ends : s ≤ k → out ≡ put out₀ at (empty_packets longest s)
      emptying_ends h = (ahead_ends out₀ at (empty_packets longest s) r none).1
        where
          none : empty_packets longest (s - k) ≡ []
          none = let z : s - k ≡ 0 = omega arith in ap (empty_packets longest) z ∙ empty_none

bytes_none : bytes [] ≡ []
bytes_none = flat_map_nil packet_bytes

-- the packets of units stored

module _ (unit least : ℕ) (b : List ℕ) (x₀ m₀ k₀ : ℕ) (out₀ : List ℕ) (at : ℕ) where
  -- all that is to be stored
  abbrev all : List Packet
  all = unit_packets least k₀ 0 (units_at unit b x₀ m₀)

  -- count packets are stored, and those after skip pixels of left units from unit i on are still to be stored at here
  pub record Storing (out : List ℕ) (here skip i left count : ℕ) : Type 0 where
    pub place : i + left ≡ x₀ + m₀
    pub small : skip < 256
    pub few : count + left ≤ m₀
    pub number : length all ≡ count + length (unit_packets least skip 0 (units_at unit b i left))
    pub ahead : Ahead out₀ at (bytes all) out here (bytes (unit_packets least skip 0 (units_at unit b i left)))

  pub storing_first : k₀ < 256 → at + length (bytes all) ≤ length out₀ → Storing out₀ at k₀ x₀ m₀ 0
  storing_first s h = record { place = refl; small = s; few = omega arith; number = omega arith; ahead = ahead_first out₀ at (bytes all) h }

  module _ (out : List ℕ) (here skip i left count : ℕ) (r : Storing out here skip i left count) where
    -- the next packet, with the data that a range lends
    module _ (n t l : ℕ) (p : PacketAt unit least b i left n t l) where
      -- what is left after it
      abbrev more : List ℕ
      more = bytes (unit_packets least 0 0 (units_at unit b (i + n) (left - n)))

      abbrev lent : List ℕ
      lent = take (i * unit + l - i * unit) (drop (i * unit) b)

      whole : bytes (unit_packets least skip 0 (units_at unit b i left)) ≡ (skip ∷ t ∷ lent) ++ more
      whole = packets_bytes unit least b i left n t l p skip
          ∙ ap (λ (j : ℕ). (skip ∷ t ∷ take j (drop (i * unit) b)) ++ more) (sym (add-sub_cancel_left (i * unit) l))

      pub storing_room : here + 2 + length lent ≤ length out
      storing_room = omega (arith, ahead_room out₀ at (bytes all) r.ahead (skip ∷ t ∷ lent) more whole)

      pub storing_on : (out' : List ℕ) (here' : ℕ) → (here' ≡ here + 2 + length lent) × (out' ≡ put out here (skip ∷ t ∷ lent))
          → Storing out' here' 0 (i + n) (left - n) (count + 1)
      storing_on out' here' e = record {
        place = omega (arith, r.place, p.inside);
        small = omega arith;
        few = omega (arith, r.few, p.some, p.inside);
        number = omega (arith, r.number, packets_count unit least b i left n t l p skip);
        ahead = ahead_on out₀ at (bytes all) r.ahead (skip ∷ t ∷ lent) more whole out' here' (omega (arith, e.0)) e.1;
      }

    pub storing_ends : left ≤ 0 → Stores all out₀ at out count here × (count ≤ m₀)
    storing_ends h =
        let d = packets_done unit least b skip i left h in
        let e = ahead_ends out₀ at (bytes all) r.ahead (ap bytes d ∙ bytes_none) in
        (record { number = omega (arith, r.number, ap length d); ends = e.0; stored = e.1 }, omega (arith, r.few))

-- the packets that shorten the gap, and then those of the units

module _ (least longest g s : ℕ) (vs : List (List ℕ)) (es : s ≡ shortenings longest g) where
  pub gap_count : length (gap_packets least longest g vs) ≡ s + length (unit_packets least (g - longest * s) 0 vs)
  unfolding gap_packets
  gap_count =
      ap (λ (j : ℕ). length (replicate j (copy longest []) ++ unit_packets least (g - longest * j) 0 vs)) (sym es)
      ∙ length-append (replicate s (copy longest [])) (unit_packets least (g - longest * s) 0 vs)
      ∙ ap (λ (j : ℕ). j + length (unit_packets least (g - longest * s) 0 vs)) (length-replicate s (copy longest []))

  gap_bytes : bytes (gap_packets least longest g vs) ≡ empty_packets longest s ++ bytes (unit_packets least (g - longest * s) 0 vs)
  unfolding gap_packets
  gap_bytes =
      ap (λ (j : ℕ). bytes (replicate j (copy longest []) ++ unit_packets least (g - longest * j) 0 vs)) (sym es)
      ∙ flat_map_append packet_bytes (replicate s (copy longest [])) (unit_packets least (g - longest * s) 0 vs)
      ∙ ap (λ (l : List ℕ). l ++ bytes (unit_packets least (g - longest * s) 0 vs)) (empty_bytes longest s)

  pub gap_length : length (bytes (gap_packets least longest g vs)) ≡ 2 * s + length (bytes (unit_packets least (g - longest * s) 0 vs))
  gap_length = omega (
    arith,
    ap length gap_bytes,
    length-append (empty_packets longest s) (bytes (unit_packets least (g - longest * s) 0 vs)),
    length_empty longest s,
  )

  -- the skip left does not bear on it
  pub gap_size : length (bytes (gap_packets least longest g vs)) ≡ 2 * s + length (bytes (unit_packets least 0 0 vs))
  gap_size = omega (arith, gap_length, (packets_sizes least (g - longest * s) vs).1)

  pub gap_stored : (d e f : List ℕ) (at count end : ℕ) → at + length (bytes (gap_packets least longest g vs)) ≤ length d
      → e ≡ put d at (empty_packets longest s) → Stores (unit_packets least (g - longest * s) 0 vs) e (at + 2 * s) f count end
      → Stores (gap_packets least longest g vs) d at f (s + count) end
  gap_stored d e f at count end h x y = record {
    number = omega (arith, y.number, gap_count);
    ends = omega (arith, y.ends, gap_length);
    stored =
        put_then d e f (empty_packets longest s) (bytes (unit_packets least (g - longest * s) 0 vs)) at (2 * s) (length_empty longest s)
        (omega (arith, gap_length)) x y.stored
        ∙ ap (put d at) (sym gap_bytes);
  }

-- the bytes of the packets sized

module _ (unit least longest : ℕ) (b : List ℕ) (x₀ m₀ g : ℕ) where
  -- the packets before unit i have size bytes, and left units from it on give the rest
  pub record Sizing (i left size : ℕ) : Type 0 where
    pub place : i + left ≡ x₀ + m₀
    pub sized : length (bytes (gap_packets least longest g (units_at unit b x₀ m₀))) ≡ size + length (bytes (unit_packets least 0 0 (units_at unit b i left)))
    pub short : size + 4 * left ≤ 2 * g + 4 * m₀

  pub sizing_first : (s : ℕ) → s ≡ shortenings longest g → s ≤ g → Sizing x₀ m₀ (2 * s)
  sizing_first s e h = record { place = refl; sized = gap_size least longest g s (units_at unit b x₀ m₀) e; short = omega arith }

  module _ (i left size : ℕ) (r : Sizing i left size) where
    pub sizing_on : (n t l : ℕ) → PacketAt unit least b i left n t l → Sizing (i + n) (left - n) (size + (2 + l))
    sizing_on n t l p = record {
      place = omega (arith, r.place, p.inside);
      sized = omega (arith, r.sized, packets_size unit least b i left n t l p 0);
      short = omega (arith, r.short, p.some, p.inside, p.short);
    }

    pub sizing_ends : left ≤ 0 → (size ≡ length (bytes (gap_packets least longest g (units_at unit b x₀ m₀)))) × (size ≤ 2 * g + 4 * m₀)
    sizing_ends h =
        let e = ap bytes (packets_done unit least b 0 i left h) ∙ bytes_none in
        (omega (arith, r.sized, ap length e), omega (arith, r.short))
