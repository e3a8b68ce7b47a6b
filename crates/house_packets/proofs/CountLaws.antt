-- A row of single pixels has at most one packet for each two of them, and one more, where three equal ones or more make a repeat.
-- In a stretch a repeat takes three pixels or more, and a copy of fewer than 127 stands before a repeat or at the end. A stretch that isn't
-- the row's first has a gap before it, which makes up for its one packet more.
use mathlib.Core.Path.{◌≡◌, refl, sym, ap, ◌∙◌}
use mathlib.Core.List.{List, [], ◌∷◌, map, flat_map}
use mathlib.Core.Bool.{true, false, cond}
use Prim.Native.Nat.{ℕ, zero, suc, ◌+◌, ◌-◌, ◌*◌, ◌/◌, ◌≤◌, ◌<◌, min}
use native.Mathlib.Omega.{arith}
use native.Mathlib.Nat.{mul-div-le, mul-le-mul_right}
use lib.Dec.{leb}
use lib.ListN.{length, drop, length-append, length-drop, length-map}
use lib.Seq.{length-take-le}
use borrow.Author.Tests.{leb-true, leb-false}
use Rattle.words.proofs.Tests.{by_test}
use Rattle.house_cells.specs.Cells.{Cell, cells, Stretch, stretches}
use Rattle.house_cells.proofs.CellLaws.{length_cells, taken, Gapped, Apart, stretches_apart}
use Rattle.house_packets.specs.Packets.{units_of, equals, repeats, up_to_repeat, first_packet, unit_packets, shortenings, stretch_packets, row_packets}
use Rattle.house_packets.proofs.UnitLaws.{equals_itself, equals_le, repeats_front, until_front, until_some, until_le}
use Rattle.house_packets.proofs.PacketLaws.{packet_repeat, packet_copy, packets_next, packets_sizes}
use Rattle.house_packets.proofs.GapLaws.{gap_count}
use Rattle.house_packets.proofs.RowLaws.{row_stretches}

module _ (least : ℕ) (three : 3 ≤ least) where
  -- the packets of the units of a stretch

  abbrev count : List (List ℕ) → ℕ
  count vs = length (unit_packets least 0 0 vs)

  count_none : count [] ≡ 0
  unfolding unit_packets
  count_none = refl

  -- no more than one for each two units, if a repeat stands in front
  abbrev Begun : List (List ℕ) → Type 0
  Begun vs = repeats least vs ≡ true → 2 * count vs ≤ length vs

  -- one more, if not
  abbrev Few : List (List ℕ) → Type 0
  Few vs = (2 * count vs ≤ length vs + 1) × Begun vs

  -- what stands behind the units before the first repeat begins with it, or is nothing
  after_until : (us : List (List ℕ)) → ((vs : List (List ℕ)) → length vs ≤ length us → Begun vs)
      → 2 * count (drop (up_to_repeat least us) us) ≤ length (drop (up_to_repeat least us) us)
  unfolding up_to_repeat
  after_until [] h = omega (arith, count_none)
  after_until (u ∷ us) h =
      let further = after_until us (λ vs l. h vs (omega (arith, l))) in
      by_test (λ t. 2 * count (drop (cond t 0 (suc (up_to_repeat least us))) (u ∷ us)) ≤ length
      (drop (cond t 0 (suc (up_to_repeat least us))) (u ∷ us))) (repeats least (u ∷ us))
      (λ e. h (u ∷ us) (omega arith) e) (λ e. further)

  -- a packet of n units, and those after it
  count_next : (n : ℕ) (v : List ℕ) (us : List (List ℕ)) → 1 ≤ n → units_of (first_packet least 0 (v ∷ us)) ≡ n
      → count (v ∷ us) ≡ suc (count (drop n (v ∷ us)))
  count_next n v us some e = ap length (packets_next least 0 n v us some e)

  module _ (v : List ℕ) (us : List (List ℕ)) (less : (ws : List (List ℕ)) → length ws ≤ length us → Few ws) where
    repeat_count : Begun (v ∷ us)
    repeat_count e =
        let all = v ∷ us in
        let n = min 127 (equals v all) in
        let some : 3 ≤ n = omega (arith, three, equals_itself v us, leb-true least (suc (equals v us)) (sym (repeats_front least v us) ∙ e)) in
        let inside = equals_le v all in
        let ld = length-drop n all in
        omega (arith, count_next n v us (omega arith) (ap units_of (packet_repeat least 0 all e)), (less (drop n all) (omega arith)).0)

    copy_count : repeats least (v ∷ us) ≡ false → 2 * count (v ∷ us) ≤ suc (length us) + 1
    copy_count e =
        let all = v ∷ us in
        let u = up_to_repeat least all in
        let n = min 127 u in
        let some : 1 ≤ u = until_some least v us e in
        let inside : u ≤ length all = until_le least all in
        let ld = length-drop n all in
        let next = count_next n v us (omega arith) (ap units_of (packet_copy least 0 all e) ∙ length-take-le n all (omega arith)) in
        by_test (λ _. 2 * count all ≤ length all + 1) (leb 127 u)
        (λ f. omega (arith, next, leb-true 127 u f, (less (drop n all) (omega arith)).0))
        (λ f.
        let fewer : n ≡ suc (up_to_repeat least us) = omega (arith, leb-false 127 u f, until_front least v us false e) in
        let lu = ap (λ (j : ℕ). length (drop j all)) fewer in
        let cu = ap (λ (j : ℕ). count (drop j all)) fewer in
        omega (arith, next, after_until us (λ vs l. (less vs l).1)))

  -- if it holds of fewer units
  count_step : (vs : List (List ℕ)) → ((us : List (List ℕ)) → length us < length vs → Few us) → Few vs
  count_step [] shorter = (omega (arith, count_none), λ e. omega (arith, count_none))
  count_step (v ∷ us) shorter =
      let less : (ws : List (List ℕ)) → length ws ≤ length us → Few ws = (λ ws l. shorter ws (omega (arith, l))) in
      let begun = repeat_count v us less in
      (by_test (λ _. 2 * count (v ∷ us) ≤ suc (length us) + 1) (repeats least (v ∷ us)) (λ e. omega (arith, begun e)) (copy_count v us less), begun)

  units_count : (m : ℕ) (vs : List (List ℕ)) → length vs ≤ m → Few vs
  units_count zero vs h = count_step vs (λ us l. absurd (omega (arith, l)))
  units_count (suc m) vs h = count_step vs (λ us l. units_count m us (omega (arith, l)))

  module _ (longest : ℕ) (two : 2 ≤ longest) where
    -- a stretch of changed pixels with its gap

    shortenings_few : (g : ℕ) → 2 * shortenings longest g ≤ g - 1
    unfolding shortenings
    shortenings_few g = omega (arith, mul-div-le (g - 1) longest, mul-le-mul_right ((g - 1) / longest) two)

    stretch_count : (s : Stretch) → 2 * length (stretch_packets 1 least longest s) ≤ (s.gap - 1) + (length s.changed + 1)
    unfolding stretch_packets
    stretch_count s =
        let vs = map (λ (c : Cell). c.new) s.changed in
        let g = 1 * s.gap in
        omega (
          arith,
          gap_count least longest g (shortenings longest g) vs refl,
          (packets_sizes least (g - longest * shortenings longest g) vs).0,
          (units_count (length vs) vs (omega arith)).0,
          length-map s.changed (λ (c : Cell). c.new),
          shortenings_few g,
        )

    -- stretches

    gapped_count : (ss : List Stretch) → Gapped ss → 2 * length (flat_map (stretch_packets 1 least longest) ss) ≤ taken ss
    unfolding flat_map
    gapped_count [] a = omega arith
    gapped_count (s ∷ ss) a =
        omega (
          arith,
          length-append (stretch_packets 1 least longest s) (flat_map (stretch_packets 1 least longest) ss),
          stretch_count s,
          gapped_count ss a.1,
          a.0,
        )

    apart_count : (ss : List Stretch) → Apart ss → 2 * length (flat_map (stretch_packets 1 least longest) ss) ≤ taken ss + 1
    unfolding flat_map
    apart_count [] a = omega arith
    apart_count (s ∷ ss) a =
        omega (arith, length-append (stretch_packets 1 least longest s) (flat_map (stretch_packets 1 least longest) ss), stretch_count s, gapped_count ss a)

    -- a row of n pixels
    pub count_fits : (n : ℕ) (a b : List ℕ) → 2 * length (row_packets 1 least longest n a b) ≤ n + 1
    count_fits n a b =
        let apart = stretches_apart (cells 1 n a b) in
        omega (arith, ap length (row_stretches 1 least longest n a b), apart_count (stretches (cells 1 n a b)) apart.0, apart.1, length_cells 1 n a b)
