-- Laws of a row's packets, one stretch after the other.
use mathlib.Core.Path.{◌≡◌, refl, sym, ap, ◌∙◌}
use mathlib.Core.List.{List, [], ◌∷◌, ◌++◌, flat_map}
use Prim.Native.Nat.{ℕ, ◌+◌, ◌*◌, ◌≤◌}
use native.Mathlib.Omega.{arith}
use native.Mathlib.Nat.{mul-le-mul_left, mul-le-mul_right}
use Rattle.house_cells.specs.Cells.{cells, cells_at, Stretch, stretches}
use Rattle.house_cells.proofs.CellLaws.{flat_map_append}
use Rattle.house_packets.specs.Packets.{packet_bytes, bytes, gap_packets, stretch_packets, row_packets}
use Rattle.house_packets.specs.Units.{Form, units_at}
use Rattle.house_packets.proofs.UnitLaws.{units_cells}

module _ (unit least longest : ℕ) where
  -- the bytes of a stretch's packets
  abbrev pub stretch_bytes : Stretch → List ℕ
  stretch_bytes s = bytes (stretch_packets unit least longest s)

  stretches_bytes : (ss : List Stretch) → bytes (flat_map (stretch_packets unit least longest) ss) ≡ flat_map stretch_bytes ss
  unfolding flat_map
  stretches_bytes [] = refl
  stretches_bytes (s ∷ ss) =
      flat_map_append packet_bytes (stretch_packets unit least longest s) (flat_map (stretch_packets unit least longest) ss)
      ∙ ap (λ (l : List ℕ). stretch_bytes s ++ l) (stretches_bytes ss)

  pub row_stretches : (n : ℕ) (a b : List ℕ) → row_packets unit least longest n a b
      ≡ flat_map (stretch_packets unit least longest) (stretches (cells unit n a b))
  unfolding row_packets
  row_stretches n a b = refl

  pub row_bytes : (n : ℕ) (a b : List ℕ) → bytes (row_packets unit least longest n a b) ≡ flat_map stretch_bytes (stretches (cells unit n a b))
  unfolding row_packets
  row_bytes n a b = stretches_bytes (stretches (cells unit n a b))

  -- m changed units after unit i and a gap of g
  pub stretch_gap : (a b : List ℕ) (i g m : ℕ) → gap_packets least longest (unit * g) (units_at unit b (i + g) m)
      ≡ stretch_packets unit least longest (record { gap = g; changed = cells_at unit (i + g) m a b })
  unfolding stretch_packets
  stretch_gap a b i g m = ap (gap_packets least longest (unit * g)) (sym (units_cells unit a b (i + g) m))

  -- a stretch that lies in a row of n units
  pub record Fits (g m i : ℕ) (most l : ℕ) : Type 0 where
    pub gap_few : g ≤ unit * g
    pub gap : unit * g ≤ 2 * g
    pub gap_wide : unit * g ≤ most
    pub changed_wide : m ≤ most
    pub row : (i + g + m) * unit ≤ l

  pub stretch_fits : Form unit least longest → (n i g m most l : ℕ) → i + g + m ≤ n → n * unit ≤ most → n * unit ≤ l → Fits g m i most l
  stretch_fits f n i g m most l h x y =
      let all = mul-le-mul_right unit h in
      let wide = mul-le-mul_left m f.some_unit in
      record {
        gap_few = omega (arith, mul-le-mul_right g f.some_unit);
        gap = mul-le-mul_right g f.small_unit;
        gap_wide = omega arith;
        changed_wide = omega arith;
        row = omega arith;
      }
