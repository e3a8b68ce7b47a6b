-- Laws of a line: the packet count and the packets.
use mathlib.Core.Path.{◌≡◌, refl, ap, ◌∙◌}
use mathlib.Core.List.{List, [], ◌∷◌, flat_map}
use Prim.Native.Nat.{ℕ, ◌+◌, ◌≤◌, ◌<◌}
use native.Mathlib.Omega.{arith}
use lib.ListN.{length, set}
use Rattle.words.specs.Writes.{put}
use Rattle.words.proofs.Laws.{put_one, put_before, length_put}
use Rattle.format.specs.Limits.{Wide}
use Rattle.house_cells.specs.Cells.{Cell}
use Rattle.house_cells.specs.Rows.{row}
use Rattle.house_cells.proofs.CellLaws.{flat_map_nil, stretches_same}
use Rattle.house_packets.specs.Packets.{Packet, packet_bytes, bytes, stretch_packets}
use Rattle.house_packets.specs.Units.{Form, Stores}
use Rattle.house_packets.proofs.RowLaws.{row_stretches}
use Rattle.house_packets.proofs.CountLaws.{count_fits}
use Rattle.house_lc.specs.Line.{line_packets, line}

-- kind 12's numbers
pub pixels_form : Form 1 3 255
pixels_form = record {
  some_unit = omega arith;
  small_unit = omega arith;
  some_least = omega arith;
  small_least = omega arith;
  some_longest = omega arith;
  small_longest = omega arith;
}

-- the packet count fits its byte
pub count_small : (w : ℕ) (r : Cell) → Wide w → length (line_packets w r) < 256
count_small w r wide = omega (arith, wide, count_fits 3 (omega arith) 255 (omega arith) w r.old r.new)

pub line_length : (w : ℕ) (r : Cell) → length (line w r) ≡ 1 + length (bytes (line_packets w r))
unfolding line
line_length w r = omega arith

-- "a row without change having count 0"
pub line_unchanged : (w : ℕ) (a : List ℕ) → line w (row a a) ≡ 0 ∷ []
unfolding line
line_unchanged w a =
    ap (λ (ps : List Packet). length ps ∷ bytes ps)
    (row_stretches 1 3 255 w a a ∙ ap (flat_map (stretch_packets 1 3 255)) (stretches_same 1 w a) ∙ flat_map_nil (stretch_packets 1 3 255))
    ∙ ap (λ (l : List ℕ). 0 ∷ l) (flat_map_nil packet_bytes)

-- the line of a row, stored at at: its packets are stored, which gave e, and their count c is still to be set in front of them
pub record Counted (w : ℕ) (r : Cell) (d e : List ℕ) (at c end : ℕ) : Type 0 where
  pub small : c < 256
  pub inside : at < length e
  pub ends : end ≡ at + length (line w r)
  pub stored : set e at c ≡ put d at (line w r)

pub line_counted : {w : ℕ} {r : Cell} {d e : List ℕ} {at c end : ℕ} → Wide w → at + length (line w r) ≤ length d
    → Stores (line_packets w r) d (at + 1) e c end → Counted w r d e at c end
unfolding line
line_counted {w} {r} {d} {e} {at} {c} {end} wide h x =
    let z = bytes (line_packets w r) in
    let long : length e ≡ length d = ap length x.stored ∙ length_put d (at + 1) z (omega arith) in
    let here : at < length e = omega arith in
    record {
      small = omega (arith, x.number, count_small w r wide);
      inside = here;
      ends = omega (arith, x.ends);
      stored =
          put_one e at c here ∙ ap (λ (o : List ℕ). put o at (c ∷ [])) x.stored ∙ put_before d (c ∷ []) z at 1 refl (omega arith)
          ∙ ap (λ (n : ℕ). put d at (n ∷ z)) x.number;
    }
