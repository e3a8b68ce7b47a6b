-- Laws of the colour chunk: a packet, the body.
use mathlib.Core.Path.{◌≡◌, refl, sym, ap, ap₂, ◌∙◌}
use mathlib.Core.List.{List, [], ◌∷◌, flat_map}
use Prim.Native.Nat.{ℕ, ◌+◌, ◌-◌, ◌*◌, ◌%◌, ◌≤◌}
use native.Mathlib.Omega.{arith}
use native.Mathlib.Nat.{add-sub_cancel_left}
use lib.ListN.{length, take, drop, length-drop}
use lib.Seq.{length-take-le}
use Rattle.words.specs.Words.{le16}
use Rattle.words.specs.Writes.{put}
use Rattle.words.proofs.Laws.{put_before}
use Rattle.house_cells.specs.Cells.{cells_at}
use Rattle.house_cells.proofs.CellLaws.{length_cells, news_cells}
use Rattle.house_colour.specs.Colours.{changed_entries, colour_packet, colour_body}

-- the packet of n entries, after entry i and a gap of g

module _ (p q : List ℕ) (i g n : ℕ) where
  pub packet_bytes_lem : colour_packet (record { gap = g; changed = cells_at 3 (i + g) n p q }) ≡ g ∷ n % 256 ∷ take (n * 3) (drop ((i + g) * 3) q)
  unfolding colour_packet
  packet_bytes_lem =
      ap₂ (λ (x : ℕ) (l : List ℕ). g ∷ x % 256 ∷ l) (length_cells 3 n (drop ((i + g) * 3) p) (drop ((i + g) * 3) q))
      (news_cells 3 n (drop ((i + g) * 3) p) (drop ((i + g) * 3) q))

  pub packet_length : length q ≡ 768 → i + g + n ≤ 256 → length (colour_packet (record { gap = g; changed = cells_at 3 (i + g) n p q })) ≡ 2 + n * 3
  packet_length l h =
      let d = drop ((i + g) * 3) q in
      omega (arith, ap length packet_bytes_lem, length-take-le (n * 3) d (omega (arith, length-drop ((i + g) * 3) q)))

  -- the same with the entries that a range lends
  pub packet_lent : g ∷ n % 256 ∷ take ((i + g) * 3 + n * 3 - (i + g) * 3) (drop ((i + g) * 3) q) ≡ colour_packet (record {
    gap = g;
    changed = cells_at 3 (i + g) n p q;
  })
  packet_lent =
      ap (λ (k : ℕ). g ∷ n % 256 ∷ take k (drop ((i + g) * 3) q)) (add-sub_cancel_left ((i + g) * 3) (n * 3)) ∙ sym packet_bytes_lem

-- the body

pub body_length : (p q : List ℕ) → length (colour_body p q) ≡ 2 + length (flat_map colour_packet (changed_entries p q))
unfolding colour_body
body_length p q = omega arith

-- the packets, and then the packet count in front of them
pub body_stored : (p q d e f : List ℕ) (at c : ℕ) → c ≡ length (changed_entries p q) → at + length (colour_body p q) ≤ length d
    → e ≡ put d (at + 2) (flat_map colour_packet (changed_entries p q)) → f ≡ put e at (le16 c []) → f ≡ put d at (colour_body p q)
unfolding colour_body
body_stored p q d e f at c k h x y =
    let z = flat_map colour_packet (changed_entries p q) in
    y ∙ ap (λ (o : List ℕ). put o at (le16 c [])) x ∙ put_before d (le16 c []) z at 2 refl (omega (arith, body_length p q))
    ∙ ap (λ (n : ℕ). put d at (le16 n z)) k
