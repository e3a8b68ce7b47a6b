-- Laws of a line: the packet count and the packets, and the last-pixel word.
use mathlib.Core.Path.{◌≡◌, refl, sym, ap, ◌∙◌}
use mathlib.Core.List.{List, [], ◌∷◌}
use mathlib.Core.Bool.{true, false, not}
use Prim.Native.Nat.{ℕ, ◌+◌, ◌-◌, ◌%◌, ◌≤◌}
use native.Mathlib.Omega.{arith}
use lib.Dec.{eqb}
use lib.ListN.{length, get_or}
use borrow.Author.Tests.{eq-eqb, ne_eqb}
use Rattle.words.specs.Words.{le16}
use Rattle.words.specs.Writes.{put}
use Rattle.words.proofs.Laws.{put_then, put_before}
use Rattle.house_cells.specs.Rows.{row}
use Rattle.house_packets.specs.Packets.{bytes}
use Rattle.house_packets.specs.Units.{Form, Stores}
use Rattle.house_ss2.specs.Line.{line_packets, counted, last_changes, line}

-- kind 7's numbers
pub pairs_form : Form 2 2 254
pairs_form = record {
  some_unit = omega arith;
  small_unit = omega arith;
  some_least = omega arith;
  small_least = omega arith;
  some_longest = omega arith;
  small_longest = omega arith;
}

-- the packet count, and the packets

pub counted_length : (w : ℕ) (a b : List ℕ) → length (counted w (row a b)) ≡ 2 + length (bytes (line_packets w (row a b)))
unfolding counted
counted_length w a b = omega arith

-- the packets, and then their count in front of them
pub counted_stored : (w : ℕ) (a b d e f : List ℕ) (at c end : ℕ) → at + length (counted w (row a b)) ≤ length d
    → Stores (line_packets w (row a b)) d (at + 2) e c end → f ≡ put e at (le16 c [])
    → (end ≡ at + length (counted w (row a b))) × (f ≡ put d at (counted w (row a b)))
unfolding counted
counted_stored w a b d e f at c end h x y =
    let z = bytes (line_packets w (row a b)) in (
      omega (arith, x.ends, counted_length w a b),
      y ∙ ap (λ (o : List ℕ). put o at (le16 c [])) x.stored ∙ put_before d (le16 c []) z at 2 refl (omega (arith, counted_length w a b))
          ∙ ap (λ (n : ℕ). put d at (le16 n z)) x.number,
    )

-- the last-pixel word

pub changes_even : (w : ℕ) (a b : List ℕ) → w % 2 ≡ 0 → false ≡ last_changes w (row a b)
unfolding last_changes
changes_even w a b e = simp (eq-eqb (w % 2) 0 e)

pub changes_odd : (w : ℕ) (a b : List ℕ) → (w % 2 ≡ 0 → ⊥) → not (eqb (get_or a (w - 1) 0) (get_or b (w - 1) 0)) ≡ last_changes w (row a b)
unfolding last_changes
changes_odd w a b h = simp (ne_eqb (w % 2) 0 h)

module _ (w : ℕ) (a b : List ℕ) where
  pub line_last : last_changes w (row a b) ≡ true → line w (row a b) ≡ get_or b (w - 1) 0 ∷ 128 ∷ counted w (row a b)
  unfolding line
  line_last e = simp e

  pub line_plain : last_changes w (row a b) ≡ false → line w (row a b) ≡ counted w (row a b)
  unfolding line
  line_plain e = simp e

  pub last_stored : (d e f : List ℕ) (at : ℕ) → last_changes w (row a b) ≡ true → at + length (line w (row a b)) ≤ length d
      → e ≡ put d at (get_or b (w - 1) 0 ∷ 128 ∷ []) → f ≡ put e (at + 2) (counted w (row a b)) → f ≡ put d at (line w (row a b))
  last_stored d e f at t h x y =
      put_then d e f (get_or b (w - 1) 0 ∷ 128 ∷ []) (counted w (row a b)) at 2 refl (omega (arith, ap length (line_last t))) x y
      ∙ ap (put d at) (sym (line_last t))
