-- Laws of the delta: its skip words, its stretches, its body.
use mathlib.Core.Path.{◌≡◌, refl, sym, ap, ◌∙◌}
use mathlib.Core.List.{List, [], flat_map}
use Prim.Native.Nat.{ℕ, zero, suc, ◌+◌, ◌-◌, ◌*◌, ◌≤◌}
use native.Mathlib.Omega.{arith}
use lib.ListN.{length, drop, length-append}
use Rattle.words.specs.Words.{le16}
use Rattle.words.specs.Writes.{put}
use Rattle.words.proofs.Laws.{put_then, put_before}
use Rattle.house_cells.specs.Cells.{Cell, cells_at, Stretch}
use Rattle.house_cells.specs.Rows.{stretch_at}
use Rattle.house_cells.proofs.CellLaws.{length_cells}
use Rattle.house_ss2.specs.Delta.{lines, skip_word, stretch_lines, changed_rows, line_count, delta_body}

-- skip words

pub skip_none : (g : ℕ) → g ≡ 0 → skip_word g ≡ []
unfolding skip_word
skip_none zero e = refl
skip_none (suc g) e = absurd (omega arith)

pub skip_some : (g : ℕ) → 1 ≤ g → skip_word g ≡ le16 (65536 - g) []
unfolding skip_word
skip_some zero h = absurd (omega arith)
skip_some (suc g) h = refl

-- a stretch of rows

abbrev pub rows : Stretch → List Cell
rows s = s.changed

module _ (w i g n : ℕ) (p q : List ℕ) where
  pub stretch_length : length (stretch_lines w (stretch_at w i g n p q)) ≡ length (skip_word g) + length (lines w (cells_at w (i + g) n p q))
  unfolding stretch_lines
  stretch_length = length-append (skip_word g) (lines w (cells_at w (i + g) n p q))

  pub stretch_stored : (d e f : List ℕ) (at here : ℕ) → at + length (stretch_lines w (stretch_at w i g n p q)) ≤ length d
      → here ≡ at + length (skip_word g) → e ≡ put d at (skip_word g) → f ≡ put e here (lines w (cells_at w (i + g) n p q))
      → f ≡ put d at (stretch_lines w (stretch_at w i g n p q))
  unfolding stretch_lines
  stretch_stored d e f at here h l x y =
      put_then d e f (skip_word g) (lines w (cells_at w (i + g) n p q)) at (length (skip_word g)) refl (omega (arith, stretch_length)) x
      (y ∙ ap (λ (j : ℕ). put e j (lines w (cells_at w (i + g) n p q))) l)

  -- its rows
  pub stretch_rows : n ≡ length (cells_at w (i + g) n p q)
  stretch_rows = sym (length_cells w n (drop ((i + g) * w) p) (drop ((i + g) * w) q))

-- the body

module _ (w h : ℕ) (p q : List ℕ) where
  pub body_length : length (delta_body w h p q) ≡ 2 + length (flat_map (stretch_lines w) (changed_rows w h p q))
  unfolding delta_body
  body_length = omega arith

  -- the lines, and then their count in front of them
  pub body_stored : (d e f : List ℕ) (at c : ℕ) → c ≡ line_count w h p q → at + length (delta_body w h p q) ≤ length d
      → e ≡ put d (at + 2) (flat_map (stretch_lines w) (changed_rows w h p q)) → f ≡ put e at (le16 c []) → f ≡ put d at (delta_body w h p q)
  unfolding delta_body
  body_stored d e f at c k l x y =
      let z = flat_map (stretch_lines w) (changed_rows w h p q) in
      y ∙ ap (λ (o : List ℕ). put o at (le16 c [])) x ∙ put_before d (le16 c []) z at 2 refl (omega (arith, body_length))
      ∙ ap (λ (n : ℕ). put d at (le16 n z)) k
