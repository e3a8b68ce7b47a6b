-- A delta chunk reads back: its walk has no fault, ends at the body's end, and its writes turn the previous picture into the next.
-- The rows before the first changed one and behind the last one stay as they are. Each row between has a line, whose packets turn it
-- (`Turns`, in house_packets).
use mathlib.Core.Path.{◌≡◌, refl, sym, ap, ap₂, ◌∙◌, subst}
use mathlib.Core.List.{List, [], ◌∷◌, ◌++◌, append_assoc, flat_map}
use Prim.Native.Nat.{ℕ, ◌+◌, ◌*◌, ◌≤◌}
use native.Mathlib.Omega.{arith}
use native.Mathlib.Nat.{add-zero}
use lib.ListN.{length, take, drop, get_or, length-append, take-append-drop}
use lib.Seq.{length-take-le, take_all, drop-drop}
use Rattle.std.specs.Prelude.{Ok}
use Rattle.words.specs.Words.{le16}
use Rattle.words.proofs.There.{there_drop, there_byte, there_long, there_le16}
use Rattle.walk.proofs.Gives.{Gives, gives_ends, gives_followed, gives_as, gives_to}
use Rattle.read_lc.specs.Lc.{start_at, row_at, rows, lc, start_of}
use Rattle.read_lc.proofs.Laws.{start_whole, row_as, lc_open}
use Rattle.house_cells.specs.Cells.{Cell, cells, cells_at, news}
use Rattle.house_cells.specs.declared.Sought.TheVariants.{Unchanged}
use Rattle.house_cells.proofs.CellLaws.{olds, Sized, sized_take, sized_drop, olds_append, news_append, length_olds, sized_cells, length_cells, olds_cells, news_cells, part_cells}
use Rattle.house_cells.proofs.RunLaws.{run_le, run_kept}
use Rattle.house_packets.specs.Packets.{bytes}
use Rattle.house_packets.proofs.Turns.{row_turns}
use Rattle.house_packets.proofs.PacketsBack.{packets_give}
use Rattle.house_lc.specs.Line.{line_packets, line}
use Rattle.house_lc.specs.Delta.{first_row, row_count, delta_body}
use Rattle.house_lc.proofs.LineLaws.{pixels_form}
use Rattle.house_lc.proofs.RowLaws.{last_le, last_kept, first_is, count_is, body_is}

module _ (w : ℕ) (b : List ℕ) where
  -- the line of a row
  line_gives : (r : Cell) → length r.old ≡ w → length r.new ≡ w → (row at : ℕ) (pre post more : List ℕ) → drop at b ≡ line w r ++ more → length pre ≡ row * w
      → Gives (row_at w b row at) (at + length (line w r)) (pre ++ (r.old ++ post)) (pre ++ (r.new ++ post))
  unfolding line
  line_gives r lo ln row at pre post more there lp =
      let ps = line_packets w r in
      let bs = bytes ps ++ more in
      let count : get_or b at 0 ≡ length ps = ap (λ (i : ℕ). get_or b i 0) (sym (add-zero at)) ∙ there_byte b (length ps ∷ bs) at 0 (length ps) there refl in
      let start : start_at b at ≡ Ok (start_of (length ps) (at + 1)) =
      start_whole b at (there_long b (length ps ∷ bs) at 1 there (omega arith) (omega arith)) ∙ ap (λ (n : ℕ). Ok (start_of n (at + 1))) count in
      let all : (l : List ℕ) → length l ≡ w → take (w * 1) l ≡ l = (λ l (e : length l ≡ w). take_all (w * 1) l (omega arith)) in
      gives_as (row_as w b row at (Ok (start_of (length ps) (at + 1))) start)
      (gives_to refl (ap (λ (l : List ℕ). pre ++ (l ++ post)) (all r.old lo)) (ap (λ (l : List ℕ). pre ++ (l ++ post)) (all r.new ln))
      (packets_give 1 w b (row_turns 1 3 255 pixels_form w r.old r.new (omega arith) (omega arith)) row (at + 1) 0 more pre post (at + length (line w r))
      (there_drop b (length ps ∷ []) bs at 1 there refl) (omega arith) (omega (arith, ap length (all r.old lo))) (omega arith)))

  -- rows that follow one another
  rows_give : (rs : List Cell) → Sized w rs → (row at : ℕ) (pre post : List ℕ) → drop at b ≡ flat_map (line w) rs → length pre ≡ row * w
      → Gives (rows w b (length rs) row at) (at + length (flat_map (line w) rs)) (pre ++ (olds rs ++ post)) (pre ++ (news rs ++ post))
  unfolding rows flat_map
  rows_give [] z row at pre post there lp = gives_to (omega arith) refl refl (gives_ends at (pre ++ post))
  rows_give (r ∷ rs) z row at pre post there lp =
      let l = length (line w r) in
      let ls = length-append (line w r) (flat_map (line w) rs) in
      gives_to refl (ap (λ (x : List ℕ). pre ++ x) (sym (append_assoc r.old (olds rs) post))) (simp append_assoc)
      (gives_followed (λ end. rows w b (length rs) (row + 1) end)
      (line_gives r z.0 z.1 row at pre (olds rs ++ post) (flat_map (line w) rs) there lp)
      (gives_to (omega arith) (append_assoc pre r.new (olds rs ++ post)) refl
      (rows_give rs z.2 (row + 1) (at + l) (pre ++ r.new) post (there_drop b (line w r) (flat_map (line w) rs) at l there refl)
      (omega (arith, length-append pre r.new, z.1)))))

-- the body

module _ (w h : ℕ) (p q : List ℕ) where
  -- all rows, the first of those that have lines, how many these are
  abbrev all : List Cell
  all = cells w h p q

  abbrev f : ℕ
  f = first_row w h p q

  abbrev n : ℕ
  n = row_count w h p q

  -- the rows that have lines, and those before and behind them
  abbrev lined : List Cell
  lined = cells_at w f n p q

  abbrev before : List Cell
  before = take f all

  abbrev behind : List Cell
  behind = drop (f + n) all

  inside : f + n ≤ h
  inside = omega (arith, first_is w h p q, count_is w h p q, run_le Unchanged all, last_le all, length_cells w h p q)

  parts : before ++ (lined ++ behind) ≡ all
  parts =
      ap (λ (l : List Cell). before ++ l)
      (sym (ap₂ (λ (x y : List Cell). x ++ y) (part_cells w h f n p q inside) (drop-drop n f all)) ∙ take-append-drop n (drop f all))
      ∙ take-append-drop f all

  before_kept : olds before ≡ news before
  before_kept = rw (first_is w h p q) (run_kept all)

  behind_kept : olds behind ≡ news behind
  behind_kept = last_kept all (f + n) (omega (arith, count_is w h p q))

  module _ (lp : length p ≡ w * h) (lq : length q ≡ w * h) where
    was : olds before ++ (olds lined ++ olds behind) ≡ p
    was =
        sym (olds_append before (lined ++ behind) ∙ ap (λ (l : List ℕ). olds before ++ l) (olds_append lined behind))
        ∙ ap olds parts ∙ olds_cells w h p q ∙ take_all (h * w) p (omega arith)

    is_to_be : olds before ++ (news lined ++ olds behind) ≡ q
    is_to_be =
        ap₂ (λ (x y : List ℕ). x ++ (news lined ++ y)) before_kept behind_kept
        ∙ sym (news_append before (lined ++ behind) ∙ ap (λ (l : List ℕ). news before ++ l) (news_append lined behind))
        ∙ ap news parts ∙ news_cells w h p q ∙ take_all (h * w) q (omega arith)

    pub delta_reads_back : Gives (lc w h (delta_body w h p q)) (length (delta_body w h p q)) p q
    delta_reads_back =
        let b = delta_body w h p q in
        let ls = flat_map (line w) lined in
        let is : b ≡ le16 f (le16 n ls) = sym (body_is w h p q f n refl refl) in
        let lb = ap length is in
        let sized = sized_cells w h p q (omega arith) (omega arith) in
        let sized-lined = subst (Sized w) (part_cells w h f n p q inside) (sized_take w n (drop f all) (sized_drop w f all sized)) in
        let lo = length_olds w before (sized_take w f all sized) ∙ ap (λ (i : ℕ). w * i) (length-take-le f all (omega (arith, inside, length_cells w h p q))) in
        gives_as
        (lc_open w h b f n (omega arith) (sym (there_le16 b (le16 n ls) 0 f is))
        (sym (there_le16 b ls 2 n (there_drop b (le16 f []) (le16 n ls) 0 2 is refl))) inside
        ∙ ap (λ (i : ℕ). rows w b i f 4) (sym (length_cells w n (drop (f * w) p) (drop (f * w) q))))
        (gives_to (omega arith) was is_to_be
        (rows_give w b lined sized-lined f 4 (olds before) (olds behind) (there_drop b (le16 f (le16 n [])) ls 0 4 is refl) (omega arith)))
