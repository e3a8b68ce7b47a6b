-- A delta chunk reads back: its walk has no fault, ends at the body's end, and its writes turn the previous picture into the next.
-- The rows are gaps and stretches (`split`). A skip word leads over a gap, which stays as it is, and a line for each row of a stretch sets its pixels.
use mathlib.Core.Path.{◌≡◌, refl, sym, ap, ap₂, ◌∙◌, subst}
use mathlib.Core.List.{List, [], ◌∷◌, ◌++◌, append_assoc, flat_map}
use Prim.Native.Nat.{ℕ, zero, suc, ◌+◌, ◌-◌, ◌*◌, ◌≤◌, ◌<◌}
use native.Mathlib.Omega.{arith}
use lib.ListN.{length, drop, length-append}
use lib.Seq.{take_all}
use borrow.Author.Tests.{lt-ltb}
use Rattle.std.specs.Prelude.{Ok}
use Rattle.words.specs.Words.{le16, Bytes}
use Rattle.words.proofs.Laws.{bytes_append}
use Rattle.words.proofs.There.{there_drop, there_long, there_le16}
use Rattle.format.specs.Limits.{Wide, High}
use Rattle.walk.proofs.Gives.{Gives, gives_ends, gives_as, gives_to}
use Rattle.read_ss2.specs.Ss2.{word_of, line_at, ss2}
use Rattle.read_ss2.specs.declared.Word.TheVariants.{Skip}
use Rattle.read_ss2.specs.declared.Line.TheVariants.{Down}
use Rattle.read_ss2.proofs.Laws.{line_there, lines_from, lines_none, lines_down, ss2_open}
use Rattle.house_cells.specs.Cells.{Cell, cells, news, Stretch, stretches}
use Rattle.house_cells.proofs.CellLaws.{olds, Sized, sized_append, olds_append, news_append, length_olds, length_news, sized_cells, length_cells, olds_cells, news_cells, Split, rest, part, split}
use Rattle.house_ss2.specs.Line.{line}
use Rattle.house_ss2.specs.Delta.{lines, skip_word, stretch_lines, changed_rows, line_count, delta_body}
use Rattle.house_ss2.proofs.LineBack.{word_down, line_gives}

module _ (w h : ℕ) (b : List ℕ) where
  lines_at : (n n' row row' at at' : ℕ) → n ≡ n' → row ≡ row' → at ≡ at' → lines_from w h b n row at ≡ lines_from w h b n' row' at'
  lines_at n n' row row' at at' c d e =
      ap (λ (x : ℕ). lines_from w h b x row at) c ∙ ap₂ (λ (x y : ℕ). lines_from w h b n' x y) d e

  -- rows that follow one another
  lines_give : (rs : List Cell) → 1 ≤ w → Wide w → Sized w rs → Bytes (news rs) → (row at n n' : ℕ) (pre post more : List ℕ) (end : ℕ) (e : List ℕ)
      → n' ≡ length rs + n → row + length rs ≤ h → drop at b ≡ lines w rs ++ more → length pre ≡ row * w
      → Gives (lines_from w h b n (row + length rs) (at + length (lines w rs))) end (pre ++ (news rs ++ post)) e
      → Gives (lines_from w h b n' row at) end (pre ++ (olds rs ++ post)) e
  unfolding flat_map
  lines_give [] some wide z small row at n n' pre post more end e en fits there lp below =
      gives_as (lines_at n' n row (row + 0) at (at + 0) (omega arith) (omega arith) (omega arith)) below
  lines_give (r ∷ rs) some wide z small row at n n' pre post more end e en fits there lp below =
      let l = append_assoc (line w r) (lines w rs) more in
      let sm = bytes_append r.new (news rs) small in
      let ll = length-append (line w r) (lines w rs) in
      let ln = length-append pre r.new in
      gives_as (lines_at n' (suc (length rs + n)) row row at at (omega arith) refl refl)
      (gives_to refl (ap (λ (x : List ℕ). pre ++ x) (sym (append_assoc r.old (olds rs) post))) refl
      (line_gives w h b r some wide z.0 z.1 sm.0 row at (length rs + n) pre (olds rs ++ post) (lines w rs ++ more) end e (omega arith) (there ∙ l) lp
      (gives_to refl (append_assoc pre r.new (olds rs ++ post)) refl
      (lines_give rs some wide z.2 sm.1 (row + 1) (at + length (line w r)) n (length rs + n) (pre ++ r.new) post more end e refl (omega arith)
      (there_drop b (line w r) (lines w rs ++ more) at (length (line w r)) (there ∙ l) refl) (omega (arith, z.1))
      (gives_as (lines_at n n (row + 1 + length rs) (row + suc (length rs)) (at + length (line w r) + length (lines w rs))
      (at + length (line w r ++ lines w rs)) refl (omega arith) (omega arith))
      (gives_to refl (simp append_assoc) refl below))))))

  -- the skip word of a gap of g rows, if there is one
  skip_gives : (g n row at : ℕ) (more d : List ℕ) (end : ℕ) (e : List ℕ) → g ≤ 16384 → row + g < h → drop at b ≡ skip_word g ++ more
      → Gives (lines_from w h b (suc n) (row + g) (at + length (skip_word g))) end d e → Gives (lines_from w h b (suc n) row at) end d e
  unfolding skip_word
  skip_gives zero n row at more d end e few fits there below =
      gives_as (lines_at (suc n) (suc n) row (row + 0) at (at + 0) refl (omega arith) (omega arith)) below
  skip_gives (suc g) n row at more d end e few fits there below =
      let down : line_at h b at row ≡ Ok (Down (suc g)) =
      line_there h b at row (Skip (suc g)) (there_long b (le16 (65536 - suc g) more) at 2 there (omega arith) (omega arith))
      (word_down (suc g) (omega arith) few ∙ ap word_of (sym (there_le16 b more at (65536 - suc g) there)))
      ∙ simp (lt-ltb (row + suc g) h fits) in
      gives_as (lines_down w h b (suc n) row at (omega arith) (suc g) down (omega arith) fits) below

  -- the rows, row row being the next
  rows_give : {ss : List Stretch} {cs : List Cell} → Split ss cs → 1 ≤ w → Wide w → High h → Sized w cs → Bytes (news cs)
      → (row at : ℕ) (pre : List ℕ) (end : ℕ) → row + length cs ≡ h → drop at b ≡ flat_map (stretch_lines w) ss
      → end ≡ at + length (flat_map (stretch_lines w) ss) → length pre ≡ row * w
      → Gives (lines_from w h b (length (flat_map (λ (s : Stretch). s.changed) ss)) row at) end (pre ++ olds cs) (pre ++ news cs)
  unfolding flat_map stretch_lines
  rows_give (rest {cs} q) some wide high z small row at pre end fits there ee lp =
      gives_as (lines_none w h b 0 row at (omega arith)) (gives_to (omega arith) refl (ap (λ (l : List ℕ). pre ++ l) q) (gives_ends at (pre ++ olds cs)))
  rows_give (part {ss} still cs more c q m) some wide high z small row at pre end fits there ee lp =
      let zs = sized_append w still ((c ∷ cs) ++ more) z in
      let zc = sized_append w (c ∷ cs) more zs.1 in
      let sn = bytes_append (news still) (news ((c ∷ cs) ++ more)) (subst Bytes (news_append still ((c ∷ cs) ++ more)) small) in
      let sc = bytes_append (news (c ∷ cs)) (news more) (subst Bytes (news_append (c ∷ cs) more) sn.1) in
      let rs = c ∷ cs in
      let g = length still in
      let front = pre ++ olds still in
      let left = flat_map (λ (s : Stretch). s.changed) ss in
      let lf = length-append pre (olds still) in
      let lo = length_olds w still zs.0 in
      let ln = length_news w rs zc.0 in
      let lfn = length-append front (news rs) in
      let ls = length-append still (rs ++ more) in
      let lm = length-append rs more in
      let lc = length-append cs left in
      let after = flat_map (stretch_lines w) ss in
      let bs = lines w rs ++ after in
      let at' = at + length (skip_word g) in
      let there' : drop at b ≡ skip_word g ++ bs = there ∙ append_assoc (skip_word g) (lines w rs) after in
      let here : drop at' b ≡ bs = there_drop b (skip_word g) bs at (length (skip_word g)) there' refl in
      let la = length-append (skip_word g ++ lines w rs) after in
      let lb = length-append (skip_word g) (lines w rs) in
      gives_to refl
      (sym (ap (λ (l : List ℕ). pre ++ l) (olds_append still (rs ++ more) ∙ ap (λ (l : List ℕ). olds still ++ l) (olds_append rs more))
      ∙ sym (append_assoc pre (olds still) (olds rs ++ olds more))))
      (sym (ap (λ (l : List ℕ). pre ++ l) (news_append still (rs ++ more) ∙ ap₂ (λ (x y : List ℕ). x ++ y) (sym q) (news_append rs more))
      ∙ sym (append_assoc pre (olds still) (news rs ++ news more))))
      (skip_gives g (length (cs ++ left)) row at bs (front ++ (olds rs ++ olds more)) end (front ++ (news rs ++ news more)) (omega arith) (omega arith) there'
      (lines_give rs some wide zc.0 sc.0 (row + g) at' (length left) (suc (length (cs ++ left))) front (olds more) after end
      (front ++ (news rs ++ news more)) (omega arith) (omega arith) here (omega arith)
      (gives_to refl (append_assoc front (news rs) (olds more)) (append_assoc front (news rs) (news more))
      (rows_give m some wide high zc.1 sc.1 (row + g + length rs) (at' + length (lines w rs)) (front ++ news rs) end (omega arith)
      (there_drop b (lines w rs) after at' (length (lines w rs)) here refl) (omega arith) (omega arith)))))

-- the body

pub delta_reads_back : (w h : ℕ) (p q : List ℕ) → 1 ≤ w → Wide w → High h → length p ≡ w * h → length q ≡ w * h → Bytes q
    → Gives (ss2 w h (delta_body w h p q)) (length (delta_body w h p q)) p q
unfolding delta_body line_count changed_rows
delta_reads_back w h p q some wide high lp lq small =
    let cs = cells w h p q in
    let ss = stretches cs in
    let n = length (flat_map (λ (s : Stretch). s.changed) ss) in
    let bs = flat_map (stretch_lines w) ss in
    let b = le16 n bs in
    let was : olds cs ≡ p = olds_cells w h p q ∙ take_all (h * w) p (omega arith) in
    let is : news cs ≡ q = news_cells w h p q ∙ take_all (h * w) q (omega arith) in
    gives_as (ss2_open w h b n (omega arith) (sym (there_le16 b bs 0 n refl)))
    (gives_to refl was is
    (rows_give w h b (split cs) some wide high (sized_cells w h p q (omega arith) (omega arith)) (subst Bytes (sym is) small) 0 2 [] (length b)
    (omega (arith, length_cells w h p q)) refl (omega arith) (omega arith)))
