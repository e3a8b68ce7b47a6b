-- A line reads back: its words say what they were written for, and its packets turn the row (`Turns`, in house_packets).
use mathlib.Core.Path.{◌≡◌, refl, sym, ap, ◌∙◌}
use mathlib.Core.List.{List, [], ◌∷◌, ◌++◌, append_assoc}
use mathlib.Core.Bool.{Bool, true, false, not, cond}
use Prim.Native.Nat.{ℕ, suc, ◌+◌, ◌-◌, ◌*◌, ◌/◌, ◌%◌, ◌≤◌, ◌<◌}
use native.Mathlib.Omega.{arith}
use lib.Dec.{eqb}
use lib.ListN.{length, take, drop, get_or, length-append, take-append-drop, drop_of_length-le}
use lib.Seq.{length-take-le, drop-cons}
use borrow.Author.Tests.{lt-ltb, eqb-true, eqb-false, not-false}
use Rattle.std.specs.Prelude.{Some, None, Ok}
use Rattle.words.specs.Words.{le16, Bytes}
use Rattle.words.specs.Writes.{put}
use Rattle.words.proofs.Laws.{false_not_true, bytes_get_d}
use Rattle.words.proofs.There.{there_drop, there_long, there_word, there_le16, put_at}
use Rattle.words.proofs.Tests.{by_test}
use Rattle.format.specs.Limits.{Wide}
use Rattle.walk.proofs.Gives.{Gives, gives_then, gives_followed, gives_as, gives_to}
use Rattle.read_packets.specs.Packets as walk
use Rattle.read_ss2.specs.Ss2.{by_high, word_of, line_at, line_walk, LastPixel}
use Rattle.read_ss2.specs.declared.Word.TheVariants.{Count, Last, Skip}
use Rattle.read_ss2.specs.declared.Line.TheVariants.{Row}
use Rattle.read_ss2.proofs.Laws.{last_there, line_there, lines_from, lines_row}
use Rattle.house_cells.specs.Cells.{Cell}
use Rattle.house_packets.specs.Packets.{Packet, bytes}
use Rattle.house_packets.proofs.Turns.{Turns, turns_count, row_turns}
use Rattle.house_packets.proofs.PacketsBack.{packets_give}
use Rattle.house_ss2.specs.Line.{line_packets, counted, last_changes, line}
use Rattle.house_ss2.proofs.LineLaws.{pairs_form}

-- words

word_count : (n : ℕ) → n < 16384 → Count n ≡ word_of n
unfolding word_of
word_count n h = let q : 0 ≡ n / 16384 = omega arith in ap (λ (i : ℕ). by_high i n) q

word_last : (v : ℕ) → v < 256 → Last v ≡ word_of (v + 256 * 128)
unfolding word_of
word_last v h =
    let q : 2 ≡ (v + 256 * 128) / 16384 = omega arith in
    let r : v ≡ (v + 256 * 128) % 256 = omega arith in
    ap Last r ∙ ap (λ (i : ℕ). by_high i (v + 256 * 128)) q

pub word_down : (g : ℕ) → 1 ≤ g → g ≤ 16384 → Skip g ≡ word_of (65536 - g)
unfolding word_of
word_down g l h =
    let q : 3 ≡ (65536 - g) / 16384 = omega arith in
    let r : g ≡ 65536 - (65536 - g) = omega arith in
    ap Skip r ∙ ap (λ (i : ℕ). by_high i (65536 - g)) q

module _ (w h : ℕ) (b : List ℕ) where
  -- a packet count
  line_kept : (at row n : ℕ) (more : List ℕ) → drop at b ≡ le16 n more → n < 16384 → row < h → line_at h b at row ≡ Ok (Row None n (at + 2))
  line_kept at row n more e few r =
      line_there h b at row (Count n) (there_long b (le16 n more) at 2 e (omega arith) (omega arith))
      (word_count n few ∙ ap word_of (sym (there_le16 b more at n e)))
      ∙ simp (lt-ltb row h r)

  -- a last-pixel word and a packet count
  line_set : (at row v n : ℕ) (more : List ℕ) → drop at b ≡ v ∷ 128 ∷ le16 n more → v < 256 → n < 16384 → row < h → line_at h b at row
      ≡ Ok (Row (Some v) n (at + 2 + 2))
  line_set at row v n more e small few r =
      let e' : drop (at + 2) b ≡ le16 n more = there_drop b (v ∷ 128 ∷ []) (le16 n more) at 2 e refl in
      line_there h b at row (Last v) (there_long b (v ∷ 128 ∷ le16 n more) at 2 e (omega arith) (omega arith))
      (word_last v small ∙ ap word_of (sym (there_word b (le16 n more) at v 128 (v + 256 * 128) e refl)))
      ∙ simp (lt-ltb row h r)
      (last_there b (at + 2) v (Count n) (there_long b (le16 n more) (at + 2) 2 e' (omega arith) (omega arith))
      (word_count n few ∙ ap word_of (sym (there_le16 b more (at + 2) n e'))))

  -- a line, and then the lines after it
  row_gives : (last : LastPixel) (row at c from m n end : ℕ) (d d' e : List ℕ) → line_at h b at row ≡ Ok (Row last c from) → row < h
      → Gives (line_walk w b row last c from) m d d' → Gives (lines_from w h b n (row + 1) m) end d' e → Gives (lines_from w h b (suc n) row at) end d e
  row_gives last row at c from m n end d d' e l r here below =
      let less : suc n - 1 ≡ n = omega arith in
      gives_as (lines_row w h b (suc n) row at (omega arith) last c from l r (line_walk w b row last c from).verdict refl)
      (gives_followed (λ end'. lines_from w h b (suc n - 1) (row + 1) end') here (gives_as (ap (λ (j : ℕ). lines_from w h b j (row + 1) m) less) below))

  walk_kept : (row c from : ℕ) → line_walk w b row None c from ≡ walk.packets 2 w b c row from 0
  unfolding line_walk
  walk_kept row c from = refl

  -- the last pixel set
  set_gives : (row v o c from end : ℕ) (pre s post e : List ℕ) → length pre ≡ row * w → length s ≡ w - 1
      → Gives (walk.packets 2 w b c row from 0) end (pre ++ (s ++ (v ∷ post))) e → Gives (line_walk w b row (Some v) c from) end (pre ++ (s ++ (o ∷ post))) e
  unfolding line_walk
  set_gives row v o c from end pre s post e lp ls g =
      gives_then (row * w + (w - 1)) (v ∷ []) (pre ++ (s ++ (v ∷ post)))
      (ap (λ (l : List ℕ). put l (row * w + (w - 1)) (v ∷ [])) (sym (append_assoc pre s (o ∷ post)))
      ∙ put_at (pre ++ s) (o ∷ []) (v ∷ []) post (row * w + (w - 1)) (omega (arith, length-append pre s)) refl
      ∙ append_assoc pre s (v ∷ post)) g

-- the columns after the last pair

tail_odd : (w : ℕ) (l : List ℕ) → length l ≡ w → (w % 2 ≡ 0 → ⊥) → drop (w / 2 * 2) l ≡ get_or l (w - 1) 0 ∷ []
tail_odd w l e odd =
    let q : w / 2 * 2 ≡ w - 1 = omega arith in
    ap (λ (j : ℕ). drop j l) q ∙ drop-cons l (w - 1) 0 (omega arith)
    ∙ ap (λ (x : List ℕ). get_or l (w - 1) 0 ∷ x) (drop_of_length-le l {i = suc (w - 1)} (omega arith))

module _ (w : ℕ) (r : Cell) (lo : length r.old ≡ w) (ln : length r.new ≡ w) where
  -- an odd width
  last_odd : last_changes w r ≡ true → w % 2 ≡ 0 → ⊥
  unfolding last_changes
  last_odd e z =
      by_test (λ t. cond t false (not (eqb (get_or r.old (w - 1) 0) (get_or r.new (w - 1) 0))) ≡ true → ⊥) (eqb (w % 2) 0)
      (λ f e. false_not_true e) (λ f e. eqb-false (w % 2) 0 f z) e

  -- without a last-pixel word they stay as they are
  tail_kept : last_changes w r ≡ false → drop (w / 2 * 2) r.old ≡ drop (w / 2 * 2) r.new
  unfolding last_changes
  tail_kept e =
      by_test (λ t. cond t false (not (eqb (get_or r.old (w - 1) 0) (get_or r.new (w - 1) 0))) ≡ false → drop (w / 2 * 2) r.old
      ≡ drop (w / 2 * 2) r.new) (eqb (w % 2) 0)
      (λ f e. none r.old lo (eqb-true (w % 2) 0 f) ∙ sym (none r.new ln (eqb-true (w % 2) 0 f)))
      (λ f e.
      tail_odd w r.old lo (eqb-false (w % 2) 0 f)
      ∙ ap (λ (x : ℕ). x ∷ [])
      (eqb-true (get_or r.old (w - 1) 0) (get_or r.new (w - 1) 0) (not-false (eqb (get_or r.old (w - 1) 0) (get_or r.new (w - 1) 0)) e))
      ∙ sym (tail_odd w r.new ln (eqb-false (w % 2) 0 f))) e
    where
      none : (l : List ℕ) → length l ≡ w → w % 2 ≡ 0 → drop (w / 2 * 2) l ≡ []
      none l k z = drop_of_length-le l {i = w / 2 * 2} (omega arith)

-- the line of a row

line_is : (w : ℕ) (r : Cell) (t : Bool) → last_changes w r ≡ t
    → line w r ≡ cond t (get_or r.new (w - 1) 0 ∷ 128 ∷ le16 (length (line_packets w r)) (bytes (line_packets w r)))
    (le16 (length (line_packets w r)) (bytes (line_packets w r)))
unfolding line counted
line_is w r t e =
    ap (λ (b : Bool). cond b (get_or r.new (w - 1) 0 ∷ 128 ∷ le16 (length (line_packets w r)) (bytes (line_packets w r)))
    (le16 (length (line_packets w r)) (bytes (line_packets w r)))) e

pub line_gives : (w h : ℕ) (b : List ℕ) (r : Cell) → 1 ≤ w → Wide w → length r.old ≡ w → length r.new ≡ w → Bytes r.new
    → (row at n : ℕ) (pre post more : List ℕ) (end : ℕ) (e : List ℕ) → row < h → drop at b ≡ line w r ++ more → length pre ≡ row * w
    → Gives (lines_from w h b n (row + 1) (at + length (line w r))) end (pre ++ (r.new ++ post)) e
    → Gives (lines_from w h b (suc n) row at) end (pre ++ (r.old ++ post)) e
line_gives w h b r some wide lo ln small row at n pre post more end e rh there lp below =
    by_test (λ _. Gives (lines_from w h b (suc n) row at) end (pre ++ (r.old ++ post)) e) (last_changes w r) set kept
  where
    ps : List Packet
    ps = line_packets w r

    half : ℕ
    half = w / 2 * 2

    s : List ℕ
    s = take half r.old

    t : List ℕ
    t = take half r.new

    turns : Turns 2 ps s t
    turns = row_turns 2 2 254 pairs_form (w / 2) r.old r.new (omega arith) (omega arith)

    ls : length s ≡ half
    ls = length-take-le half r.old (omega arith)

    few : length ps < 16384
    few = omega (arith, turns_count turns, ls)

    -- the row's pixels are its pairs and what is behind them
    parts : (l : List ℕ) → l ++ post ≡ take half l ++ (drop half l ++ post)
    parts l = ap (λ (x : List ℕ). x ++ post) (sym (take-append-drop half l)) ∙ append_assoc (take half l) (drop half l) post

    kept : last_changes w r ≡ false → Gives (lines_from w h b (suc n) row at) end (pre ++ (r.old ++ post)) e
    kept f =
        let is = line_is w r false f in
        let there' : drop at b ≡ le16 (length ps) (bytes ps ++ more) = there ∙ ap (λ (l : List ℕ). l ++ more) is in
        let m = at + 2 + length (bytes ps) in
        let to : at + length (line w r) ≡ m = omega (arith, ap length is) in
        let tail = drop half r.old ++ post in
        gives_to refl (ap (λ (l : List ℕ). pre ++ l) (sym (parts r.old))) refl
        (row_gives w h b None row at (length ps) (at + 2) m n end (pre ++ (s ++ tail)) (pre ++ (t ++ tail)) e
        (line_kept w h b at row (length ps) (bytes ps ++ more) there' few rh) rh
        (gives_as (walk_kept w h b row (length ps) (at + 2))
        (packets_give 2 w b turns row (at + 2) 0 more pre tail m (there_drop b (le16 (length ps) []) (bytes ps ++ more) at 2 there' refl) refl
        (omega (arith, ls)) (omega arith)))
        (gives_as (ap (λ (j : ℕ). lines_from w h b n (row + 1) j) (sym to))
        (gives_to refl (ap (λ (l : List ℕ). pre ++ l) (parts r.new ∙ ap (λ (x : List ℕ). t ++ (x ++ post)) (sym (tail_kept w r lo ln f)))) refl below)))

    set : last_changes w r ≡ true → Gives (lines_from w h b (suc n) row at) end (pre ++ (r.old ++ post)) e
    set f =
        let is = line_is w r true f in
        let v = get_or r.new (w - 1) 0 in
        let o = get_or r.old (w - 1) 0 in
        let odd = last_odd w r lo ln f in
        let there' : drop at b ≡ v ∷ 128 ∷ le16 (length ps) (bytes ps ++ more) = there ∙ ap (λ (l : List ℕ). l ++ more) is in
        let m = at + 2 + 2 + length (bytes ps) in
        let to : at + length (line w r) ≡ m = omega (arith, ap length is) in
        let four : at + 4 ≡ at + 2 + 2 = omega arith in
        gives_to refl (ap (λ (l : List ℕ). pre ++ l) (sym (parts r.old ∙ ap (λ (x : List ℕ). s ++ (x ++ post)) (tail_odd w r.old lo odd)))) refl
        (row_gives w h b (Some v) row at (length ps) (at + 2 + 2) m n end (pre ++ (s ++ (o ∷ post))) (pre ++ (t ++ (v ∷ post))) e
        (line_set w h b at row v (length ps) (bytes ps ++ more) there' (bytes_get_d r.new (w - 1) small) few rh) rh
        (set_gives w h b row v o (length ps) (at + 2 + 2) m pre s post (pre ++ (t ++ (v ∷ post))) lp (omega (arith, odd, ls))
        (packets_give 2 w b turns row (at + 2 + 2) 0 more pre (v ∷ post) m
        (ap (λ (j : ℕ). drop j b) (sym four) ∙ there_drop b (v ∷ 128 ∷ le16 (length ps) []) (bytes ps ++ more) at 4 there' refl) refl
        (omega (arith, ls)) (omega arith)))
        (gives_as (ap (λ (j : ℕ). lines_from w h b n (row + 1) j) (sym to))
        (gives_to refl (ap (λ (l : List ℕ). pre ++ l) (parts r.new ∙ ap (λ (x : List ℕ). t ++ (x ++ post)) (tail_odd w r.new ln odd))) refl below)))
