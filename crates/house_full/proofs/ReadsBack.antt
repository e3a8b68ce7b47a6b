-- The full chunks read back: the walk over each body has no fault, ends at the body's end, and turns any picture of that size into the one written.
-- The idea: what encodes a row is read packet by packet (`encoded_shows`), the house row encodes it, and rows follow each other (`rows_show`).
use mathlib.Core.Path.{◌≡◌, refl, sym, ap, ap₂, ◌∙◌, subst}
use mathlib.Core.List.{List, [], ◌∷◌, ◌++◌, append_assoc, append-nil}
use mathlib.Core.Bool.{true}
use Prim.Native.Nat.{ℕ, zero, suc, ◌+◌, ◌-◌, ◌*◌, ◌≤◌, min}
use native.Mathlib.Omega.{arith}
use native.Mathlib.Nat.{add-zero}
use lib.ListN.{length, take, drop, get_or, replicate, length-append, length-drop, length-replicate, take-append-drop, drop_of_length-le}
use lib.Seq.{length-take-le, take_all}
use Rattle.std.specs.Prelude.{Ok}
use Rattle.words.specs.Words.{magnitude}
use Rattle.words.specs.Writes.{put}
use Rattle.words.proofs.Laws.{magnitude_plus, magnitude_minus, put_front, same_eq}
use Rattle.words.proofs.There.{there_drop, there_take, there_byte, there_long}
use Rattle.walk.proofs.Gives.{Gives, gives_ends, gives_then, gives_as}
use Rattle.walk.specs.Walk.{ends, and_then}
use Rattle.read_brun.specs.Brun.{packet_to, Run, run_before, data_bytes, pixels, packet_at, packets, row, rows, brun}
use Rattle.read_brun.proofs.Laws.{data_repeat, data_copy, pixels_repeat, pixels_copy, packet_whole, packets_none, packets_more, row_open, rows_none, rows_more, brun_verdict, brun_applied}
use Rattle.read_full.specs.Full.{black, copied}
use Rattle.read_full.proofs.Laws.{copied_whole}
use Rattle.house_rows.specs.Row.{house, house_bytes, Encodes, none, repeated, copied as copied-in}
use Rattle.house_rows.proofs.RowRule.{house_encodes}
use Rattle.house_full.specs.Full.{brun_row, brun_body, all_zero}
use Rattle.house_full.proofs.Laws.{body_none, body_more}

-- a run with no fault, whose data ends at end and whose pixels are s
pub record Shows (r : Run) (end : ℕ) (s : List ℕ) : Type 0 where
  pub ended : r.verdict ≡ Ok end
  pub shown : r.pixels ≡ s

shows_as : {r r' : Run} {end : ℕ} {s : List ℕ} → r ≡ r' → Shows r' end s → Shows r end s
shows_as {r} {r'} {end} {s} e g = subst (λ (x : Run). Shows x end s) (sym e) g

shows_before : {r : Run} {end : ℕ} {s : List ℕ} (px v : List ℕ) → px ≡ v → Shows r end s → Shows (run_before px r) end (v ++ s)
shows_before px v e g = record { ended = g.ended; shown = ap₂ (λ (x y : List ℕ). x ++ y) e g.shown }

empty : {A : Type 0} (l : List A) → length l ≤ 0 → l ≡ []
empty [] h = refl
empty (x ∷ l) h = absurd (omega arith)

module _ (b : List ℕ) where
  -- a packet of type t that gives the pixels v, where left columns are left, and rest after it
  packet_shows : (left rest at t : ℕ) (more v s : List ℕ) (end : ℕ) → drop at b ≡ t ∷ more → 1 ≤ magnitude t → magnitude t + rest ≡ left
      → data_bytes t ≤ length more
      → pixels b (at + 1) t ≡ v → Shows (packets b rest 0 (at + 1 + data_bytes t)) end s → Shows (packets b left 0 at) end (v ++ s)
  packet_shows left rest at t more v s end e some fill ld px after =
      let byte : get_or b at 0 ≡ t = ap (λ (i : ℕ). get_or b i 0) (sym (add-zero at)) ∙ there_byte b (t ∷ more) at 0 t e refl in
      let one : at + 1 ≤ length b = there_long b (t ∷ more) at 1 e (omega arith) (omega arith) in
      let there : at + (1 + data_bytes t) ≤ length b = there_long b (t ∷ more) at (1 + data_bytes t) e (omega arith) (omega arith) in
      let n : left - magnitude t ≡ rest = omega arith in
      let p : packet_at b at left ≡ Ok (packet_to t (magnitude t) (at + 1 + data_bytes t)) =
      subst
      (λ (x : ℕ). 1 ≤ magnitude x → magnitude x ≤ left → at + 1 + data_bytes x ≤ length b → packet_at b at left
      ≡ Ok (packet_to x (magnitude x) (at + 1 + data_bytes x))) byte
      (packet_whole b at left one) some (omega arith) (omega arith) in
      shows_as (packets_more b left at (omega arith) t (magnitude t) (at + 1 + data_bytes t) p some (omega arith))
      (shows_before (pixels b (at + 1) t) v px (shows_as (ap (λ (k : ℕ). packets b k 0 (at + 1 + data_bytes t)) n) after))

  -- what encodes a row is read as that row
  pub encoded_shows : {bs s : List ℕ} → Encodes bs s → (at : ℕ) (more : List ℕ) (end : ℕ) → drop at b ≡ bs ++ more → end ≡ at + length bs
      → Shows (packets b (length s) 0 at) end s
  encoded_shows none at more end e ee = shows_as (packets_none b 0 at (omega arith)) (record { ended = ap Ok (omega arith); shown = refl })
  encoded_shows (repeated {bs} {s} n v l h c) at more end e ee =
      let m : magnitude n ≡ n = magnitude_plus n (omega arith) in
      let d : data_bytes n ≡ 1 = data_repeat n (omega arith) in
      packet_shows (length (replicate n v ++ s)) (length s) at n (v ∷ (bs ++ more)) (replicate n v) s end e (omega arith)
      (omega (arith, length-append (replicate n v) s, length-replicate n v)) (omega arith)
      (pixels_repeat b (at + 1) n (omega arith) ∙ ap (λ (x : ℕ). replicate n x) (there_byte b (n ∷ v ∷ (bs ++ more)) at 1 v e refl))
      (encoded_shows c (at + 1 + data_bytes n) more end
      (there_drop b (v ∷ []) (bs ++ more) (at + 1) (data_bytes n) (there_drop b (n ∷ []) (v ∷ (bs ++ more)) at 1 e refl) (omega arith)) (omega arith))
  encoded_shows (copied-in {bs} {s} vs l h c) at more end e ee =
      let t = 256 - length vs in
      let m : magnitude t ≡ length vs = magnitude_minus t (omega arith) ∙ omega arith in
      let d : data_bytes t ≡ length vs = data_copy t (omega arith) ∙ omega arith in
      let back : 256 - t ≡ length vs = omega arith in
      let e' : drop at b ≡ t ∷ (vs ++ (bs ++ more)) = e ∙ ap (λ (x : List ℕ). t ∷ x) (append_assoc vs bs more) in
      let data' : drop (at + 1) b ≡ vs ++ (bs ++ more) = there_drop b (t ∷ []) (vs ++ (bs ++ more)) at 1 e' refl in
      packet_shows (length (vs ++ s)) (length s) at t (vs ++ (bs ++ more)) vs s end e' (omega arith)
      (omega (arith, length-append vs s)) (omega (arith, length-append vs (bs ++ more)))
      (pixels_copy b (at + 1) t (omega arith) ∙ ap (λ (i : ℕ). take i (drop (at + 1) b)) back ∙ there_take b vs (bs ++ more) (at + 1) (length vs) data' refl)
      (encoded_shows c (at + 1 + data_bytes t) more end (there_drop b vs (bs ++ more) (at + 1) (data_bytes t) data' (sym d))
      (omega (arith, length-append vs bs)))

  row_shows : (w : ℕ) (s more : List ℕ) (at : ℕ) → length s ≡ w → drop at b ≡ brun_row s ++ more → Shows (row w b at) (at + length (brun_row s)) s
  unfolding brun_row
  row_shows w s more at l e =
      let c = min 255 (length (house s)) in
      shows_as (row_open w b at (there_long b (c ∷ (house_bytes s ++ more)) at 1 e (omega arith) (omega arith))
      ∙ ap (λ (k : ℕ). packets b k 0 (at + 1)) (sym l))
      (encoded_shows (house_encodes s) (at + 1) more (at + length (brun_row s)) (there_drop b (c ∷ []) (house_bytes s ++ more) at 1 e refl) (omega arith))

  -- rows one after the other
  rows_show : (w h : ℕ) (q : List ℕ) (at end : ℕ) → length q ≡ w * h → drop at b ≡ brun_body w h q → end ≡ at + length (brun_body w h q)
      → Shows (rows w b h at) end q
  rows_show w zero q at end l e ee =
      shows_as (rows_none w b 0 at (omega arith))
      (record { ended = ap Ok (omega (arith, ap length (body_none w q))); shown = sym (empty q (omega arith)) })
  rows_show w (suc h) q at end l e ee =
      let s = take w q in
      let rest = brun_body w h (drop w q) in
      let e' : drop at b ≡ brun_row s ++ rest = e ∙ body_more w h q in
      let g = row_shows w s rest at (length-take-le w q (omega arith)) e' in
      let n : suc h - 1 ≡ h = omega arith in
      shows_as (rows_more w b (suc h) at (omega arith) (at + length (brun_row s)) g.ended
      ∙ ap (λ (k : ℕ). run_before (row w b at).pixels (rows w b k (at + length (brun_row s)))) n)
      (subst (λ (x : List ℕ). Shows (run_before (row w b at).pixels (rows w b h (at + length (brun_row s)))) end x) (take-append-drop w q)
      (shows_before (row w b at).pixels s g.shown
      (rows_show w h (drop w q) (at + length (brun_row s)) end (omega (arith, length-drop w q))
      (there_drop b (brun_row s) rest at (length (brun_row s)) e' refl)
      (omega (arith, ap length (body_more w h q), length-append (brun_row s) rest)))))

-- a whole picture stored
pub put_whole : (p q : List ℕ) → length q ≡ length p → put p 0 q ≡ q
put_whole p q e = put_front p q ∙ ap (λ (x : List ℕ). q ++ x) (drop_of_length-le p {i = length q} (omega arith)) ∙ append-nil q

module _ (w h : ℕ) (p q : List ℕ) (lp : length p ≡ w * h) (lq : length q ≡ w * h) where
  pub brun_reads_back : Gives (brun w h (brun_body w h q)) (length (brun_body w h q)) p q
  brun_reads_back =
      let b = brun_body w h q in
      let s = rows_show b w h q 0 (length b) lq refl (omega arith) in
      record {
        ended = brun_verdict w h b ∙ s.ended;
        result = brun_applied w h b p ∙ ap (put p 0) s.shown ∙ put_whole p q (omega arith);
      }

  pub copy_reads_back : Gives (copied (w * h) q) (length q) p q
  copy_reads_back =
      gives_as (copied_whole (w * h) q (omega arith) ∙ ap₂ (λ (v : List ℕ) (n : ℕ). and_then 0 v (ends n)) (take_all (w * h) q (omega arith)) (sym lq))
      (gives_then 0 q q (put_whole p q (omega arith)) (gives_ends (length q) q))

  pub black_reads_back : all_zero q ≡ true → Gives (black (w * h)) 0 p q
  unfolding black all_zero
  black_reads_back z =
      let e : q ≡ replicate (w * h) 0 = same_eq q (replicate (length q) 0) z ∙ ap (λ (n : ℕ). replicate n 0) lq in
      gives_then 0 (replicate (w * h) 0) q (ap (put p 0) (sym e) ∙ put_whole p q (omega arith)) (gives_ends 0 q)
