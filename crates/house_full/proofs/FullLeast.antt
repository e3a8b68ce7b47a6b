-- No single BLACK, BRUN or COPY chunk that the reader takes for a picture is shorter than its full chunk (`full_least`).
-- The idea: the bytes of a row that ends are some encoding of its pixels, packet by packet (`packets_taken`), so no shorter than the house row;
-- with its ignored byte each row, and so the body (`brun_least`), is no shorter than the house's. The full chunk is the shortest of the house's
-- (`full_shortest`).
use mathlib.Core.Path.{◌≡◌, refl, sym, ap, ◌∙◌, subst}
use mathlib.Core.List.{List, [], ◌∷◌, ◌++◌}
use mathlib.Core.Bool.{Bool, true, false, cond}
use Prim.Native.Nat.{ℕ, zero, suc, ◌+◌, ◌-◌, ◌*◌, ◌≤◌}
use native.Mathlib.Omega.{arith}
use lib.Dec.{leb, ltb}
use lib.ListN.{length, take, drop, get_or, replicate, length-append, length-take, length-drop, length-replicate}
use lib.Seq.{length-take-le, take_at, drop_at}
use borrow.Author.Tests.{leb-true, leb-false, ltb-true, ltb-false}
use Rattle.std.specs.Prelude.{Ok, Err}
use Rattle.words.specs.Words.{magnitude, same, chunk}
use Rattle.words.specs.Writes.{put, applied}
use Rattle.words.proofs.Laws.{magnitude_plus, magnitude_minus, length_chunk, same_refl}
use Rattle.format.specs.Format.{FLI_BLACK, FLI_BRUN, FLI_COPY}
use Rattle.walk.specs.Walk.{Walk, ends, and_then, Verdict}
use Rattle.answer.specs.declared.Refusal.TheVariants.{BodyEnds}
use Rattle.walk.proofs.Laws.{VerdictIn, fault_not_end}
use Rattle.walk.proofs.Gives.{Gives}
use Rattle.read_brun.specs.Brun as walk
use Rattle.read_brun.specs.Brun.{BrunStep, run_onward, data_bytes, pixels, packet_at, after_packet, brun}
use Rattle.read_brun.proofs.Laws.{data_repeat, data_copy, pixels_repeat, pixels_copy, PacketIn, packet_in, row_length, brun_sound, brun_verdict, brun_applied}
use Rattle.read_full.specs.Full.{black, copied}
use Rattle.read_full.proofs.Laws.{black_applied, copied_whole, copied_short}
use Rattle.house_rows.specs.Row.{Encodes, none, repeated, copied as copied-in}
use Rattle.house_rows.proofs.RowRule.{house_least}
use Rattle.house_full.specs.Full.{brun_row, brun_body, all_zero, shorter, full_chunk}
use Rattle.house_full.proofs.Laws.{length_row, body_none, body_more, shorter_first, shorter_second}
use Rattle.house_full.proofs.ReadsBack.{put_whole}
use Rattle.words.proofs.Tests.{by_test}

-- what a reader takes for a row

-- a run from at to end is some encoding of its pixels
record Taken (px : List ℕ) (at end : ℕ) : Type 0 where
  bs : List ℕ
  code : Encodes bs px
  place : at + length bs ≡ end

ends_same : {m n : ℕ} → ◌≡◌ {A = Verdict} (Ok m) (Ok n) → m ≡ n
ends_same e = cc

module _ (b : List ℕ) where
  -- a packet, and then an encoding of the rest
  packet_taken : (at t end : ℕ) (px : List ℕ) → 1 ≤ magnitude t → at + 1 + data_bytes t ≤ length b → Taken px (at + 1 + data_bytes t) end
      → Taken (pixels b (at + 1) t ++ px) at end
  packet_taken at t end px some there r =
      by_test (λ x. Taken (pixels b (at + 1) t ++ px) at end) (ltb t 128)
      (λ e.
      let k = ltb-true t 128 e in
      let v = get_or b (at + 1) 0 in
      record {
        bs = t ∷ (v ∷ r.bs);
        code =
            subst (λ (s : List ℕ). Encodes (t ∷ (v ∷ r.bs)) (s ++ px)) (sym (pixels_repeat b (at + 1) t k))
            (repeated t v (omega (arith, magnitude_plus t k)) (omega arith) r.code);
        place = omega (arith, r.place, data_repeat t k);
      })
      (λ e.
      let k = ltb-false t 128 e in
      let vs = take (256 - t) (drop (at + 1) b) in
      let l : length vs ≡ 256 - t = length-take-le (256 - t) (drop (at + 1) b) (omega (arith, length-drop (at + 1) b, data_copy t k)) in
      record {
        bs = (256 - length vs) ∷ (vs ++ r.bs);
        code =
            subst (λ (s : List ℕ). Encodes ((256 - length vs) ∷ (vs ++ r.bs)) (s ++ px)) (sym (pixels_copy b (at + 1) t k))
            (copied-in vs (omega (arith, magnitude_minus t k)) (omega arith) r.code);
        place = omega (arith, r.place, data_copy t k, length-append vs r.bs);
      })

  packets_taken : (left filled at end : ℕ) → filled ≤ left → (walk.packets b left filled at).verdict ≡ Ok end
      → Taken (walk.packets b left filled at).pixels at end
  unfolding walk.packets
  packets_taken zero filled at end h e = record { bs = []; code = none; place = omega (arith, ends_same e) }
  packets_taken (suc left) (suc filled) at end h e = packets_taken left filled at end (omega arith) e
  packets_taken (suc left) zero at end h e =
      at_packet (packet_at b at (suc left)) (packet_in b at (suc left) _ refl) e (λ f to l q. packets_taken left f to end l q)
    where
      at_packet : (p : BrunStep) → PacketIn b at (suc left) p → (after_packet b at p (λ n to. walk.packets b left (n - 1) to)).verdict ≡ Ok end
          → ((f to : ℕ) → f ≤ left → (walk.packets b left f to).verdict ≡ Ok end → Taken (walk.packets b left f to).pixels to end)
          → Taken (after_packet b at p (λ n to. walk.packets b left (n - 1) to)).pixels at end
      at_packet (Err x) i e ih = fault_not_end e
      at_packet (Ok p) i e ih =
          let px = (walk.packets b left (p.count - 1) p.end).pixels in
          packet_taken at p.code end px (omega (arith, i.0, i.2)) (omega (arith, i.3, i.4))
          (subst (λ (x : ℕ). Taken px x end) (sym i.3) (ih (p.count - 1) p.end (omega (arith, i.0, i.1)) e))

  -- a row that ends is no shorter than the house's
  row_least : (w at end : ℕ) → (walk.row w b at).verdict ≡ Ok end → at + length (brun_row (walk.row w b at).pixels) ≤ end
  unfolding walk.row
  row_least w at end e = by_test (leb (at + 1) (length b)) e
    where
      by_test : (x : Bool) → (cond x (walk.packets b w 0 (at + 1)) (walk.run_fault BodyEnds)).verdict ≡ Ok end
          → at + length (brun_row (cond x (walk.packets b w 0 (at + 1)) (walk.run_fault BodyEnds)).pixels) ≤ end
      by_test true e =
          let r = packets_taken w 0 (at + 1) end (omega arith) e in
          let px = (walk.packets b w 0 (at + 1)).pixels in
          omega (arith, r.place, length_row px, house_least r.bs px r.code)
      by_test false e = fault_not_end e

  -- so are rows, which have all pixels
  record Rows (q : List ℕ) (w h at end : ℕ) : Type 0 where
    least : at + length (brun_body w h q) ≤ end
    pixels : length q ≡ w * h

  rows_least : (w h at end : ℕ) → (walk.rows w b h at).verdict ≡ Ok end → Rows (walk.rows w b h at).pixels w h at end
  unfolding walk.rows
  rows_least w zero at end e = record { least = omega (arith, ends_same e, ap length (body_none w [])); pixels = omega arith }
  rows_least w (suc h) at end e = at_row (walk.row w b at).verdict refl e (λ m q. rows_least w h m end q)
    where
      px : List ℕ
      px = (walk.row w b at).pixels

      at_row : (v : Verdict) → (walk.row w b at).verdict ≡ v → (run_onward px v (λ to. walk.rows w b h to)).verdict ≡ Ok end
          → ((m : ℕ) → (walk.rows w b h m).verdict ≡ Ok end → Rows (walk.rows w b h m).pixels w h m end)
          → Rows (run_onward px v (λ to. walk.rows w b h to)).pixels w (suc h) at end
      at_row (Err x) d e ih = fault_not_end e
      at_row (Ok m) d e ih =
          let q = (walk.rows w b h m).pixels in
          let r = ih m e in
          let n : length px ≡ w = row_length w b at m d in
          record {
            least =
                omega (
                  arith,
                  r.least,
                  row_least w at m d,
                  ap length (body_more w h (px ++ q)),
                  length-append (brun_row (take w (px ++ q))) (brun_body w h (drop w (px ++ q))),
                  ap (λ (x : List ℕ). length (brun_row x)) (take_at px q w n),
                  ap (λ (x : List ℕ). length (brun_body w h x)) (drop_at px q w n),
                );
            pixels = omega (arith, length-append px q, r.pixels);
          }

-- a body that is read as the picture q is no shorter than the house's

one_write : (v d : List ℕ) → applied (and_then 0 v (ends (length v))).writes d ≡ put d 0 v
unfolding applied
one_write v d = refl

end_in : (b : List ℕ) {end : ℕ} {v : Verdict} → v ≡ Ok end → VerdictIn b v → end ≤ length b
end_in b e i = subst (VerdictIn b) e i

module _ (w h : ℕ) (b p q : List ℕ) (end : ℕ) (lp : length p ≡ w * h) where
  pub brun_least : Gives (brun w h b) end p q → length (brun_body w h q) ≤ length b
  brun_least g =
      let px = (walk.rows w b h 0).pixels in
      let r = rows_least b w h 0 end (sym (brun_verdict w h b) ∙ g.ended) in
      let e : px ≡ q = sym (put_whole p px (omega (arith, r.pixels))) ∙ sym (brun_applied w h b p) ∙ g.result in
      omega (arith, r.least, end_in b g.ended (brun_sound w h b).ends_in, ap (λ (x : List ℕ). length (brun_body w h x)) e)

  pub copy_least : Gives (copied (w * h) b) end p q → length q ≤ length b
  copy_least g =
      by_test (λ x. length q ≤ length b) (leb (w * h) (length b))
      (λ e.
      let l = leb-true (w * h) (length b) e in
      omega (
        arith,
        l,
        ap length (sym g.result ∙ ap (λ (k : Walk). applied k.writes p) (copied_whole (w * h) b l) ∙ one_write (take (w * h) b) p
            ∙ put_whole p (take (w * h) b) (omega (arith, length-take (w * h) b))),
        length-take (w * h) b,
      ))
      (λ e. fault_not_end (sym (ap (λ (k : Walk). k.verdict) (copied_short (w * h) b (leb-false (w * h) (length b) e))) ∙ g.ended))

  pub black_only : Gives (black (w * h)) end p q → all_zero q ≡ true
  unfolding all_zero
  black_only g =
      let z = length-replicate {A = ℕ} (w * h) 0 in
      let e : q ≡ replicate (w * h) 0 = sym g.result ∙ black_applied (w * h) p ∙ put_whole p (replicate (w * h) 0) (omega arith) in
      let n : length q ≡ w * h = ap length e ∙ z in
      ap (same q) (ap (λ (k : ℕ). replicate k 0) n ∙ sym e) ∙ same_refl q

-- the full chunk is the shortest of the house's

shorter_left : (x y : List ℕ) → length (shorter x y) ≤ length x
shorter_left x y =
    by_test (λ b. length (shorter x y) ≤ length x) (leb (length x) (length y))
    (λ e. omega (arith, ap length (shorter_first x y (leb-true (length x) (length y) e))))
    (λ e. omega (arith, ap length (shorter_second x y (leb-false (length x) (length y) e)), leb-false (length x) (length y) e))

shorter_right : (x y : List ℕ) → length (shorter x y) ≤ length y
shorter_right x y =
    by_test (λ b. length (shorter x y) ≤ length y) (leb (length x) (length y))
    (λ e. omega (arith, ap length (shorter_first x y (leb-true (length x) (length y) e)), leb-true (length x) (length y) e))
    (λ e. omega (arith, ap length (shorter_second x y (leb-false (length x) (length y) e))))

pub full_shortest : (w h : ℕ) (q : List ℕ) → (length (full_chunk w h q) ≤ length (chunk FLI_BRUN (brun_body w h q)))
    × (length (full_chunk w h q) ≤ length (chunk FLI_COPY q))
    × (all_zero q ≡ true → length (full_chunk w h q) ≤ length (chunk FLI_BLACK []))
unfolding full_chunk
full_shortest w h q = by_test (all_zero q)
  where
    brun_chunk : List ℕ
    brun_chunk = chunk FLI_BRUN (brun_body w h q)

    copy_chunk : List ℕ
    copy_chunk = chunk FLI_COPY q

    other : List ℕ
    other = shorter brun_chunk copy_chunk

    by_test : (z : Bool) → (length (cond z (shorter (chunk FLI_BLACK []) other) other) ≤ length brun_chunk)
        × (length (cond z (shorter (chunk FLI_BLACK []) other) other) ≤ length copy_chunk)
        × (z ≡ true → length (cond z (shorter (chunk FLI_BLACK []) other) other) ≤ length (chunk FLI_BLACK []))
    by_test true = (
      omega (arith, shorter_right (chunk FLI_BLACK []) other, shorter_left brun_chunk copy_chunk),
      omega (arith, shorter_right (chunk FLI_BLACK []) other, shorter_right brun_chunk copy_chunk),
      λ e. shorter_left (chunk FLI_BLACK []) other,
    )
    by_test false = (shorter_left brun_chunk copy_chunk, shorter_right brun_chunk copy_chunk, λ e. let z : ◌≡◌ {A = ℕ} 0 1 = cc in absurd (omega arith))

-- whatever body b is read as the picture q
pub record FullLeast (w h : ℕ) (b p q : List ℕ) (end : ℕ) : Type 0 where
  pub brun_chunk : Gives (brun w h b) end p q → length (full_chunk w h q) ≤ length (chunk FLI_BRUN b)
  pub copy_chunk : Gives (copied (w * h) b) end p q → length (full_chunk w h q) ≤ length (chunk FLI_COPY b)
  pub black_chunk : Gives (black (w * h)) end p q → length (full_chunk w h q) ≤ length (chunk FLI_BLACK b)

pub full_least : (w h : ℕ) (b p q : List ℕ) (end : ℕ) → length p ≡ w * h → FullLeast w h b p q end
full_least w h b p q end lp =
    let s = full_shortest w h q in
    record {
      brun_chunk = λ g. omega (arith, s.0, brun_least w h b p q end lp g, length_chunk FLI_BRUN b, length_chunk FLI_BRUN (brun_body w h q));
      copy_chunk = λ g. omega (arith, s.1, copy_least w h b p q end lp g, length_chunk FLI_COPY b, length_chunk FLI_COPY q);
      black_chunk = λ g. omega (arith, s.2 (black_only w h b p q end lp g), length_chunk FLI_BLACK b, length_chunk FLI_BLACK []);
    }
