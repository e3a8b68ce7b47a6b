-- `Encodes` holds exactly of what the reader takes for a row (`row_reader`).
-- The idea: a packet that the reader takes is a repeat or a copy by its type byte, and where the row's packets end the bytes in between are theirs.
use mathlib.Core.Path.{◌≡◌, refl, sym, ap, ap₂, ◌∙◌, subst}
use mathlib.Core.List.{List, [], ◌∷◌, ◌++◌, append_assoc, append-nil}
use mathlib.Core.Bool.{Bool, true, false, cond}
use Prim.Native.Nat.{ℕ, zero, suc, ◌+◌, ◌-◌, ◌≤◌}
use native.Mathlib.Omega.{arith}
use borrow.Author.Tests.{leb-true, ltb-true, ltb-false}
use lib.Dec.{leb, ltb}
use lib.ListN.{length, get_or, take, drop, length-drop, take-append-drop, drop_of_length-le}
use lib.Seq.{length-take-le, drop-drop, drop-cons}
use Rattle.std.specs.Prelude.{Ok, Err}
use Rattle.words.specs.Words.{Bytes, magnitude}
use Rattle.words.proofs.Laws.{magnitude_plus, magnitude_minus, bytes_get_d}
use Rattle.words.proofs.Tests.{by_test}
use Rattle.answer.specs.declared.Refusal.TheVariants.{BodyEnds, ZeroCount, PastWidth}
use Rattle.walk.proofs.Laws.{fault_not_end}
use Rattle.read_brun.specs.Brun.{packet_to, BrunStep, Run, data_bytes, pixels, packet_of, packet_at, after_packet, packets}
use Rattle.read_brun.proofs.Laws.{PacketIn, packet_in, data_repeat, data_copy, pixels_repeat, pixels_copy}
use Rattle.house_rows.specs.Row.{Encodes, none, repeated, copied}
use Rattle.house_full.specs.RowReader.{RowReader}
use Rattle.house_full.proofs.ReadsBack.{encoded_shows}
use Rattle.walk.specs.Walk.{Verdict}

-- the type of a packet is the byte that it begins with
abbrev TypeIs : List ℕ → ℕ → BrunStep → Type 0
TypeIs b at (Err e) = Unit {0}
TypeIs b at (Ok p) = (p.code ≡ get_or b at 0) × (at + 1 ≤ length b)

type_is : (b : List ℕ) (at left : ℕ) (p : BrunStep) → packet_at b at left ≡ p → TypeIs b at p
unfolding packet_at packet_of
type_is b at left p e = subst (TypeIs b at) e
    (go (leb (at + 1) (length b)) (leb 1 (magnitude t)) (leb (magnitude t) left) (leb (at + 1 + data_bytes t) (length b)) refl)
  where
    t : ℕ
    t = get_or b at 0

    go : (a z k l : Bool) → leb (at + 1) (length b) ≡ a
        → TypeIs b at (cond a
        (cond z (cond k (cond l (Ok (packet_to t (magnitude t) (at + 1 + data_bytes t))) (Err BodyEnds)) (Err PastWidth)) (Err ZeroCount)) (Err BodyEnds))
    go false z k l q = tt
    go true false k l q = tt
    go true true false l q = tt
    go true true true false q = tt
    go true true true true q = (refl, leb-true (at + 1) (length b) q)

first_byte : (b : List ℕ) (at : ℕ) → at + 1 ≤ length b → drop at b ≡ get_or b at 0 ∷ drop (at + 1) b
first_byte b at h = let e : suc at ≡ at + 1 = omega arith in drop-cons b at 0 (omega arith) ∙ ap (λ (k : ℕ). get_or b at 0 ∷ drop k b) e

module _ (b : List ℕ) (i : Bytes b) where
  -- a run from at to end is the bytes in between, which encode its pixels
  record Read (px : List ℕ) (at end : ℕ) : Type 0 where
    pub bs : List ℕ
    pub code : Encodes bs px
    pub there : drop at b ≡ bs ++ drop end b

  packet_read : (at t end : ℕ) (px : List ℕ) → t ≡ get_or b at 0 → at + 1 ≤ length b → 1 ≤ magnitude t → at + 1 + data_bytes t ≤ length b
      → Read px (at + 1 + data_bytes t) end
      → Read (pixels b (at + 1) t ++ px) at end
  packet_read at t end px is one some whole r =
      by_test (λ x. Read (pixels b (at + 1) t ++ px) at end) (ltb t 128)
      (λ e.
      let k = ltb-true t 128 e in
      let v = get_or b (at + 1) 0 in
      let d = data_repeat t k in
      let n : at + 1 + 1 ≡ at + 1 + data_bytes t = omega (arith, d) in
      record {
        bs = t ∷ (v ∷ r.bs);
        code = subst (λ (s : List ℕ). Encodes (t ∷ (v ∷ r.bs)) (s ++ px)) (sym (pixels_repeat b (at + 1) t k))
            (repeated t v (omega (arith, magnitude_plus t k)) (omega arith) r.code);
        there =
            first_byte b at one
            ∙ ap₂ (λ (x : ℕ) (y : List ℕ). x ∷ y) (sym is) (first_byte b (at + 1) (omega (arith, d)))
            ∙ ap (λ (y : List ℕ). t ∷ (v ∷ y)) (ap (λ (m : ℕ). drop m b) n ∙ r.there);
      })
      (λ e.
      let k = ltb-false t 128 e in
      let small = bytes_get_d b at i in
      let vs = take (256 - t) (drop (at + 1) b) in
      let d = data_copy t k in
      let l : length vs ≡ 256 - t = length-take-le (256 - t) (drop (at + 1) b) (omega (arith, length-drop (at + 1) b, d)) in
      let back : get_or b at 0 ≡ 256 - length vs = omega (arith, is, small, l) in
      let n : at + 1 + (256 - t) ≡ at + 1 + data_bytes t = omega (arith, d) in
      record {
        bs = (256 - length vs) ∷ (vs ++ r.bs);
        code =
            subst (λ (s : List ℕ). Encodes ((256 - length vs) ∷ (vs ++ r.bs)) (s ++ px)) (sym (pixels_copy b (at + 1) t k))
            (copied vs (omega (arith, magnitude_minus t k)) (omega arith) r.code);
        there =
            first_byte b at one
            ∙ ap₂ (λ (x : ℕ) (y : List ℕ). x ∷ y) back
            (sym (take-append-drop (256 - t) (drop (at + 1) b))
            ∙ ap (λ (y : List ℕ). vs ++ y) (drop-drop (256 - t) (at + 1) b ∙ ap (λ (m : ℕ). drop m b) n ∙ r.there)
            ∙ sym (append_assoc vs r.bs (drop end b)));
      })

  packets_read : (left filled at end : ℕ) → filled ≤ left → (packets b left filled at).verdict ≡ Ok end
      → Read (packets b left filled at).pixels at end
  unfolding packets
  packets_read zero filled at end h e = record { bs = []; code = none; there = ap (λ (m : ℕ). drop m b) (same_end e) }
    where
      same_end : ◌≡◌ {A = Verdict} (Ok at) (Ok end) → at ≡ end
      same_end q = cc
  packets_read (suc left) (suc filled) at end h e = packets_read left filled at end (omega arith) e
  packets_read (suc left) zero at end h e =
      at_packet (packet_at b at (suc left)) (packet_in b at (suc left) _ refl) (type_is b at (suc left) _ refl) e (λ f to l q. packets_read left f to end l q)
    where
      at_packet : (p : BrunStep) → PacketIn b at (suc left) p → TypeIs b at p → (after_packet b at p (λ n to. packets b left (n - 1) to)).verdict
          ≡ Ok end
          → ((f to : ℕ) → f ≤ left → (packets b left f to).verdict ≡ Ok end → Read (packets b left f to).pixels to end)
          → Read (after_packet b at p (λ n to. packets b left (n - 1) to)).pixels at end
      at_packet (Err x) j y e ih = fault_not_end e
      at_packet (Ok p) j y e ih =
          let px = (packets b left (p.count - 1) p.end).pixels in
          packet_read at p.code end px y.0 y.1 (omega (arith, j.0, j.2)) (omega (arith, j.3, j.4))
          (subst (λ (x : ℕ). Read px x end) (sym j.3) (ih (p.count - 1) p.end (omega (arith, j.0, j.1)) e))

pub row_reader : (bs s : List ℕ) → RowReader bs s
row_reader bs s =
    record {
      encoded_is_read = λ e.
          let x = encoded_shows bs e 0 [] (length bs) (sym (append-nil bs)) (omega arith) in
          ap₂ (λ (p : List ℕ) (v : Verdict). record { pixels = p; verdict = v }) x.shown x.ended;
      read_is_encoded = back;
    }
  where
    back : Bytes bs → packets bs (length s) 0 0 ≡ record { pixels = s; verdict = Ok (length bs) } → Encodes bs s
    back i e =
        let r = packets_read bs i (length s) 0 0 (length bs) (omega arith) (ap (λ (x : Run). x.verdict) e) in
        let is : bs ≡ r.bs = r.there ∙ ap (λ (y : List ℕ). r.bs ++ y) (drop_of_length-le bs {i = length bs} (omega arith)) ∙ append-nil r.bs in
        subst (λ (x : List ℕ). Encodes x s) (sym is) (subst (Encodes r.bs) (ap (λ (x : Run). x.pixels) e) r.code)
