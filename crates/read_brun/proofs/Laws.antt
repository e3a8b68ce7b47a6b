-- Laws of the definitions in specs/Brun.antt that the proofs of the readers cite.
use mathlib.Core.Path.{◌≡◌, ap, ◌∙◌, sym, refl, ap₂, subst}
use mathlib.Core.List.{List, []}
use mathlib.Core.Bool.{Bool, true, false, cond}
use Prim.Native.Nat.{ℕ, suc, zero, ◌≤◌, ◌<◌, ◌+◌, ◌-◌, ◌*◌}
use native.Mathlib.Nat.{not-suc-le-zero, le_of_suc-le-suc, suc-sub-suc}
use native.Mathlib.Numerals.{sub-one}
use native.Mathlib.Omega.{arith}
use borrow.Author.Tests.{le-leb, lt-leb, lt-ltb, le-ltb, ltb-true, ltb-false, leb-true}
use lib.ListN.{length, drop, take, get_or, replicate, length-drop, length-replicate, length-append}
use lib.Seq.{length-take-le}
use lib.Dec.{leb, ltb}
use Rattle.std.specs.Prelude.{Ok, Err}
use Rattle.words.specs.Words.{require◌else◌then◌, magnitude, Bytes}
use Rattle.words.specs.Writes.{put, applied}
use Rattle.words.proofs.Laws.{magnitude_plus, magnitude_minus, put_nil, put_append, row_in, bytes_get_d, bytes_take, bytes_drop}
use Rattle.words.proofs.Bytewise.{bytes_join, bytes_replicate}
use Rattle.words.proofs.Tests.{by_test, cond_holds}
use Rattle.walk.specs.Walk.{stored, Room, Verdict}
use Rattle.walk.specs.declared.Pass.{Pass}
use Rattle.walk.specs.declared.Pass.TheVariants.{Dry, Wet}
use Rattle.walk.proofs.Laws.{VerdictIn, fault_not_end, wrote_one, seen}
use Rattle.walk.proofs.Sound.{Sound}
use Rattle.answer.specs.declared.Refusal.{Refusal}
use Rattle.answer.specs.declared.Refusal.TheVariants.{BodyEnds, ZeroCount, PastWidth}
use Rattle.read_brun.specs.Brun.{Run, run_ends, run_fault, run_before, run_onward, data_bytes, pixels, packet_of, packet_at, after_packet, packets, row, rows, brun, packet_to, BrunStep}

-- types: below 128 a repeat, from 128 on a copy

pub data_repeat : (t : ℕ) → t < 128 → data_bytes t ≡ 1
unfolding data_bytes
data_repeat t h = simp (lt-ltb t 128 h)

pub data_copy : (t : ℕ) → 128 ≤ t → data_bytes t ≡ 256 - t
unfolding data_bytes
data_copy t h = simp (le-ltb t 128 h)

pub pixels_repeat : (b : List ℕ) (at t : ℕ) → t < 128 → pixels b at t ≡ replicate t (get_or b at 0)
unfolding pixels
pixels_repeat b at t h = simp (lt-ltb t 128 h)

pub pixels_copy : (b : List ℕ) (at t : ℕ) → 128 ≤ t → pixels b at t ≡ take (256 - t) (drop at b)
unfolding pixels
pixels_copy b at t h = simp (le-ltb t 128 h)

-- how many pixels a packet has, whose data lies in b
pub length_pixels : (b : List ℕ) (at t : ℕ) → at + data_bytes t ≤ length b → length (pixels b at t) ≡ magnitude t
length_pixels b at t h =
    by_test (λ c. length (pixels b at t) ≡ magnitude t) (ltb t 128)
    (λ e.
    let k = ltb-true t 128 e in
    ap length (pixels_repeat b at t k) ∙ length-replicate t _ ∙ sym (magnitude_plus t k))
    (λ e.
    let k = ltb-false t 128 e in
    ap length (pixels_copy b at t k) ∙ length-take-le (256 - t) (drop at b) (simp length-drop (omega (arith, data_copy t k))) ∙ sym (magnitude_minus t k))

-- a packet

module _ (b : List ℕ) (at left : ℕ) where
  pub packet_cut : length b < at + 1 → packet_at b at left ≡ Err BodyEnds
  unfolding packet_at
  packet_cut h = simp (lt-leb (at + 1) (length b) h)

  pub packet_zero : at + 1 ≤ length b → magnitude (get_or b at 0) < 1 → packet_at b at left ≡ Err ZeroCount
  unfolding packet_at packet_of
  packet_zero h z = simp (le-leb (at + 1) (length b) h, lt-leb 1 (magnitude (get_or b at 0)) z)

  pub packet_past : at + 1 ≤ length b → 1 ≤ magnitude (get_or b at 0) → left < magnitude (get_or b at 0) → packet_at b at left ≡ Err PastWidth
  unfolding packet_at packet_of
  packet_past h z k = simp (le-leb (at + 1) (length b) h, le-leb 1 (magnitude (get_or b at 0)) z, lt-leb (magnitude (get_or b at 0)) left k)

  pub packet_short : at + 1 ≤ length b → 1 ≤ magnitude (get_or b at 0) → magnitude (get_or b at 0) ≤ left → length b < at + 1 + data_bytes (get_or b at 0)
      → packet_at b at left ≡ Err BodyEnds
  unfolding packet_at packet_of
  packet_short h z k l =
      simp (
        le-leb (at + 1) (length b) h,
        le-leb 1 (magnitude (get_or b at 0)) z,
        le-leb (magnitude (get_or b at 0)) left k,
        lt-leb (at + 1 + data_bytes (get_or b at 0)) (length b) l,
      )

  pub packet_whole : at + 1 ≤ length b → 1 ≤ magnitude (get_or b at 0) → magnitude (get_or b at 0) ≤ left → at + 1 + data_bytes (get_or b at 0) ≤ length b
      → packet_at b at left ≡ Ok (packet_to (get_or b at 0) (magnitude (get_or b at 0)) (at + 1 + data_bytes (get_or b at 0)))
  unfolding packet_at packet_of
  packet_whole h z k l =
      simp (
        le-leb (at + 1) (length b) h,
        le-leb 1 (magnitude (get_or b at 0)) z,
        le-leb (magnitude (get_or b at 0)) left k,
        le-leb (at + 1 + data_bytes (get_or b at 0)) (length b) l,
      )

  -- the same where n pixels are given and the data ends at end
  pub packet_told : (n end : ℕ) → at + 1 ≤ length b → 1 ≤ n → n ≤ left → end ≤ length b → magnitude (get_or b at 0) ≡ n
      → at + 1 + data_bytes (get_or b at 0) ≡ end
      → Ok (packet_to (get_or b at 0) n end) ≡ packet_at b at left
  packet_told n end h z k l m d =
      sym (packet_whole h (omega arith) (omega arith) (omega arith) ∙ ap₂ (λ (x y : ℕ). Ok (packet_to (get_or b at 0) x y)) m d)

-- packets of a row

module _ (b : List ℕ) where
  packets_skip : (left k at : ℕ) → k ≤ left → packets b left k at ≡ packets b (left - k) 0 at
  unfolding packets
  packets_skip left zero at h = let e : left ≡ left - 0 = omega arith in ap (λ (n : ℕ). packets b n 0 at) e
  packets_skip zero (suc k) at h = absurd (not-suc-le-zero h)
  packets_skip (suc left) (suc k) at h =
      let e : left - k ≡ suc left - suc k = omega arith in
      packets_skip left k at (le_of_suc-le-suc h) ∙ ap (λ (n : ℕ). packets b n 0 at) e

  pub packets_none : (left at : ℕ) → left ≤ 0 → packets b left 0 at ≡ run_ends at
  unfolding packets
  packets_none zero at h = refl
  packets_none (suc left) at h = absurd (not-suc-le-zero h)

  packets_as : (left at : ℕ) → 0 < left → (p : BrunStep) → packet_at b at left ≡ p
      → packets b left 0 at ≡ after_packet b at p (λ n end. packets b (left - 1) (n - 1) end)
  unfolding packets
  packets_as zero at h p q = absurd (not-suc-le-zero h)
  packets_as (suc left) at h p q =
      ap₂ (λ (x : BrunStep) (k : ℕ). after_packet b at x (λ n end. packets b k (n - 1) end)) q (sym (sub-one (suc left)))

  pub packets_stop : (left at : ℕ) → 0 < left → (e : Refusal) → packet_at b at left ≡ Err e → packets b left 0 at ≡ run_fault e
  packets_stop left at h e q = packets_as left at h (Err e) q

  pub packets_more : (left at : ℕ) → 0 < left → (t n end : ℕ) → packet_at b at left ≡ Ok (packet_to t n end) → 1 ≤ n → n ≤ left
      → packets b left 0 at ≡ run_before (pixels b (at + 1) t) (packets b (left - n) 0 end)
  packets_more left at h t n end q some fits =
      let e : left - 1 - (n - 1) ≡ left - n = omega arith in
      packets_as left at h (Ok (packet_to t n end)) q
      ∙ ap (λ (r : Run). run_before (pixels b (at + 1) t) r) (packets_skip (left - 1) (n - 1) end (omega arith) ∙ ap (λ (k : ℕ). packets b k 0 end) e)

-- a row

module _ (w : ℕ) (b : List ℕ) (at : ℕ) where
  pub row_cut : length b < at + 1 → row w b at ≡ run_fault BodyEnds
  unfolding row
  row_cut h = simp (lt-leb (at + 1) (length b) h)

  pub row_open : at + 1 ≤ length b → row w b at ≡ packets b w 0 (at + 1)
  unfolding row
  row_open h = simp (le-leb (at + 1) (length b) h)

-- rows

module _ (w : ℕ) (b : List ℕ) where
  pub rows_none : (h at : ℕ) → h ≤ 0 → rows w b h at ≡ run_ends at
  unfolding rows
  rows_none zero at k = refl
  rows_none (suc h) at k = absurd (not-suc-le-zero k)

  rows_as : (h at : ℕ) → 0 < h → (v : Verdict) → (row w b at).verdict ≡ v → rows w b h at ≡ run_onward (row w b at).pixels v (λ end. rows w b (h - 1) end)
  unfolding rows
  rows_as zero at k v q = absurd (not-suc-le-zero k)
  rows_as (suc h) at k v q =
      ap₂ (λ (x : Verdict) (n : ℕ). run_onward (row w b at).pixels x (λ end. rows w b n end)) q (sym (sub-one (suc h)))

  pub rows_stop : (h at : ℕ) → 0 < h → (e : Refusal) → (row w b at).verdict ≡ Err e
      → rows w b h at ≡ record { pixels = (row w b at).pixels; verdict = Err e }
  rows_stop h at k e q = rows_as h at k (Err e) q

  pub rows_more : (h at : ℕ) → 0 < h → (end : ℕ) → (row w b at).verdict ≡ Ok end → rows w b h at
      ≡ run_before (row w b at).pixels (rows w b (h - 1) end)
  rows_more h at k end q = rows_as h at k (Ok end) q

-- the bounds of a packet: its pixels lie in the row, its data in the body

abbrev pub PacketIn : List ℕ → ℕ → ℕ → BrunStep → Type 0
PacketIn b at left (Err e) = Unit {0}
PacketIn b at left (Ok p) =
    (1 ≤ p.count) × (p.count ≤ left) × (magnitude p.code ≡ p.count) × (at + 1 + data_bytes p.code ≡ p.end) × (p.end ≤ length b)

pub packet_in : (b : List ℕ) (at left : ℕ) (p : BrunStep) → packet_at b at left ≡ p → PacketIn b at left p
unfolding packet_at packet_of
packet_in b at left p e = subst (PacketIn b at left) e
    (go (leb (at + 1) (length b)) (leb 1 (magnitude t)) (leb (magnitude t) left) (leb (at + 1 + data_bytes t) (length b)) refl refl refl)
  where
    t : ℕ
    t = get_or b at 0

    go : (a z k l : Bool) → leb 1 (magnitude t) ≡ z → leb (magnitude t) left ≡ k → leb (at + 1 + data_bytes t) (length b) ≡ l
        → PacketIn b at left
        (cond a (cond z (cond k (cond l (Ok (packet_to t (magnitude t) (at + 1 + data_bytes t))) (Err BodyEnds)) (Err PastWidth)) (Err ZeroCount))
        (Err BodyEnds))
    go false z k l p q r = tt
    go true false k l p q r = tt
    go true true false l p q r = tt
    go true true true false p q r = tt
    go true true true true p q r = (leb-true 1 (magnitude t) p, leb-true (magnitude t) left q, refl, refl, leb-true (at + 1 + data_bytes t) (length b) r)

-- how long a row is, and where its data ends

packets_length : (b : List ℕ) (left k at end : ℕ) → k ≤ left → (packets b left k at).verdict ≡ Ok end → length (packets b left k at).pixels + k ≡ left
unfolding packets
packets_length b zero zero at end h v = refl
packets_length b zero (suc k) at end h v = absurd (not-suc-le-zero h)
packets_length b (suc left) (suc k) at end h v = omega (arith, packets_length b left k at end (le_of_suc-le-suc h) v)
packets_length b (suc left) zero at end h v = go (packet_at b at (suc left)) (packet_in b at (suc left) _ refl) (λ m j e i u. packets_length b left m j e i u) v
  where
    go : (p : BrunStep) → PacketIn b at (suc left) p
        → ((m j e : ℕ) → m ≤ left → (packets b left m j).verdict ≡ Ok e → length (packets b left m j).pixels + m ≡ left)
        → (after_packet b at p (λ n j. packets b left (n - 1) j)).verdict ≡ Ok end
        → length (after_packet b at p (λ n j. packets b left (n - 1) j)).pixels + 0 ≡ suc left
    go (Err e) i ih u = fault_not_end u
    go (Ok p) i ih u =
        omega (
          arith,
          length-append (pixels b (at + 1) p.code) (packets b left (p.count - 1) p.end).pixels,
          length_pixels b (at + 1) p.code (omega (arith, i.3, i.4)),
          i.0,
          i.1,
          i.2,
          ih (p.count - 1) p.end end (omega (arith, i.0, i.1)) u,
        )

-- a row that ends has w pixels
pub row_length : (w : ℕ) (b : List ℕ) (at end : ℕ) → (row w b at).verdict ≡ Ok end → length (row w b at).pixels ≡ w
unfolding row
row_length w b at end v = go (leb (at + 1) (length b)) v
  where
    go : (c : Bool) → (cond c (packets b w 0 (at + 1)) (run_fault BodyEnds)).verdict ≡ Ok end
        → length (cond c (packets b w 0 (at + 1)) (run_fault BodyEnds)).pixels ≡ w
    go true u = omega (arith, packets_length b w 0 (at + 1) end (omega arith) u)
    go false u = fault_not_end u

-- What a run has over the body b, with room for n pixels: its data ends within b, it has no more pixels, and of a body of bytes they
-- are bytes. `brun_sound` is of the one write that it becomes.
pub record RunSound (b : List ℕ) (n : ℕ) (r : Run) : Type 0 where
  pub ends_in : VerdictIn b r.verdict
  pub few : length r.pixels ≤ n
  pub bytes : Bytes b → Bytes r.pixels

run_fault_lem : (b : List ℕ) (n : ℕ) (e : Refusal) → RunSound b n (run_fault e)
run_fault_lem b n e = record { ends_in = tt; few = omega arith; bytes = λ i. tt }

pixels_bytes : (b : List ℕ) (at t : ℕ) → Bytes b → Bytes (pixels b at t)
unfolding pixels
pixels_bytes b at t h =
    cond_holds Bytes (ltb t 128) _ _ (bytes_replicate t (get_or b at 0) (bytes_get_d b at h)) (bytes_take (256 - t) (drop at b) (bytes_drop at b h))

packets_sound : (b : List ℕ) (left k at : ℕ) → at ≤ length b → k ≤ left → RunSound b (left - k) (packets b left k at)
unfolding packets
packets_sound b zero k at i h = record { ends_in = i; few = omega arith; bytes = λ i. tt }
packets_sound b (suc left) (suc k) at i h = rw (suc-sub-suc left k) (packets_sound b left k at i (le_of_suc-le-suc h))
packets_sound b (suc left) zero at i h = go (packet_at b at (suc left)) (packet_in b at (suc left) _ refl) (λ m j h k. packets_sound b left m j h k)
  where
    go : (p : BrunStep) → PacketIn b at (suc left) p → ((m j : ℕ) → j ≤ length b → m ≤ left → RunSound b (left - m) (packets b left m j))
        → RunSound b (suc left - 0) (after_packet b at p (λ n j. packets b left (n - 1) j))
    go (Err e) i ih = run_fault_lem b (suc left - 0) e
    go (Ok p) i ih =
        let r = ih (p.count - 1) p.end i.4 (omega (arith, i.0, i.1)) in
        record {
          ends_in = r.ends_in;
          few = omega (
            arith,
            length-append (pixels b (at + 1) p.code) (packets b left (p.count - 1) p.end).pixels,
            length_pixels b (at + 1) p.code (omega (arith, i.3, i.4)),
            i.0,
            i.1,
            i.2,
            r.few,
          );
          bytes = λ h. bytes_join (pixels b (at + 1) p.code) (packets b left (p.count - 1) p.end).pixels (pixels_bytes b (at + 1) p.code h) (r.bytes h);
        }

pub row_sound : (w : ℕ) (b : List ℕ) (at : ℕ) → RunSound b w (row w b at)
unfolding row
row_sound w b at =
    by_test (λ t. RunSound b w (require t else run_fault BodyEnds then packets b w 0 (at + 1))) (leb (at + 1) (length b))
    (λ e. let z : w - 0 ≡ w = omega arith in
    subst (λ (n : ℕ). RunSound b n (packets b w 0 (at + 1))) z (packets_sound b w 0 (at + 1) (leb-true (at + 1) (length b) e) (omega arith)))
    (λ e. run_fault_lem b w BodyEnds)

rows_sound : (w : ℕ) (b : List ℕ) (h at : ℕ) → at ≤ length b → RunSound b (w * h) (rows w b h at)
unfolding rows
rows_sound w b zero at i = record { ends_in = i; few = omega arith; bytes = λ i. tt }
rows_sound w b (suc h) at i = go (row w b at).verdict (row_sound w b at).ends_in (λ end j. rows_sound w b h end j)
  where
    go : (v : Verdict) → VerdictIn b v → ((end : ℕ) → end ≤ length b → RunSound b (w * h) (rows w b h end))
        → RunSound b (w * suc h) (run_onward (row w b at).pixels v (λ end. rows w b h end))
    go (Ok end) i ih =
        let r = ih end i in
        let s = row_sound w b at in
        record {
          ends_in = r.ends_in;
          few = omega (arith, length-append (row w b at).pixels (rows w b h end).pixels, s.few, r.few);
          bytes = λ k. bytes_join (row w b at).pixels (rows w b h end).pixels (s.bytes k) (r.bytes k);
        }
    go (Err e) i ih = let s = row_sound w b at in record { ends_in = tt; few = omega (arith, s.few); bytes = s.bytes }

-- the whole picture

pub brun_sound : (w h : ℕ) (b : List ℕ) → Sound b (w * h) (brun w h b)
unfolding brun
brun_sound w h b =
    let s = rows_sound w b h 0 (omega arith) in
    record { ends_in = s.ends_in; inside = (omega (arith, s.few), tt); bytewise = λ k. (s.bytes k, tt) }

pub brun_verdict : (w h : ℕ) (b : List ℕ) → (brun w h b).verdict ≡ (rows w b h 0).verdict
unfolding brun
brun_verdict w h b = refl

pub brun_applied : (w h : ℕ) (b d : List ℕ) → applied (brun w h b).writes d ≡ put d 0 (rows w b h 0).pixels
unfolding brun applied
brun_applied w h b d = refl

-- how a run comes out, and what a pass over it leaves of d, its pixels going there from index to on
unfoldable pub shown : Pass → Run → List ℕ → ℕ → Verdict × List ℕ
shown p r d to = (r.verdict, stored p d to r.pixels)

pub shown_gives : (p : Pass) (r : Run) (d : List ℕ) (to : ℕ) (e : List ℕ) (v : Verdict) → shown p r d to ≡ (v, e)
    → record { verdict : v ≡ r.verdict; writes : e ≡ stored p d to r.pixels }
unfolding shown
shown_gives p r d to e v s = record { verdict = sym (ap (λ (x : Verdict × List ℕ). x.0) s); writes = sym (ap (λ (x : Verdict × List ℕ). x.1) s) }

pub shown_none : (p : Pass) (r : Run) (d : List ℕ) (to : ℕ) (v : Verdict) → r ≡ record { pixels = []; verdict = v } → shown p r d to ≡ (v, d)
unfolding shown
shown_none Dry r d to v e = ap (λ (x : Run). (x.verdict, d)) e
shown_none Wet r d to v e = ap (λ (x : Run). shown Wet x d to) e ∙ ap (λ (x : List ℕ). (v, x)) (put_nil d to)

-- n pixels, which leave e of d, and then the rest
shown_on : (p : Pass) (d e : List ℕ) (to : ℕ) (px : List ℕ) (n : ℕ) (r : Run) → length px ≡ n → Room p (to + n) d → e ≡ stored p d to px
    → shown p (run_before px r) d to ≡ shown p r e (to + n)
unfolding shown
shown_on Dry d e to px n r l room s = ap (λ (x : List ℕ). (r.verdict, x)) (sym s)
shown_on Wet d e to px n r l room s =
    ap (λ (x : List ℕ). (r.verdict, x)) (put_append d to px r.pixels n l (room refl) ∙ ap (λ (x : List ℕ). put x (to + n) r.pixels) (sym s))

-- a whole packet, which leaves e of d, and then the packets after it
pub packets_on : (p : Pass) (b d e : List ℕ) (to left at : ℕ) → 0 < left → (t n end : ℕ) → packet_at b at left ≡ Ok (packet_to t n end) → Room p (to + left) d
    → e ≡ stored p d to (pixels b (at + 1) t) → shown p (packets b left 0 at) d to ≡ shown p (packets b (left - n) 0 end) e (to + n)
packets_on p b d e to left at h t n end q room s =
    let i = packet_in b at left _ q in
    ap (λ (r : Run). shown p r d to) (packets_more b left at h t n end q i.0 i.1)
    ∙ shown_on p d e to (pixels b (at + 1) t) n (packets b (left - n) 0 end) (length_pixels b (at + 1) t (omega (arith, i.3, i.4)) ∙ i.2)
    (λ wet. omega (arith, room wet, i.1)) s

-- row k of h, which leaves e of d: the rows below it, if it ends; no more, if it meets a fault
module _ (p : Pass) (w h : ℕ) (b d e : List ℕ) (k at : ℕ) (fits : k < h) (left : e ≡ stored p d (k * w) (row w b at).pixels) where
  pub rows_on : (end : ℕ) → (row w b at).verdict ≡ Ok end → Room p (w * h) d
      → shown p (rows w b (h - k) at) d (k * w) ≡ shown p (rows w b (h - (k + 1)) end) e ((k + 1) * w)
  rows_on end v room =
      let m : h - k - 1 ≡ h - (k + 1) = omega arith in
      let n : k * w + w ≡ (k + 1) * w = omega arith in
      ap (λ (r : Run). shown p r d (k * w)) (rows_more w b (h - k) at (omega arith) end v)
      ∙ shown_on p d e (k * w) (row w b at).pixels w (rows w b (h - k - 1) end) (row_length w b at end v)
      (λ wet. omega (arith, row_in w h k fits, room wet)) left
      ∙ ap₂ (λ (x y : ℕ). shown p (rows w b x end) e y) m n

  pub rows_stopped : (f : Refusal) → (row w b at).verdict ≡ Err f → shown p (rows w b (h - k) at) d (k * w) ≡ (Err f, e)
  unfolding shown
  rows_stopped f v =
      ap (λ (r : Run). shown p r d (k * w)) (rows_stop w b (h - k) at (omega arith) f v) ∙ ap (λ (x : List ℕ). (Err f, x)) (sym left)

-- the picture is its rows, from the first pixel on
pub brun_seen : (p : Pass) (w h : ℕ) (b d : List ℕ) → seen p (brun w h b) d ≡ shown p (rows w b h 0) d 0
unfolding brun seen shown
brun_seen p w h b d = ap (λ (x : List ℕ). ((rows w b h 0).verdict, x)) (wrote_one p 0 (rows w b h 0).pixels d)
