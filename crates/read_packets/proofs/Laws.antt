-- Laws of the packets of a delta row: what each type of packet has, what each packet says, what a row of them comes to.
use mathlib.Core.Path.{◌≡◌, ap, ap₂, ◌∙◌, sym, refl, subst}
use mathlib.Core.List.{List, [], ◌∷◌, ◌++◌, append-nil, append_assoc}
use mathlib.Core.Bool.{Bool, true, false}
use Prim.Native.Nat.{ℕ, suc, zero, ◌≤◌, ◌<◌, ◌+◌, ◌-◌, ◌*◌, ◌/◌, ◌%◌}
use native.Mathlib.Nat.{not-suc-le-zero, le_of_suc-le-suc, mul_comm, zero-mul, suc-mul, mul-le-mul, add-zero}
use native.Mathlib.Numerals.{add-one, sub-one}
use native.Mathlib.Omega.{arith}
use borrow.Author.Tests.{le-leb, lt-leb, lt-ltb, le-ltb, ltb-true, ltb-false, leb-true, leb-false, eqb-true, eq-eqb, ne_eqb}
use lib.Dec.{leb, ltb, eqb}
use lib.ListN.{length, drop, take, set, get_or, replicate, length-drop, length-append, drop_of_length-le}
use lib.Seq.{length-take-le, drop-cons, take-append-le}
use Rattle.std.specs.Prelude.{Ok, Err}
use Rattle.std.specs.Result.{IsErrAnd}
use Rattle.words.specs.Words.{magnitude, le32, Bytes}
use Rattle.words.specs.Writes.{put}
use Rattle.words.proofs.Laws.{magnitude_plus, magnitude_minus, put_front, length_put, row_in, bytes_take, bytes_drop}
use Rattle.words.proofs.Bytewise.{bytes_join}
use Rattle.words.proofs.Tests.{by_test, cond_holds}
use Rattle.answer.proofs.Laws.{handed_on}
use Rattle.answer.specs.declared.Refusal.{Refusal}
use Rattle.answer.specs.declared.Refusal.TheVariants.{BodyEnds, PastWidth}
use Rattle.walk.specs.Walk.{Verdict, Walk, ends, fault, and_then, stored, wrote}
use Rattle.walk.specs.declared.Pass.{Pass}
use Rattle.walk.proofs.Laws.{seen, seen_gives, seen_then}
use Rattle.walk.proofs.Sound.{Sound, sound_ends, sound_fault, sound_then}
use Rattle.words.proofs.Tests.{both_true}
use Rattle.read_packets.specs.Packets.{repeated, data_bytes, pixels, packet_to, PacketStep, packet_of, packet_at, after_packet, packets}
use Rattle.read_packets.specs.Pair.{one_pair, pair_at}
use Rattle.read_packets.specs.declared.Packet.{Packet}

-- pixels repeated

pub repeated_more : (n : ℕ) (v : List ℕ) → repeated n v ++ v ≡ repeated (suc n) v
unfolding repeated
repeated_more zero v = sym (append-nil v)
repeated_more (suc n) v = append_assoc v (repeated n v) v ∙ ap (λ (l : List ℕ). v ++ l) (repeated_more n v)

pub repeated_one : (n p : ℕ) → repeated n (p ∷ []) ≡ replicate n p
unfolding repeated
repeated_one zero p = refl
repeated_one (suc n) p = ap (λ (l : List ℕ). p ∷ l) (repeated_one n p)

pub length_repeated : (n : ℕ) (v : List ℕ) → length (repeated n v) ≡ n * length v
unfolding repeated
length_repeated zero v = sym (zero-mul (length v))
length_repeated (suc n) v = length-append v (repeated n v) ∙ omega (arith, length_repeated n v, suc-mul n (length v))

-- one pixel, and a pair, as they stand in a slice

pub repeated_pixel : (n : ℕ) (v : List ℕ) → length v ≡ 1 → replicate n (get_or v 0 0) ≡ repeated n v
repeated_pixel n (p ∷ []) e = sym (repeated_one n p)
repeated_pixel n [] e = absurd (omega arith)
repeated_pixel n (p ∷ q ∷ v) e = absurd (omega arith)

pub repeated_double : (n : ℕ) (v : List ℕ) → length v ≡ 2 → repeated n (get_or v 0 0 ∷ (get_or v 1 0 ∷ [])) ≡ repeated n v
repeated_double n (p ∷ q ∷ []) e = refl
repeated_double n [] e = absurd (omega arith)
repeated_double n (p ∷ []) e = absurd (omega arith)
repeated_double n (p ∷ q ∷ r ∷ v) e = absurd (omega arith)

-- two stores, one after the other
set_pair : (l : List ℕ) (j p q : ℕ) → suc j < length l → take (suc (suc j)) (set (set l j p) (suc j) q) ≡ take j l ++ (p ∷ (q ∷ []))
set_pair [] j p q h = absurd (not-suc-le-zero h)
set_pair (x ∷ []) j p q h = absurd (not-suc-le-zero (le_of_suc-le-suc h))
set_pair (x ∷ (y ∷ ys)) zero p q h = refl
set_pair (x ∷ (y ∷ ys)) (suc j) p q h = ap (λ (l : List ℕ). x ∷ l) (set_pair (y ∷ ys) j p q (le_of_suc-le-suc h))

-- one more pair, after i of them
pub repeated_pair : (l : List ℕ) (i p q : ℕ) → 2 * i + 1 < length l → take (2 * i) l ≡ repeated i (p ∷ (q ∷ []))
    → take (2 * (i + 1)) (set (set l (2 * i) p) (2 * i + 1) q) ≡ repeated (i + 1) (p ∷ (q ∷ []))
repeated_pair l i p q h e =
    let a : 2 * (i + 1) ≡ suc (suc (2 * i)) = omega arith in
    let b : 2 * i + 1 ≡ suc (2 * i) = omega arith in
    rw (a, b, add-one i) (set_pair l (2 * i) p q (omega arith) ∙ ap (λ (x : List ℕ). x ++ (p ∷ (q ∷ []))) e ∙ repeated_more i (p ∷ (q ∷ [])))

-- two of them as one word

low_byte : (x low high : ℕ) → low < 256 → x ≡ low + 256 * high → (x % 256 ≡ low) × (x / 256 ≡ high)
low_byte x low high h e = (omega arith, omega arith)

pub pairs_word : (p q m : ℕ) → p < 256 → q < 256 → m ≡ p + 256 * q → le32 (m + 65536 * m) [] ≡ p ∷ (q ∷ (p ∷ (q ∷ [])))
pairs_word p q m h k e =
    let x = m + 65536 * m in
    let a = low_byte x p (q + 256 * m) h (omega arith) in
    let b = low_byte (x / 256) q m k a.1 in
    let c = low_byte (x / 256 / 256) p q h (b.1 ∙ e) in
    let d = low_byte (x / 256 / 256 / 256) q 0 k (c.1 ∙ sym (add-zero q)) in
    rw (a.0, b.0, c.0, d.0)

-- two to four of them: the first two, and then the last two
pub few_pairs : (l v : List ℕ) (n p q : ℕ) → v ≡ p ∷ (q ∷ (p ∷ (q ∷ []))) → length l ≡ 2 * n → 2 ≤ n → n ≤ 4 → put (put l 0 v) (2 * n - 4) v
    ≡ repeated n (p ∷ (q ∷ []))
unfolding repeated
few_pairs l v n p q e s h k =
    let four : length v ≡ 4 = ap length e in
    let front = ap (take (2 * n - 4)) (put_front l v) ∙ take-append-le (2 * n - 4) v (drop (length v) l) (omega arith) in
    let back = drop_of_length-le (put l 0 v) {i = 2 * n - 4 + length v} (omega (arith, length_put l 0 v (omega arith))) in
    ap₂ (λ (x y : List ℕ). x ++ (v ++ y)) front back ∙ ap (λ (x : List ℕ). take (2 * n - 4) x ++ (x ++ [])) e ∙ by_count n h k
  where
    by_count : (n : ℕ) → 2 ≤ n → n ≤ 4 → take (2 * n - 4) (p ∷ (q ∷ (p ∷ (q ∷ [])))) ++ (p ∷ (q ∷ (p ∷ (q ∷ [])))) ≡ repeated n (p ∷ (q ∷ []))
    by_count zero h k = absurd (omega arith)
    by_count (suc zero) h k = absurd (omega arith)
    by_count (suc (suc zero)) h k = refl
    by_count (suc (suc (suc zero))) h k = refl
    by_count (suc (suc (suc (suc zero)))) h k = refl
    by_count (suc (suc (suc (suc (suc n))))) h k = absurd (omega arith)

-- at most 256 pixels or pairs
pub units_small : (unit n : ℕ) → unit ≤ 2 → n ≤ 256 → unit * n ≤ 512
units_small unit n h k = mul-le-mul h k

-- the data of a type: below 128 a copy, from 128 on a repeat

module _ (unit t : ℕ) where
  pub data_copy : t < 128 → data_bytes unit t ≡ unit * t
  unfolding data_bytes
  data_copy h = simp (lt-ltb t 128 h)

  pub data_repeat : 128 ≤ t → data_bytes unit t ≡ unit
  unfolding data_bytes
  data_repeat h = simp (le-ltb t 128 h)

-- the same, and how many pixels, where the type is known as n
module _ (unit t n : ℕ) (e : n ≡ t) where
  pub copied_pixels : t < 128 → unit * magnitude t ≡ unit * n
  copied_pixels h = ap (λ (k : ℕ). unit * k) (magnitude_plus t h ∙ sym e)

  pub copied_bytes : t < 128 → data_bytes unit t ≡ unit * n
  copied_bytes h = data_copy unit t h ∙ ap (λ (k : ℕ). unit * k) (sym e)

  pub repeated_pixels : 128 ≤ t → unit * magnitude t ≡ unit * (256 - n)
  repeated_pixels h = ap (λ (k : ℕ). unit * k) (magnitude_minus t h ∙ ap (λ (k : ℕ). 256 - k) (sym e))

-- the pixels of a packet

module _ (unit : ℕ) (b : List ℕ) (at t : ℕ) where
  pub pixels_copy : t < 128 → pixels unit b at t ≡ take (unit * t) (drop at b)
  unfolding pixels
  pixels_copy h = simp (lt-ltb t 128 h)

  pub pixels_repeat : 128 ≤ t → pixels unit b at t ≡ repeated (256 - t) (take unit (drop at b))
  unfolding pixels
  pixels_repeat h = simp (le-ltb t 128 h)

  -- how many they are, where their data lies in b
  pub length_pixels : at + data_bytes unit t ≤ length b → length (pixels unit b at t) ≡ unit * magnitude t
  length_pixels h =
      by_test (λ c. length (pixels unit b at t) ≡ unit * magnitude t) (ltb t 128)
      (λ e.
      let k = ltb-true t 128 e in
      ap length (pixels_copy k) ∙ length-take-le (unit * t) (drop at b) (simp length-drop (omega (arith, data_copy unit t k)))
      ∙ ap (λ (n : ℕ). unit * n) (sym (magnitude_plus t k)))
      (λ e.
      let k = ltb-false t 128 e in
      ap length (pixels_repeat k) ∙ length_repeated (256 - t) (take unit (drop at b))
      ∙ ap (λ (n : ℕ). (256 - t) * n) (length-take-le unit (drop at b) (simp length-drop (omega (arith, data_repeat unit t k))))
      ∙ mul_comm (256 - t) unit ∙ ap (λ (n : ℕ). unit * n) (sym (magnitude_minus t k)))

-- of a body of bytes they are bytes

repeated_bytes : (n : ℕ) (v : List ℕ) → Bytes v → Bytes (repeated n v)
unfolding repeated
repeated_bytes zero v h = tt
repeated_bytes (suc n) v h = bytes_join v (repeated n v) h (repeated_bytes n v h)

pixels_bytes : (unit : ℕ) (b : List ℕ) (at t : ℕ) → Bytes b → Bytes (pixels unit b at t)
unfolding pixels
pixels_bytes unit b at t h =
    let d = bytes_drop at b h in
    cond_holds Bytes (ltb t 128) _ _ (bytes_take (unit * t) (drop at b) d) (repeated_bytes (256 - t) (take unit (drop at b)) (bytes_take unit (drop at b) d))

-- a packet

module _ (unit w : ℕ) (b : List ℕ) (at x : ℕ) where
  -- the column of its pixels, its type, and the column after its pixels
  abbrev from : ℕ
  from = x + get_or b at 0

  abbrev type : ℕ
  type = get_or b (at + 1) 0

  abbrev past : ℕ
  past = from + unit * magnitude type

  pub packet_cut : length b < at + 2 → packet_at unit w b at x ≡ Err BodyEnds
  unfolding packet_at
  packet_cut h = simp (lt-leb (at + 2) (length b) h)

  pub packet_past : at + 2 ≤ length b → w < past → packet_at unit w b at x ≡ Err PastWidth
  unfolding packet_at packet_of
  packet_past h k = simp (le-leb (at + 2) (length b) h, lt-leb past w k)

  pub packet_short : at + 2 ≤ length b → past ≤ w → length b < at + 2 + data_bytes unit type → packet_at unit w b at x ≡ Err BodyEnds
  unfolding packet_at packet_of
  packet_short h k l =
      simp (le-leb (at + 2) (length b) h, le-leb past w k, lt-leb (at + 2 + data_bytes unit type) (length b) l)

  pub packet_whole : at + 2 ≤ length b → past ≤ w → at + 2 + data_bytes unit type ≤ length b
      → packet_at unit w b at x ≡ Ok (packet_to type from past (at + 2 + data_bytes unit type))
  unfolding packet_at packet_of
  packet_whole h k l =
      simp (le-leb (at + 2) (length b) h, le-leb past w k, le-leb (at + 2 + data_bytes unit type) (length b) l)

-- a packet that copies one pair: one of type 1

one_pair_lem : (unit t : ℕ) → one_pair unit t ≡ true → (unit ≡ 2) × (t ≡ 1)
unfolding one_pair
one_pair_lem unit t e = let p = both_true (eqb unit 2) (eqb t 1) e in (eqb-true unit 2 p.0, eqb-true t 1 p.1)

pub one_pair_not : (unit t : ℕ) → (unit ≡ 2 → ⊥) → one_pair unit t ≡ false
unfolding one_pair
one_pair_not unit t h = simp (ne_eqb unit 2 h)

pub one_pair_is : (unit t : ℕ) → unit ≡ 2 → one_pair unit t ≡ eqb t 1
unfolding one_pair
one_pair_is unit t h = simp (eq-eqb unit 2 h)

-- its two pixels, of two bytes

pair_length : (unit t : ℕ) → unit ≡ 2 → t ≡ 1 → unit * magnitude t ≡ 2
pair_length unit t u e = copied_pixels unit t 1 (sym e) (omega arith) ∙ ap (λ (k : ℕ). k * 1) u

pair_bytes : (unit t : ℕ) → unit ≡ 2 → t ≡ 1 → data_bytes unit t ≡ 2
pair_bytes unit t u e = copied_bytes unit t 1 (sym e) (omega arith) ∙ ap (λ (k : ℕ). k * 1) u

pub pair_pixels : (unit : ℕ) (b : List ℕ) (at t : ℕ) → unit ≡ 2 → t ≡ 1 → pixels unit b at t ≡ take 2 (drop at b)
pair_pixels unit b at t u e = pixels_copy unit b at t (omega arith) ∙ ap₂ (λ (i j : ℕ). take (i * j) (drop at b)) u e

-- two bytes of a body
pub pair_taken : (b : List ℕ) (at : ℕ) → at + 2 ≤ length b → take 2 (drop at b) ≡ get_or b at 0 ∷ (get_or b (at + 1) 0 ∷ [])
pair_taken b at h =
    ap (take 2) (drop-cons b at 0 (omega arith))
    ∙ ap (λ (l : List ℕ). get_or b at 0 ∷ take 1 l) (ap (λ (n : ℕ). drop n b) (sym (add-one at)) ∙ drop-cons b (at + 1) 0 (omega arith))

-- where it lies whole in the body and in the row

module _ (unit w : ℕ) (b : List ℕ) (at x : ℕ) where
  pub pair_cut : length b < at + 4 → pair_at unit w b at x ≡ false
  unfolding pair_at
  pair_cut h = simp (lt-leb (at + 4) (length b) h)

  pub pair_other : at + 4 ≤ length b → one_pair unit (get_or b (at + 1) 0) ≡ false → pair_at unit w b at x ≡ false
  unfolding pair_at
  pair_other h k = simp (le-leb (at + 4) (length b) h, k)

  pub pair_by_width : at + 4 ≤ length b → one_pair unit (get_or b (at + 1) 0) ≡ true → pair_at unit w b at x ≡ leb (x + get_or b at 0 + 2) w
  unfolding pair_at
  pair_by_width h k = simp (le-leb (at + 4) (length b) h, k)

  pub record PairIn : Type 0 where
    pub pairs : unit ≡ 2
    pub in_body : at + 4 ≤ length b
    pub one : get_or b (at + 1) 0 ≡ 1
    pub in_row : x + get_or b at 0 + 2 ≤ w

  pub pair_in : pair_at unit w b at x ≡ true → PairIn
  unfolding pair_at
  pair_in e =
      let p = both_true (leb (at + 4) (length b)) _ e in
      let q = both_true (one_pair unit (get_or b (at + 1) 0)) (leb (x + get_or b at 0 + 2) w) p.1 in
      let r = one_pair_lem unit (get_or b (at + 1) 0) q.0 in
      record { pairs = r.0; in_body = leb-true _ _ p.0; one = r.1; in_row = leb-true _ _ q.1 }

  pub pair_whole : PairIn → packet_at unit w b at x ≡ Ok (packet_to 1 (x + get_or b at 0) (x + get_or b at 0 + 2) (at + 4))
  pair_whole p =
      let t = type unit w b at x in
      let m = pair_length unit t p.pairs p.one in
      let d = pair_bytes unit t p.pairs p.one in
      let next : past unit w b at x ≡ x + get_or b at 0 + 2 = omega arith in
      let end : at + 2 + data_bytes unit t ≡ at + 4 = omega arith in
      cc (packet_whole unit w b at x (omega (arith, p.in_body)) (omega (arith, p.in_row)) (omega (arith, p.in_body)), p.one)

-- a packet that is no fault: its pixels lie in the row, its data in the body
pub record PacketIn (unit w : ℕ) (b : List ℕ) (at : ℕ) (q : Packet) : Type 0 where
  pub columns : q.x + unit * magnitude q.code ≡ q.next
  pub in_row : q.next ≤ w
  pub bytes : at + 2 + data_bytes unit q.code ≡ q.end
  pub in_body : q.end ≤ length b

module _ (unit w : ℕ) (b : List ℕ) (at x : ℕ) (q : Packet) (e : packet_at unit w b at x ≡ Ok q) where
  -- a fault is no such packet
  not_fault : {C : Type 0} {r : Refusal} → packet_at unit w b at x ≡ Err r → C
  not_fault f = let z : ◌≡◌ {A = ℕ} 0 1 = cc in absurd (omega arith)

  pub packet_in : PacketIn unit w b at q
  packet_in =
      go (leb (at + 2) (length b)) (leb (past unit w b at x) w) (leb (at + 2 + data_bytes unit (type unit w b at x)) (length b)) refl refl refl
    where
      go : (p s r : Bool) → leb (at + 2) (length b) ≡ p → leb (past unit w b at x) w ≡ s
          → leb (at + 2 + data_bytes unit (type unit w b at x)) (length b) ≡ r → PacketIn unit w b at q
      go true true true h k l =
          let f = packet_whole unit w b at x (leb-true _ _ h) (leb-true _ _ k) (leb-true _ _ l) in
          let s : packet_to (type unit w b at x) (from unit w b at x) (past unit w b at x) (at + 2 + data_bytes unit (type unit w b at x)) ≡ q = cc in
          subst (PacketIn unit w b at) s (record { columns = refl; in_row = leb-true _ _ k; bytes = refl; in_body = leb-true _ _ l })
      go true true false h k l = not_fault (packet_short unit w b at x (leb-true _ _ h) (leb-true _ _ k) (leb-false _ _ l))
      go true false r h k l = not_fault (packet_past unit w b at x (leb-true _ _ h) (leb-false _ _ k))
      go false s r h k l = not_fault (packet_cut unit w b at x (leb-false _ _ h))

-- packets

-- what the exit of a `?` of a walk returns: the fault that was met, and what was left till then
pub seen_refused : {r : Verdict} {f : Refusal} (p : Pass) (k : Walk) (d e : List ℕ) → IsErrAnd r (λ x. x ≡ f) → seen p k d ≡ (Err f, e)
    → record { verdict : r ≡ k.verdict; writes : e ≡ wrote p k.writes d }
seen_refused p k d e i s = seen_gives p k d e _ (s ∙ ap (λ (v : Verdict). (v, e)) (sym (handed_on i)))

module _ (unit w : ℕ) (b : List ℕ) where
  packets_step : (n row at x : ℕ) → 0 < n
      → packets unit w b n row at x ≡ after_packet unit w b row at (packet_at unit w b at x) (λ at' x'. packets unit w b (n - 1) row at' x')
  unfolding packets
  packets_step zero row at x h = absurd (not-suc-le-zero h)
  packets_step (suc n) row at x h =
      ap (λ (k : ℕ). after_packet unit w b row at (packet_at unit w b at x) (λ at' x'. packets unit w b k row at' x')) (sym (sub-one (suc n)))

  pub packets_none : (n row at x : ℕ) → n ≤ 0 → packets unit w b n row at x ≡ ends at
  unfolding packets
  packets_none zero row at x h = refl
  packets_none (suc n) row at x h = absurd (not-suc-le-zero h)

  pub packets_stop : (n row at x : ℕ) → 0 < n → (e : Refusal) → packet_at unit w b at x ≡ Err e → packets unit w b n row at x ≡ fault e
  packets_stop n row at x h e q =
      packets_step n row at x h ∙ ap (λ (p : PacketStep). after_packet unit w b row at p (λ at' x'. packets unit w b (n - 1) row at' x')) q

  pub packets_more : (n row at x : ℕ) → 0 < n → (t to next end : ℕ) → packet_at unit w b at x ≡ Ok (packet_to t to next end)
      → packets unit w b n row at x ≡ and_then (row * w + to) (pixels unit b (at + 2) t) (packets unit w b (n - 1) row end next)
  packets_more n row at x h t to next end q =
      packets_step n row at x h ∙ ap (λ (p : PacketStep). after_packet unit w b row at p (λ at' x'. packets unit w b (n - 1) row at' x')) q

  -- a whole packet, the first behind i of m, and then those behind it, at offset at' and column x'
  module _ (m i row at x at' x' : ℕ) (some : i < m) (q : Packet) (s : packet_at unit w b at x ≡ Ok q) (j : at' ≡ q.end) (k : x' ≡ q.next) where
    packets_next : packets unit w b (m - i) row at x
        ≡ and_then (row * w + q.x) (pixels unit b (at + 2) q.code) (packets unit w b (m - (i + 1)) row at' x')
    packets_next =
        let n : m - i - 1 ≡ m - (i + 1) = omega arith in
        packets_more (m - i) row at x (omega arith) _ _ _ _ s
        ∙ ap (and_then (row * w + q.x) (pixels unit b (at + 2) q.code))
        (ap (λ (c : ℕ). packets unit w b c row q.end q.next) n ∙ ap₂ (λ (y z : ℕ). packets unit w b (m - (i + 1)) row y z) (sym j) (sym k))

    -- how they come out
    pub packets_verdict : (packets unit w b (m - i) row at x).verdict ≡ (packets unit w b (m - (i + 1)) row at' x').verdict
    packets_verdict = ap (λ (c : Walk). c.verdict) packets_next

    -- where it leaves e of d
    pub packets_on : (p : Pass) (d e : List ℕ) → e ≡ stored p d (row * w + q.x) (pixels unit b (at + 2) q.code)
        → seen p (packets unit w b (m - i) row at x) d ≡ seen p (packets unit w b (m - (i + 1)) row at' x') e
    packets_on p d e l =
        ap (λ (c : Walk). seen p c d) packets_next
        ∙ seen_then p (row * w + q.x) (pixels unit b (at + 2) q.code) d (packets unit w b (m - (i + 1)) row at' x')
        ∙ ap (seen p (packets unit w b (m - (i + 1)) row at' x')) (sym l)

  -- the row doesn't bear on how packets come out
  pub packets_row : (n row at x : ℕ) → (packets unit w b n row at x).verdict ≡ (packets unit w b n 0 at x).verdict
  unfolding packets
  packets_row zero row at x = refl
  packets_row (suc n) row at x = go (packet_at unit w b at x) (λ at' x'. packets_row n row at' x')
    where
      go : (p : PacketStep) → ((at' x' : ℕ) → (packets unit w b n row at' x').verdict ≡ (packets unit w b n 0 at' x').verdict)
          → (after_packet unit w b row at p (λ at' x'. packets unit w b n row at' x')).verdict
          ≡ (after_packet unit w b 0 at p (λ at' x'. packets unit w b n 0 at' x')).verdict
      go (Err e) same = refl
      go (Ok p) same = same p.end p.next

  -- their data ends within the body, and they write bytes of it, within a picture of h rows
  pub packets_sound : (h n row at x : ℕ) → at ≤ length b → row < h → Sound b (w * h) (packets unit w b n row at x)
  unfolding packets
  packets_sound h zero row at x i k = sound_ends b (w * h) at i
  packets_sound h (suc n) row at x i k = go (packet_at unit w b at x) refl (λ at' x' j. packets_sound h n row at' x' j k)
    where
      go : (p : PacketStep) → packet_at unit w b at x ≡ p → ((at' x' : ℕ) → at' ≤ length b → Sound b (w * h) (packets unit w b n row at' x'))
          → Sound b (w * h) (after_packet unit w b row at p (λ at' x'. packets unit w b n row at' x'))
      go (Err e) q f = sound_fault b (w * h) e
      go (Ok p) q f =
          let i = packet_in unit w b at x p q in
          sound_then b (w * h) (row * w + p.x) (pixels unit b (at + 2) p.code) (packets unit w b n row p.end p.next)
          (omega (arith, length_pixels unit b (at + 2) p.code (omega (arith, i.bytes, i.in_body)), i.columns, i.in_row, row_in w h row k))
          (pixels_bytes unit b (at + 2) p.code) (f p.end p.next i.in_body)
