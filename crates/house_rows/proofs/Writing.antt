-- How the bytes of the house row follow from the types of its packets: the invariant of `write_row`.
use mathlib.Core.Path.{◌≡◌, refl, sym, ap, ap₂, ◌∙◌, subst}
use mathlib.Core.List.{List, [], ◌∷◌, ◌++◌, Memᴰ}
use Prim.Native.Nat.{ℕ, ◌+◌, ◌-◌, ◌≤◌, ◌<◌}
use native.Mathlib.Omega.{arith}
use lib.ListN.{length, get_or, drop, take, set, length-drop, length-append}
use lib.Seq.{drop-drop, drop-cons, drop-length, length-take-le}
use borrow.Author.Tests.{lt-ltb, le-ltb}
use Rattle.words.specs.Words.{magnitude}
use Rattle.words.specs.Writes.{put}
use Rattle.words.proofs.Laws.{magnitude_plus, magnitude_minus, put_nil, put_one, put_append, length_put}
use Rattle.house_least.specs.Least.{best, table}
use Rattle.house_least.proofs.Laws as laws
use Rattle.house_rows.specs.Row.{RowPacket, repeat, copy, span, size, allowed, house, bytes, house_bytes}
use Rattle.house_rows.specs.Window.{carried}
use Rattle.house_rows.proofs.Packets.{fits, some_packet, repeat_of, copy_of}

-- what a packet carries

pub carried_plus : (t : ℕ) → t < 128 → carried t ≡ 1
unfolding carried
carried_plus t h = simp (lt-ltb t 128 h)

pub carried_minus : (t : ℕ) → 128 ≤ t → carried t ≡ 256 - t
unfolding carried
carried_minus t h = simp (le-ltb t 128 h)

-- a packet of type t with what it carries, stored

module _ (out row : List ℕ) (at x t : ℕ) where
  pub put_repeat : t < 128 → x < length row → put out at (t ∷ get_or row x 0 ∷ []) ≡ put out at (t ∷ take (carried t) (drop x row))
  put_repeat h k = ap (λ (l : List ℕ). put out at (t ∷ l)) (sym (ap₂ (λ (n : ℕ) (l : List ℕ). take n l) (carried_plus t h) (drop-cons row x 0 k)))

  pub put_copy : (n : ℕ) → n ≡ carried t → at + 1 ≤ length out
      → put (set out at t) (at + 1) (take (x + n - x) (drop x row)) ≡ put out at (t ∷ take (carried t) (drop x row))
  put_copy n e room =
      let s : x + n - x ≡ carried t = omega arith in
      ap₂ (λ (d : List ℕ) (m : ℕ). put d (at + 1) (take m (drop x row))) (put_one out at t (omega arith)) s
      ∙ sym (put_append out at (t ∷ []) (take (carried t) (drop x row)) 1 refl room)

-- the first packet of a rest, told by its type byte

pub record Split (s : List ℕ) (t : ℕ) : Type 0 where
  pub some : 1 ≤ magnitude t
  pub inside : magnitude t ≤ length s
  pub within : carried t ≤ length s
  pub packets : length (house s) ≡ 1 + length (house (drop (magnitude t) s))
  pub bytes : house_bytes s ≡ t ∷ (take (carried t) s ++ house_bytes (drop (magnitude t) s))

take_one : (s : List ℕ) → 1 ≤ length s → take 1 s ≡ get_or s 0 0 ∷ []
take_one [] h = absurd (omega arith)
take_one (v ∷ s) h = refl

-- a packet that begins the house row
split_at : (s : List ℕ) (p : RowPacket) → Memᴰ p (allowed s) → house s ≡ p ∷ house (drop (span p) s) → (t : ℕ) → t ≡ get_or (house_bytes s) 0 0 → Split s t
unfolding house_bytes bytes
split_at s (repeat k) i e t q =
    let r = repeat_of k s i in
    let b : house_bytes s ≡ k ∷ (get_or s 0 0 ∷ house_bytes (drop k s)) = ap (λ (ps : List RowPacket). bytes ps s) e in
    let m : magnitude k ≡ k = magnitude_plus k (omega (arith, r.high)) in
    let c : carried k ≡ 1 = carried_plus k (omega (arith, r.high)) in
    subst (λ (x : ℕ). Split s x) (sym (q ∙ ap (λ (l : List ℕ). get_or l 0 0) b))
    (record {
      some = omega (arith, r.low);
      inside = omega (arith, r.fits);
      within = omega (arith, r.low, r.fits);
      packets = omega (arith, ap length e, ap (λ (n : ℕ). length (house (drop n s))) m);
      bytes = b ∙ ap₂ (λ (l : List ℕ) (n : ℕ). k ∷ (l ++ house_bytes (drop n s)))
          (sym (take_one s (omega (arith, r.low, r.fits))) ∙ ap (λ (n : ℕ). take n s) (sym c)) (sym m);
    })
split_at s (copy k) i e t q =
    let r = copy_of k s i in
    let b : house_bytes s ≡ (256 - k) ∷ (take k s ++ house_bytes (drop k s)) = ap (λ (ps : List RowPacket). bytes ps s) e in
    let m : magnitude (256 - k) ≡ k = magnitude_minus (256 - k) (omega arith) ∙ omega arith in
    let c : carried (256 - k) ≡ k = carried_minus (256 - k) (omega arith) ∙ omega arith in
    subst (λ (x : ℕ). Split s x) (sym (q ∙ ap (λ (l : List ℕ). get_or l 0 0) b))
    (record {
      some = omega arith;
      inside = omega arith;
      within = omega arith;
      packets = omega (arith, ap length e, ap (λ (n : ℕ). length (house (drop n s))) m);
      bytes = b ∙ ap₂ (λ (c n : ℕ). (256 - k) ∷ (take c s ++ house_bytes (drop n s))) (sym c) (sym m);
    })

split : (s : List ℕ) → 1 ≤ length s → (t : ℕ) → t ≡ get_or (house_bytes s) 0 0 → Split s t
unfolding house
split [] h t q = absurd (omega arith)
split (v ∷ s) h t q = let (p, w) = laws.step span size allowed fits some_packet v s in split_at (v ∷ s) p (laws.first_mem w.first) w.path t q

house_nil : (house_bytes [] ≡ []) × (length (house []) ≡ 0)
unfolding house_bytes house bytes best table
house_nil = (refl, refl)

-- The writer: the packets before column x are written, n of them, and what follows belongs at here.
pub record Writing (row out₀ : List ℕ) (at : ℕ) (out : List ℕ) (here x n : ℕ) : Type 0 where
  pub stored : put out here (house_bytes (drop x row)) ≡ put out₀ at (house_bytes row)
  pub long : length out ≡ length out₀
  pub room : at + length (house_bytes row) ≤ length out
  pub reached : here + length (house_bytes (drop x row)) ≡ at + length (house_bytes row)
  pub ahead : x ≤ length row
  pub few : n ≤ x
  pub counted : n + length (house (drop x row)) ≡ length (house row)

module _ {row out₀ out : List ℕ} {at here x n : ℕ} (w : Writing row out₀ at out here x n) where
  module _ (t : ℕ) (inside : x < length row) (e : t ≡ get_or (house_bytes (drop x row)) 0 0) where
    first : Split (drop x row) t
    first = split (drop x row) (rw length-drop (omega arith)) t e

    size_first : length (house_bytes (drop x row)) ≡ 1 + carried t + length (house_bytes (drop (magnitude t) (drop x row)))
    size_first =
        let f = first in
        omega (
          arith,
          ap length f.bytes,
          length-append (take (carried t) (drop x row)) (house_bytes (drop (magnitude t) (drop x row))),
          length-take-le (carried t) (drop x row) f.within,
        )

    -- the packet of type t lies in the row, and there is room for it
    pub packet_fits : (x + carried t ≤ length row) × (here + 1 + carried t ≤ length out) × (1 ≤ magnitude t) × (x + magnitude t ≤ length row)
    packet_fits = let f = first in omega (arith, f.some, f.inside, f.within, length-drop x row, w.room, w.reached, size_first)

    pub writing_more : (out' : List ℕ) → out' ≡ put out here (t ∷ take (carried t) (drop x row))
        → Writing row out₀ at out' (here + (1 + carried t)) (x + magnitude t) (n + 1)
    writing_more out' p =
        let f = first in
        let fit = packet_fits in
        let v = t ∷ take (carried t) (drop x row) in
        let lv : length v ≡ 1 + carried t = omega (arith, length-take-le (carried t) (drop x row) f.within) in
        let long' : length out' ≡ length out = ap length p ∙ length_put out here v (omega arith) in
        let rest = drop-drop (magnitude t) x row in
        record {
          stored =
              ap₂ (λ (d r : List ℕ). put d (here + (1 + carried t)) (house_bytes r)) p (sym rest)
              ∙ sym (put_append out here v (house_bytes (drop (magnitude t) (drop x row))) (1 + carried t) lv (omega arith))
              ∙ ap (λ (l : List ℕ). put out here l) (sym f.bytes)
              ∙ w.stored;
          long = long' ∙ w.long;
          room = omega (arith, w.room);
          reached = omega (arith, ap (λ (r : List ℕ). length (house_bytes r)) rest, size_first, w.reached);
          ahead = fit.3;
          few = omega (arith, w.few);
          counted = omega (arith, w.counted, f.packets, ap (λ (r : List ℕ). length (house r)) rest);
        }

  pub writing_done : length row ≤ x → (n ≡ length (house row)) × (here ≡ at + length (house_bytes row)) × (out ≡ put out₀ at (house_bytes row))
  writing_done h =
      let z : x ≡ length row = omega (arith, w.ahead) in
      let d : drop x row ≡ [] = ap (λ (k : ℕ). drop k row) z ∙ drop-length row in (
        omega (arith, w.counted, ap (λ (r : List ℕ). length (house r)) d, house_nil.1),
        omega (arith, w.reached, ap (λ (r : List ℕ). length (house_bytes r)) d, ap length house_nil.0),
        sym (put_nil out here) ∙ ap (λ (l : List ℕ). put out here l) (sym (ap house_bytes d ∙ house_nil.0)) ∙ w.stored,
      )

pub writing_as : {row out₀ out : List ℕ} {at here here' x x' n : ℕ} → Writing row out₀ at out here x n → here' ≡ here → x' ≡ x
    → Writing row out₀ at out here' x' n
writing_as {row} {out₀} {out} {at} {here} {here'} {x} {x'} {n} w e f =
    subst (λ (k : ℕ). Writing row out₀ at out k x' n) (sym e) (subst (λ (k : ℕ). Writing row out₀ at out here k n) (sym f) w)
