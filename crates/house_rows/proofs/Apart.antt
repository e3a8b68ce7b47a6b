-- "129 pixels, no neighbours equal, take 131 bytes, first packet a repeat of 1" (document 01, "Numbers to try"), of every such row: `apart_row`.
-- The idea: where no neighbours are equal a repeat has one pixel, so packets take a byte for each pixel and one more for each packet (`apart_size`);
-- 129 pixels want two packets at least, a repeat of 1 and a copy of 128 are two, and the tie rule puts the repeat first.
use mathlib.Core.Path.{◌≡◌, refl, sym, ap, ◌∙◌, subst}
use mathlib.Core.List.{List, [], ◌∷◌}
use mathlib.Core.Logic.{⊎_elim}
use Prim.Native.Nat.{ℕ, ◌+◌, ◌*◌, ◌≤◌, ◌<◌}
use native.Mathlib.Omega.{arith}
use lib.ListN.{length, get_or, drop, length-drop, drop_of_length-le, get_or-replicate}
use lib.Seq.{get_or-drop, get_or-take}
use Rattle.house_least.specs.Least.{sum, stop, go, Least, Preferred, end, next}
use Rattle.house_least.proofs.Laws.{le_or_lt}
use Rattle.house_rows.specs.Row.{RowPacket, repeat, copy, span, size, allowed, Before, house, bytes, house_bytes}
use Rattle.house_rows.specs.RowRule.{Through, Apart}
use Rattle.house_rows.proofs.Packets.{Repeats, repeat_of, copy_of, repeat_mem, copy_mem}
use Rattle.house_rows.proofs.RowRule.{bytes_size, way_encodes, house_way, house_least, house_ties}

apart_drop : (n : ℕ) (s : List ℕ) → Apart s → Apart (drop n s)
apart_drop n s a i h e =
    let j : n + (i + 1) ≡ n + i + 1 = omega arith in
    a (n + i) (omega (arith, length-drop n s)) (sym (get_or-drop n s i 0) ∙ e ∙ get_or-drop n s (i + 1) 0 ∙ ap (λ (k : ℕ). get_or s k 0) j)

-- a repeat has one pixel
repeat_one : (n : ℕ) (s : List ℕ) → Apart s → Repeats n s → n ≡ 1
repeat_one n s a r =
    ⊎_elim {C = n ≡ 1} (λ (h : 2 ≤ n). absurd (a 0 (omega (arith, r.fits)) (at 0 (omega arith) ∙ sym (at 1 (omega arith)))))
    (λ (h : n < 2). omega (arith, r.low))
    (le_or_lt 2 n)
  where
    at : (i : ℕ) → i < n → get_or s i 0 ≡ get_or s 0 0
    at i h = sym (get_or-take n s i 0 h) ∙ ap (λ (l : List ℕ). get_or l i 0) r.all ∙ get_or-replicate n i (get_or s 0 0) 0 h

-- the packets of such a row take a byte for each pixel, and one more for each packet
apart_size : {s : List ℕ} {ps : List RowPacket} → Through s ps → Apart s → sum size ps ≡ length s + length ps
unfolding sum
apart_size stop a = refl
apart_size (go {s = s} {m = repeat n} i w) a =
    let r = repeat_of n s i in
    omega (arith, repeat_one n s a r, r.fits, apart_size w (apart_drop n s a), length-drop n s)
apart_size (go {s = s} {m = copy n} i w) a = omega (arith, copy_of n s i, apart_size w (apart_drop n s a), length-drop n s)

-- a packet has 128 pixels at most
spans : {s : List ℕ} {ps : List RowPacket} → Through s ps → length s ≤ 128 * length ps
spans stop = omega arith
spans (go {s = s} {m = repeat n} i w) = let r = repeat_of n s i in omega (arith, r.high, spans w, length-drop n s)
spans (go {s = s} {m = copy n} i w) = omega (arith, copy_of n s i, spans w, length-drop n s)

-- a repeat of 1 and a copy of 128
abbrev two : List RowPacket
two = repeat 1 ∷ copy 128 ∷ []

two_through : (s : List ℕ) → length s ≡ 129 → Through s two
two_through [] l = absurd (omega arith)
two_through (v ∷ s) l =
    go (repeat_mem 1 v s (omega arith) (omega arith))
    (go (copy_mem s 128 (omega arith) (omega arith) (omega arith))
    (subst (λ (x : List ℕ). Through x []) (sym (drop_of_length-le s {i = 128} (omega arith))) stop))

two_least : (s : List ℕ) → length s ≡ 129 → Apart s → Least span size allowed s two
two_least s l a =
    record { way = two_through s l; least = λ ns w. omega (arith, apart_size (two_through s l) a, apart_size w a, spans w) }

first_one : {s : List ℕ} {n : ℕ} {ms : List RowPacket} → Apart s → Through s (repeat n ∷ ms) → n ≡ 1
first_one a (go {s = s} {m = repeat n} i w) = repeat_one n s a (repeat_of n s i)

first_repeat : (s : List ℕ) (ps : List RowPacket) → length s ≡ 129 → Apart s → Preferred span size allowed Before s ps → get_or (bytes ps s) 0 0 ≡ 1
unfolding bytes
first_repeat s ps l a end = absurd (omega arith)
first_repeat s ps l a (next {m = copy n} least before rest) = absurd (before (repeat 1) (copy 128 ∷ []) (two_least s l a))
first_repeat s ps l a (next {m = repeat n} least before rest) = first_one a least.way

pub apart_row : (s : List ℕ) → length s ≡ 129 → Apart s → (length (house_bytes s) ≡ 131) × (get_or (house_bytes s) 0 0 ≡ 1)
unfolding house_bytes
apart_row s l a =
    let w = house_way s in
    let t = two_through s l in (
      omega (arith, bytes_size w, apart_size w a, spans w, house_least (bytes two s) s (way_encodes t), bytes_size t, apart_size t a),
      first_repeat s (house s) l a (house_ties s),
    )
