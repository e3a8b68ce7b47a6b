-- Laws of kind 12, LC: what a row's start says, what a row, rows and a body come to.
use mathlib.Core.Path.{◌≡◌, ap, ap₂, ◌∙◌, sym, refl, subst}
use mathlib.Core.List.{List}
use Prim.Native.Nat.{ℕ, suc, zero, ◌≤◌, ◌<◌, ◌+◌, ◌-◌, ◌*◌}
use native.Mathlib.Nat.{not-suc-le-zero}
use native.Mathlib.Numerals.{sub-one}
use native.Mathlib.Omega.{arith}
use borrow.Author.Tests.{le-leb, lt-leb, leb-true, leb-false}
use lib.Dec.{leb}
use lib.ListN.{length, get_or}
use Rattle.std.specs.Prelude.{Result, Ok, Err}
use Rattle.words.specs.Words.{u16_at, require◌else◌then◌}
use Rattle.words.proofs.Tests.{by_test}
use Rattle.answer.specs.declared.Refusal.{Refusal}
use Rattle.answer.specs.declared.Refusal.TheVariants.{BodyEnds, PastHeight}
use Rattle.walk.specs.declared.Pass.{Pass}
use Rattle.walk.specs.Walk.{Walk, ends, fault, followed, wrote}
use Rattle.walk.proofs.Laws.{seen, seen_onward, seen_stopped}
use Rattle.walk.proofs.Sound.{Sound, sound_ends, sound_fault, sound_onward}
use Rattle.read_packets.proofs.Laws.{packets_sound}
use Rattle.read_lc.specs.Lc.{start_of, start_at, after_start, row_at, rows, lc}
use Rattle.read_lc.specs.declared.Start.{Start}

-- a row's start

module _ (b : List ℕ) (at : ℕ) where
  pub start_cut : length b < at + 1 → start_at b at ≡ Err BodyEnds
  unfolding start_at
  start_cut h = simp (lt-leb (at + 1) (length b) h)

  pub start_whole : at + 1 ≤ length b → start_at b at ≡ Ok (start_of (get_or b at 0) (at + 1))
  unfolding start_at
  start_whole h = simp (le-leb (at + 1) (length b) h)

-- behind a start that is no fault the packets begin within the body
pub start_in : (b : List ℕ) (at : ℕ) (s : Start) → start_at b at ≡ Ok s → s.from ≤ length b
start_in b at s e =
    by_test (λ p. s.from ≤ length b) (leb (at + 1) (length b))
    (λ h.
    let k = leb-true (at + 1) (length b) h in
    let f = start_whole b at k in
    let r : start_of (get_or b at 0) (at + 1) ≡ s = cc in
    subst (λ (r : Start). r.from ≤ length b) r k)
    (λ h.
    let f = start_cut b at (leb-false (at + 1) (length b) h) in
    let z : ◌≡◌ {A = ℕ} 0 1 = cc in
    absurd (omega arith))

-- a row

module _ (w : ℕ) (b : List ℕ) where
  pub row_as : (row at : ℕ) (s : Result Start Refusal) → start_at b at ≡ s → row_at w b row at ≡ after_start w b row s
  unfolding row_at
  row_as row at s e = ap (after_start w b row) e

  -- its data ends within the body, and it writes bytes of it, within a picture of h rows
  pub row_sound : (h row at : ℕ) → row < h → Sound b (w * h) (row_at w b row at)
  row_sound h row at k = go (start_at b at) refl
    where
      go : (s : Result Start Refusal) → start_at b at ≡ s → Sound b (w * h) (row_at w b row at)
      go (Err e) q = rw (row_as row at (Err e) q) (sound_fault b (w * h) e)
      go (Ok s) q = rw (row_as row at (Ok s) q) (packets_sound 1 w b h s.count row s.from 0 (start_in b at s q) k)

-- rows

module _ (w : ℕ) (b : List ℕ) where
  pub rows_none : (n row at : ℕ) → n ≤ 0 → rows w b n row at ≡ ends at
  unfolding rows
  rows_none zero row at k = refl
  rows_none (suc n) row at k = absurd (not-suc-le-zero k)

  rows_step : (n row at : ℕ) → 0 < n → rows w b n row at ≡ followed (row_at w b row at) (λ end. rows w b (n - 1) (row + 1) end)
  unfolding rows
  rows_step zero row at k = absurd (not-suc-le-zero k)
  rows_step (suc n) row at k = ap (λ (m : ℕ). followed (row_at w b row at) (λ end. rows w b m (row + 1) end)) (sym (sub-one (suc n)))

  -- a row, which leaves e of d: the rows after it, up to row stop, if it ends; no more, if it meets a fault
  module _ (p : Pass) (d e : List ℕ) (stop row at : ℕ) (some : row < stop) (left : e ≡ wrote p (row_at w b row at).writes d) where
    pub rows_on : (end : ℕ) → (row_at w b row at).verdict ≡ Ok end
        → seen p (rows w b (stop - row) row at) d ≡ seen p (rows w b (stop - (row + 1)) (row + 1) end) e
    rows_on end v =
        let n : stop - row - 1 ≡ stop - (row + 1) = omega arith in
        ap (λ (k : Walk). seen p k d) (rows_step (stop - row) row at (omega arith))
        ∙ seen_onward p (row_at w b row at) (λ end. rows w b (stop - row - 1) (row + 1) end) d e left end v
        ∙ ap (λ (n : ℕ). seen p (rows w b n (row + 1) end) e) n

    pub rows_stopped : (f : Refusal) → (row_at w b row at).verdict ≡ Err f → seen p (rows w b (stop - row) row at) d ≡ (Err f, e)
    rows_stopped f v =
        ap (λ (k : Walk). seen p k d) (rows_step (stop - row) row at (omega arith))
        ∙ seen_stopped p (row_at w b row at) (λ end. rows w b (stop - row - 1) (row + 1) end) d e left f v

  -- their data ends within the body, and they write bytes of it, within a picture of h rows
  pub rows_sound : (h n row at : ℕ) → at ≤ length b → row + n ≤ h → Sound b (w * h) (rows w b n row at)
  unfolding rows
  rows_sound h zero row at i k = sound_ends b (w * h) at i
  rows_sound h (suc n) row at i k =
      sound_onward b (w * h) (row_at w b row at).writes (row_at w b row at).verdict (λ end. rows w b n (row + 1) end) (row_sound w b h row at (omega arith))
      (λ end j. rows_sound h n (row + 1) end j (omega arith))

-- a body

module _ (w h : ℕ) (b : List ℕ) where
  pub lc_cut : length b < 4 → lc w h b ≡ fault BodyEnds
  unfolding lc
  lc_cut k = simp (lt-leb 4 (length b) k)

  module _ (first n : ℕ) (k : 4 ≤ length b) (p : first ≡ u16_at b 0) (q : n ≡ u16_at b 2) where
    pub lc_past : h < first + n → lc w h b ≡ fault PastHeight
    unfolding lc
    lc_past l = simp (le-leb 4 (length b) k, lt-leb (u16_at b 0 + u16_at b 2) h (omega (arith, p, q)))

    pub lc_open : first + n ≤ h → lc w h b ≡ rows w b n first 4
    unfolding lc
    lc_open l =
        simp (le-leb 4 (length b) k, le-leb (u16_at b 0 + u16_at b 2) h (omega (arith, p, q))) (ap₂ (λ (x y : ℕ). rows w b x y 4) (sym q) (sym p))

  -- its data ends within it, and it writes bytes of it, within the picture
  pub lc_sound : Sound b (w * h) (lc w h b)
  unfolding lc
  lc_sound =
      by_test (λ t. Sound b (w * h)
      (require t else fault BodyEnds then require leb (u16_at b 0 + u16_at b 2) h else fault PastHeight then rows w b (u16_at b 2) (u16_at b 0)
      4)) (leb 4 (length b))
      (λ c. by_test (λ t. Sound b (w * h) (require t else fault PastHeight then rows w b (u16_at b 2) (u16_at b 0) 4)) (leb (u16_at b 0 + u16_at b 2) h)
      (λ d. rows_sound w b h (u16_at b 2) (u16_at b 0) 4 (leb-true _ _ c) (leb-true _ _ d)) (λ d. sound_fault b (w * h) PastHeight))
      (λ c. sound_fault b (w * h) BodyEnds)
