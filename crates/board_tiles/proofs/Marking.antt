-- Laws of words of marks: a word's size, its bits, how many are set, the first and the last.
use Prim.Native.Nat.{ℕ, zero, suc, ◌+◌, ◌-◌, ◌*◌, ◌/◌, ◌%◌, ◌^◌, ◌<◌, ◌≤◌}
use mathlib.Core.Path.{◌≡◌, refl, sym, ap, ap₂, ◌∙◌}
use mathlib.Core.Bool.{Bool, true, false, cond}
use native.Mathlib.Omega.{arith}
use native.Mathlib.Nat.{pow-suc, pow-succ', div-div-eq-div-mul, add-zero, mod-eq_of_lt, div-eq_of_lt}
use native.Mathlib.Numerals.{one-add}
use lib.Dec.{lit<, eqb}
use lib.Pow.{pow_pos, pow_mono, mod-pow-add}
use lib.Count.{ones, ones_cat, count_trailing_zeros, trailing_of_zero, under, count_leading_zeros, leading_unique}
use Rattle.board_tiles.specs.Marks.{BITS, bit, word_of, marked, count_of, first_from, last_of, tile_row}
use Rattle.board_tiles.specs.declared.TileRow.{TileRow}

bit_lt : (b : Bool) → bit b < 2
bit_lt true = lit< tt
bit_lt false = lit< tt

-- word_of

pub word_ext : (P Q : ℕ → Bool) (n : ℕ) → ((j : ℕ) → P j ≡ Q j) → word_of P n ≡ word_of Q n
unfolding word_of
word_ext P Q zero h = refl
word_ext P Q (suc n) h = rw (h n, word_ext P Q n h)

pub word_none : (P : ℕ → Bool) → word_of P 0 ≡ 0
unfolding word_of
word_none P = refl

pub word_lt : (P : ℕ → Bool) (n : ℕ) → word_of P n < 2 ^ n
unfolding word_of
word_lt P zero = lit< tt
word_lt P (suc n) = go (P n) (word_lt P n)
  where
    go : (b : Bool) → word_of P n < 2 ^ n → bit b * 2 ^ n + word_of P n < 2 ^ suc n
    go true h = let e = pow-suc 2 n in omega arith
    go false h = let e = pow-suc 2 n in omega arith

-- the lowest bit, and the rest
pub word_low : (P : ℕ → Bool) (n : ℕ) → word_of P (suc n) ≡ bit (P 0) + 2 * word_of (λ i. P (suc i)) n
unfolding word_of
word_low P zero = omega arith
word_low P (suc n) = go (P (suc n)) (word_low P n)
  where
    go : (b : Bool) → word_of P (suc n) ≡ bit (P 0) + 2 * word_of (λ i. P (suc i)) n
        → bit b * 2 ^ suc n + word_of P (suc n) ≡ bit (P 0) + 2 * (bit b * 2 ^ n + word_of (λ i. P (suc i)) n)
    go true e = let p = pow-suc 2 n in omega arith
    go false e = let p = pow-suc 2 n in omega arith

-- marked

-- "bit i set exactly if tile i" has the property
pub marked_is : (i : ℕ) (P : ℕ → Bool) (n : ℕ) → i < n → marked (word_of P n) i ≡ P i
marked_is i P n h = ap (λ (x : ℕ). eqb x 1) (digit i P n h) ∙ back (P i)
  where
    digit : (i : ℕ) (P : ℕ → Bool) (n : ℕ) → i < n → word_of P n / 2 ^ i % 2 ≡ bit (P i)
    digit i P zero h = absurd (omega arith)
    digit zero P (suc n) h =
        let low = word_low P n in
        let b = bit_lt (P 0) in
        let one : word_of P (suc n) / 1 ≡ word_of P (suc n) = omega arith in
        rw one (omega arith)
    digit (suc i) P (suc n) h =
        let low = word_low P n in
        let b = bit_lt (P 0) in
        let half : word_of P (suc n) / 2 ≡ word_of (λ j. P (suc j)) n = omega arith in
        rw (pow-succ' 2 i, ← div-div-eq-div-mul, half) (digit i (λ j. P (suc j)) n (omega arith))

    back : (b : Bool) → eqb (bit b) 1 ≡ b
    back true = refl
    back false = refl

-- no bit is set at or past n
pub marked_past : (P : ℕ → Bool) (n i : ℕ) → n ≤ i → marked (word_of P n) i ≡ false
marked_past P n i h =
    let l = word_lt P n in
    let m = pow_mono {i = n} {j = i} h in
    ap (λ (x : ℕ). eqb (x % 2) 1) (div-eq_of_lt {n = word_of P n} {m = 2 ^ i} (omega arith))

-- a word is that of its own marks
pub word_again : (w n : ℕ) → word_of (marked w) n ≡ w % 2 ^ n
unfolding word_of
word_again w zero = omega arith
word_again w (suc n) = ap₂ (λ (x y : ℕ). x * 2 ^ n + y) (digit (w / 2 ^ n)) (word_again w n) ∙ sym (mod-pow-add w 1 n) ∙ ap (λ (k : ℕ). w % 2 ^ k) (one-add n)
  where
    digit : (d : ℕ) → bit (eqb (d % 2) 1) ≡ d % 2
    digit d = by (d % 2) (omega arith)
      where
        by : (r : ℕ) → r < 2 → bit (eqb r 1) ≡ r
        by zero h = refl
        by (suc zero) h = refl
        by (suc (suc r)) h = absurd (omega arith)

-- how many

pub count_is : (P : ℕ → Bool) (n : ℕ) → ones (word_of P n) ≡ count_of P n
unfolding word_of count_of ones
count_is P zero = refl
count_is P (suc n) = ones_cat n (bit (P n)) (word_of P n) (word_lt P n) ∙ go (P n) (count_is P n)
  where
    go : (b : Bool) → ones (word_of P n) ≡ count_of P n → ones (bit b) + ones (word_of P n) ≡ bit b + count_of P n
    go true e = rw e
    go false e = rw e

-- the last: it stands under the leading zeros

module _ (P : ℕ → Bool) where
  pub last_under : (n : ℕ) → n ≤ BITS → 0 < word_of P n → count_leading_zeros BITS (word_of P n) + suc (last_of P n) ≡ BITS
  unfolding word_of last_of
  last_under zero h some = absurd (omega arith)
  last_under (suc n) h some = go (P n) (last_under n) some
    where
      go : (b : Bool) → (n ≤ BITS → 0 < word_of P n → count_leading_zeros BITS (word_of P n) + suc (last_of P n) ≡ BITS)
          → 0 < bit b * 2 ^ n + word_of P n → count_leading_zeros BITS (bit b * 2 ^ n + word_of P n) + suc (cond b n (last_of P n)) ≡ BITS
      go true rec s =
          let e = pow-suc 2 n in
          let l = word_lt P n in
          let u = leading_unique BITS (1 * 2 ^ n + word_of P n) (63 - n) (suc n) (omega arith) (omega arith) (omega arith) in
          omega arith
      go false rec s =
          let z : 0 * 2 ^ n + word_of P n ≡ word_of P n = omega arith in
          rw z (rec (omega arith) (omega arith))

  pub last_none : (n : ℕ) → word_of P n ≡ 0 → last_of P n ≡ BITS
  unfolding word_of last_of
  last_none zero e = refl
  last_none (suc n) e = go (P n) (last_none n) e
    where
      go : (b : Bool) → (word_of P n ≡ 0 → last_of P n ≡ BITS) → bit b * 2 ^ n + word_of P n ≡ 0 → cond b n (last_of P n) ≡ BITS
      go true rec z = let p = pow_pos n in absurd (omega arith)
      go false rec z = rec (omega arith)

-- the first: it stands above the trailing zeros
first_above : (n k i : ℕ) (P : ℕ → Bool) → k + i ≡ BITS → n ≤ k → count_trailing_zeros k (word_of (λ j. P (i + j)) n) + i ≡ first_from P n i
unfolding word_of first_from count_trailing_zeros
first_above zero k i P e h = rw (trailing_of_zero k) e
first_above (suc n) zero i P e h = absurd (omega arith)
first_above (suc n) (suc k) i P e h =
    let W = word_of (λ j. P (i + j)) (suc n) in
    let low = word_low (λ j. P (i + j)) n in
    let b = bit_lt (P (i + 0)) in
    let odd : W % 2 ≡ bit (P (i + 0)) = omega arith in
    let half : W / 2 ≡ word_of (λ j. P (i + suc j)) n = omega arith in
    let shift : word_of (λ j. P (i + suc j)) n ≡ word_of (λ j. P (suc i + j)) n = word_ext _ _ n (λ j. ap P (omega arith)) in
    ap (λ (x : ℕ). under x (count_trailing_zeros k (W / 2)) + i) odd ∙ ap (λ (x : ℕ). under (bit (P (i + 0))) (count_trailing_zeros k x) + i) (half ∙ shift)
    ∙ ap (λ (x : ℕ). under (bit (P x)) (count_trailing_zeros k (word_of (λ j. P (suc i + j)) n)) + i) (add-zero i)
    ∙ go (P i) (first_above n k (suc i) P (omega arith) (omega arith))
  where
    go : (b : Bool) → count_trailing_zeros k (word_of (λ j. P (suc i + j)) n) + suc i ≡ first_from P n (suc i)
        → under (bit b) (count_trailing_zeros k (word_of (λ j. P (suc i + j)) n)) + i ≡ cond b i (first_from P n (suc i))
    go true r = omega arith
    go false r = omega arith

pub first_is : (P : ℕ → Bool) (n : ℕ) → n ≤ BITS → count_trailing_zeros BITS (word_of P n) ≡ first_from P n 0
first_is P n h =
    let e = word_ext (λ j. P (0 + j)) P n (λ j. ap P (omega arith)) in
    ap (count_trailing_zeros BITS) (sym e) ∙ sym (add-zero _) ∙ first_above n BITS 0 P refl h

-- the same of any word of 64 bits

module _ (w : ℕ) (small : w < 2 ^ 64) where
  pub whole : word_of (marked w) BITS ≡ w
  whole = word_again w BITS ∙ mod-eq_of_lt small

  pub ones_count : ones w ≡ count_of (marked w) BITS
  ones_count = ap ones (sym whole) ∙ count_is (marked w) BITS

  pub trailing_first : count_trailing_zeros BITS w ≡ first_from (marked w) BITS 0
  trailing_first = ap (count_trailing_zeros BITS) (sym whole) ∙ first_is (marked w) BITS (omega arith)

  pub none_last : w ≡ 0 → last_of (marked w) BITS ≡ BITS
  none_last e = last_none (marked w) BITS (whole ∙ e)

  pub leading_last : 0 < w → count_leading_zeros BITS w + suc (last_of (marked w) BITS) ≡ BITS
  leading_last h = ap (λ (x : ℕ). count_leading_zeros BITS x + suc (last_of (marked w) BITS)) (sym whole)
      ∙ last_under (marked w) BITS (omega arith) (omega (arith, whole))

-- tile_row, by its fields

abbrev row_of : ℕ → ℕ → ℕ → TileRow
row_of count first last = record { count = count; first = first; last = last }

pub row_is : (w count first last : ℕ) → count ≡ count_of (marked w) BITS → first ≡ first_from (marked w) BITS 0 → last ≡ last_of (marked w) BITS
    → row_of count first last ≡ tile_row w
unfolding tile_row
row_is w count first last c f l =
    ap₂ (λ (x y : ℕ). row_of x y last) c f ∙ ap (row_of (count_of (marked w) BITS) (first_from (marked w) BITS 0)) l

-- the loop from the last tile to the first: the word of the tiles from i on
pub record Spelling (P : ℕ → Bool) (count w i : ℕ) : Type 0 where
  pub within : i ≤ count
  pub most : count ≤ BITS
  pub rest : w ≡ word_of (λ k. P (i + k)) (count - i)

module _ (P : ℕ → Bool) (count : ℕ) where
  pub spelling_first : count ≤ BITS → Spelling P count 0 count
  spelling_first h =
      let n : count - count ≡ 0 = omega arith in
      record { within = omega arith; most = h; rest = sym (ap (word_of (λ k. P (count + k))) n ∙ word_none (λ k. P (count + k))) }

  module _ (w i : ℕ) (s : Spelling P count w i) where
    -- there is room for one bit more
    pub spelling_room : 0 < i → w + w + 1 < 2 ^ 64
    spelling_room h =
        let l = word_lt (λ k. P (i + k)) (count - i) in
        let m = pow_mono {i = suc (count - i)} {j = 64} (omega (arith, s.most, s.within)) in
        let e = pow-suc 2 (count - i) in
        omega (arith, s.rest)

    pub spelling_again : (j : ℕ) → j + 1 ≡ i → (b : Bool) → P j ≡ b → (v : ℕ) → v ≡ w + w + bit b → Spelling P count v j
    spelling_again j e b t v f =
        let low = word_low (λ k. P (j + k)) (count - i) in
        let shift : word_of (λ k. P (j + suc k)) (count - i) ≡ word_of (λ k. P (i + k)) (count - i) = word_ext _ _ (count - i) (λ k. ap P (omega arith)) in
        let first : bit (P (j + 0)) ≡ bit b = ap (λ (x : ℕ). bit (P x)) (add-zero j) ∙ ap bit t in
        let whole = ap (word_of (λ k. P (j + k))) (let n : suc (count - i) ≡ count - j = omega (arith, s.within) in n) in
        record { within = omega (arith, s.within); most = s.most; rest = omega (arith, s.rest) }

    pub spelling_done : i ≤ 0 → w ≡ word_of P count
    spelling_done h =
        let z : i ≡ 0 = omega arith in
        let n : count - i ≡ count = omega arith in
        s.rest ∙ ap (word_of (λ k. P (i + k))) n ∙ word_ext (λ k. P (i + k)) P count (λ k. ap P (omega arith))
