-- What a panel relies on: the theorems `word_holds` and `map_holds`. A word's bits are the tiles that have a change (`marked_is`), so that each
-- sentence comes to one about tiles; a pixel's tile is found by dividing its column and its row by 8.
use Prim.Native.Nat.{ℕ, zero, suc, ◌+◌, ◌-◌, ◌*◌, ◌/◌, ◌%◌, ◌^◌, ◌≤◌, ◌<◌}
use mathlib.Core.Path.{◌≡◌, refl, sym, ap, ap₂, ◌∙◌}
use mathlib.Core.List.{List, [], ◌∷◌, ◌++◌}
use mathlib.Core.Bool.{Bool, true, false, not, cond, ◌&&◌, ◌||◌}
use native.Mathlib.Omega.{arith}
use native.Mathlib.Nat.{mul_comm, mul-suc, mul-zero, mul-add-div, mul-add-mod_self_left, div-eq_of_lt, mod-eq_of_lt, div-add-mod', mod-lt, div-lt_iff_lt-mul}
use borrow.Author.Tests.{leb-true, leb-false, ltb-true, ltb-false, eq-eqb, eqb-true, eqb-false}
use lib.Count.{count_trailing_zeros, trailing_of_zero}
use lib.Dec.{eqb, leb, ltb}
use lib.ListN.{length, get_or, take, drop, replicate, get_or-append}
use lib.Seq.{take_at, drop_at, get_or-take, drop-cons}
use Rattle.words.specs.Writes.{put}
use Rattle.words.proofs.Tests.{by_test, both_true}
use Rattle.format.specs.Limits.{size_ok, Sized}
use Rattle.format.proofs.Laws.{size_ok_in}
use Rattle.answer.specs.Answer.{done}
use Rattle.state.specs.Outcome.{Outcome, lent_bytes, leaves}
use Rattle.state.proofs.Laws.{passed}
use Rattle.board_tiles.specs.Tiles.{TILE, tiles, any, changed, changed_at, tile_changed}
use Rattle.board_tiles.specs.Marks.{BITS, bit, word_of, marked, count_of, first_from, last_of, tile_row}
use Rattle.board_tiles.specs.Mapping.{tile_word, words_from, tile_words, tile_map}
use Rattle.board_tiles.specs.Panel.{counted, tiles_changed, redrawn_at, redrawn, ChangedPixel, WordHolds, MapHolds, words_after}
use Rattle.board_tiles.proofs.Laws.{any_none, changed_in, changed_right, changed_under, length_words}
use Rattle.board_tiles.proofs.Marking.{whole, marked_is, marked_past, trailing_first, none_last}
use Rattle.board_tiles.proofs.Noting.{rows_inside}

no : {X : Type 0} → true ≡ false → X
no e = let z : ◌≡◌ {A = ℕ} 1 0 = ap bit e in absurd (omega arith)

-- any: where it is found

pub any_found : (P : ℕ → Bool) (n k : ℕ) → k < n → P k ≡ true → any P n ≡ true
unfolding any
any_found P zero k h e = absurd (omega arith)
any_found P (suc n) k h e =
    by_test (λ _. (any P n || P n) ≡ true) (eqb k n)
    (λ s. right (any P n) (P n) (ap P (sym (eqb-true k n s)) ∙ e))
    (λ s. left (any P n) (P n) (any_found P n k (under s) e))
  where
    left : (s t : Bool) → s ≡ true → (s || t) ≡ true
    left s t e = ap (λ (x : Bool). x || t) e

    right : (s t : Bool) → t ≡ true → (s || t) ≡ true
    right true t e = refl
    right false t e = e

    under : eqb k n ≡ false → k < n
    under s = let d = eqb-false k n s in apart d
      where
        apart : (k ≡ n → ⊥) → k < n
        apart d = omega arith

pub any_where : (P : ℕ → Bool) (n : ℕ) → any P n ≡ true → (k : ℕ) × (k < n) × (P k ≡ true)
unfolding any
any_where P zero e = no (sym e)
any_where P (suc n) e =
    by_test (λ t. (any P n || t) ≡ true → (k : ℕ) × (k < suc n) × (P k ≡ true)) (P n)
    (λ s f. (n, omega arith, s))
    (λ s f. let r = any_where P n (first (any P n) f) in (r.0, omega (arith, r.1), r.2))
    e
  where
    first : (s : Bool) → (s || false) ≡ true → s ≡ true
    first true e = refl
    first false e = e

-- words of 64 bits

module _ (P : ℕ → Bool) where
  -- where one of the numbers has the property, the first has it and is no larger, and the last has it and is no smaller
  first_found : (n i k : ℕ) → i ≤ k → k < i + n → P k ≡ true → (P (first_from P n i) ≡ true) × (first_from P n i ≤ k)
  unfolding first_from
  first_found zero i k a b e = absurd (omega arith)
  first_found (suc n) i k a b e =
      by_test (λ t. (P (cond t i (first_from P n (suc i))) ≡ true) × (cond t i (first_from P n (suc i)) ≤ k)) (P i)
      (λ s. (s, a))
      (λ s. first_found n (suc i) k (past s) (omega arith) e)
    where
      past : P i ≡ false → suc i ≤ k
      past s = apart (λ q. no (sym e ∙ ap P (sym q) ∙ s))
        where
          apart : (i ≡ k → ⊥) → suc i ≤ k
          apart d = omega arith

  last_found : (n k : ℕ) → k < n → P k ≡ true → (P (last_of P n) ≡ true) × (k ≤ last_of P n)
  unfolding last_of
  last_found zero k a e = absurd (omega arith)
  last_found (suc n) k a e =
      by_test (λ t. (P (cond t n (last_of P n)) ≡ true) × (k ≤ cond t n (last_of P n))) (P n)
      (λ s. (s, omega arith))
      (λ s. last_found n k (under s) e)
    where
      under : P n ≡ false → k < n
      under s = apart (λ q. no (sym e ∙ ap P q ∙ s))
        where
          apart : (k ≡ n → ⊥) → k < n
          apart d = omega arith

  -- a word that is not 0 has a mark
  some_marked : (n : ℕ) → 0 < word_of P n → (k : ℕ) × (k < n) × (P k ≡ true)
  unfolding word_of
  some_marked zero h = absurd (omega arith)
  some_marked (suc n) h =
      by_test (λ t. 0 < bit t * 2 ^ n + word_of P n → (k : ℕ) × (k < suc n) × (P k ≡ true)) (P n)
      (λ s g. (n, omega arith, s))
      (λ s g. let r = some_marked n (omega arith) in (r.0, omega (arith, r.1), r.2))
      h

module _ (word : ℕ) (small : word < 2 ^ 64) where
  within : (i : ℕ) → marked word i ≡ true → i < BITS
  within i e =
      by_test (λ _. i < BITS) (leb BITS i)
      (λ t. no (sym e ∙ ap (λ (w : ℕ). marked w i) (sym (whole word small)) ∙ marked_past (marked word) BITS i (leb-true BITS i t)))
      (λ t. leb-false BITS i t)

  some : 0 < word → (k : ℕ) × (k < BITS) × (marked word k ≡ true)
  some h = some_marked (marked word) BITS (omega (arith, whole word small))

  pub word_holds : WordHolds word
  unfolding tile_row
  word_holds =
      record {
        none_first = λ e. sym (trailing_first word small) ∙ ap (count_trailing_zeros BITS) e ∙ trailing_of_zero BITS;
        none_last = none_last word small;
        first_marked = λ h. let k = some h in (first_found (marked word) BITS 0 k.0 (omega arith) (omega (arith, k.1)) k.2).0;
        last_marked = λ h. let k = some h in (last_found (marked word) BITS k.0 k.1 k.2).0;
        between =
            λ i e.
            ((first_found (marked word) BITS 0 i (omega arith) (omega (arith, within i e)) e).1, (last_found (marked word) BITS i (within i e) e).1);
      }

-- count_of

module _ (P : ℕ → Bool) where
  count_add : (a b : ℕ) → count_of P (a + b) ≡ count_of P a + count_of (λ k. P (a + k)) b
  unfolding count_of
  count_add a zero = ap (count_of P) (let e : a + 0 ≡ a = omega arith in e) ∙ (let e : count_of P a ≡ count_of P a + 0 = omega arith in e)
  count_add a (suc b) =
      let i = count_add a b in
      let e : a + suc b ≡ suc (a + b) = omega arith in
      ap (count_of P) e ∙ (let f : bit (P (a + b)) + count_of P (a + b) ≡ count_of P a + (bit (P (a + b)) + count_of (λ k. P (a + k)) b) = omega arith in f)

  -- nothing from m on has the property
  count_cut : (m n : ℕ) → m ≤ n → ((k : ℕ) → m ≤ k → P k ≡ false) → count_of P n ≡ count_of P m
  unfolding count_of
  count_cut m n h f = ap (count_of P) (let e : n ≡ m + (n - m) = omega arith in e) ∙ count_add m (n - m) ∙ (let z = none (n - m) in omega arith)
    where
      none : (b : ℕ) → count_of (λ k. P (m + k)) b ≡ 0
      none zero = refl
      none (suc b) = let z = none b in let e = ap bit (f (m + b) (omega arith)) in omega arith

count_ext : (P Q : ℕ → Bool) (n : ℕ) → ((k : ℕ) → k < n → P k ≡ Q k) → count_of P n ≡ count_of Q n
unfolding count_of
count_ext P Q zero h = refl
count_ext P Q (suc n) h = ap₂ (λ (s : Bool) (k : ℕ). bit s + k) (h n (omega arith)) (count_ext P Q n (λ k i. h k (omega arith)))

word_zero : (P : ℕ → Bool) (n : ℕ) → ((i : ℕ) → P i ≡ false) → word_of P n ≡ 0
unfolding word_of
word_zero P zero h = refl
word_zero P (suc n) h = ap₂ (λ (t : Bool) (x : ℕ). bit t * 2 ^ n + x) (h n) (word_zero P n h) ∙ (let e : 0 * 2 ^ n + 0 ≡ 0 = omega arith in e)

-- the words of a picture's tiles

module _ (w h : ℕ) (p q : List ℕ) where
  get_d_words : (j n k : ℕ) → k < n → get_or (words_from w h p q j n) k 0 ≡ tile_word w h p q (j + k)
  unfolding words_from
  get_d_words j zero k i = absurd (omega arith)
  get_d_words j (suc n) zero i = ap (tile_word w h p q) (let e : j ≡ j + 0 = omega arith in e)
  get_d_words j (suc n) (suc k) i = get_d_words (suc j) n k (omega arith) ∙ ap (tile_word w h p q) (let e : suc j + k ≡ j + suc k = omega arith in e)

  -- a changed pixel's tile has a change
  tile_found : (x y : ℕ) → changed_at w h p q x y ≡ true → tile_changed w h p q (y / TILE) (x / TILE) ≡ true
  unfolding tile_changed
  tile_found x y e =
      any_found (λ a. any (λ b. changed_at w h p q (TILE * (x / TILE) + a) (TILE * (y / TILE) + b)) TILE) TILE (x % TILE) (omega arith)
      (any_found (λ b. changed_at w h p q (TILE * (x / TILE) + x % TILE) (TILE * (y / TILE) + b)) TILE (y % TILE) (omega arith)
      (ap₂ (changed_at w h p q) (let f : TILE * (x / TILE) + x % TILE ≡ x = omega arith in f)
      (let f : TILE * (y / TILE) + y % TILE ≡ y = omega arith in f) ∙ e))

  -- a tile with a change has a changed pixel
  tile_where : (j i : ℕ) → tile_changed w h p q j i ≡ true → ChangedPixel w h p q j i
  unfolding tile_changed changed_at
  tile_where j i e =
      let r = any_where (λ a. any (λ b. changed_at w h p q (TILE * i + a) (TILE * j + b)) TILE) TILE e in
      let s = any_where (λ b. changed_at w h p q (TILE * i + r.0) (TILE * j + b)) TILE r.2 in
      let x = TILE * i + r.0 in
      let y = TILE * j + s.0 in
      let t = both_true (ltb x w) (ltb y h && changed p q (y * w + x)) s.2 in
      let u = both_true (ltb y h) (changed p q (y * w + x)) t.1 in
      record {
        column = x;
        row = y;
        column_in = ltb-true x w t.0;
        row_in = ltb-true y h u.0;
        column_of = omega (arith, r.1);
        row_of = omega (arith, s.1);
        is_changed = u.1;
      }

  module _ (size : Sized w h) where
    -- the bits of a tile row's word
    bit_tile : (j i : ℕ) → marked (tile_word w h p q j) i ≡ (ltb i (tiles w) && tile_changed w h p q j i)
    bit_tile j i =
        by_test (λ t. marked (tile_word w h p q j) i ≡ (t && tile_changed w h p q j i)) (ltb i (tiles w))
        (λ t. marked_is i (tile_changed w h p q j) (tiles w) (ltb-true i (tiles w) t))
        (λ t. marked_past (tile_changed w h p q j) (tiles w) i (ltb-false i (tiles w) t))

    -- how many a row has
    row_count : (j : ℕ) → (tile_row (tile_word w h p q j)).count ≡ count_of (tile_changed w h p q j) (tiles w)
    unfolding tile_row
    row_count j =
        count_cut (marked (tile_word w h p q j)) (tiles w) BITS (omega (arith, size.wide)) (λ k i. marked_past (tile_changed w h p q j) (tiles w) k i)
        ∙ count_ext (marked (tile_word w h p q j)) (tile_changed w h p q j) (tiles w) (λ k i. marked_is k (tile_changed w h p q j) (tiles w) i)

    -- whether the tile at a place has a change
    places : ℕ → Bool
    places t = tile_changed w h p q (t / tiles w) (t % tiles w)

    -- a row's tiles by their places
    row_places : (j : ℕ) → count_of (λ k. places (tiles w * j + k)) (tiles w) ≡ count_of (tile_changed w h p q j) (tiles w)
    unfolding places
    row_places j =
        count_ext (λ k. places (tiles w * j + k)) (tile_changed w h p q j) (tiles w)
        (λ k i. ap₂ (tile_changed w h p q) (mul-add-div {m = tiles w} wide j k ∙ (let z = div-eq_of_lt {n = k} {m = tiles w} i in omega arith))
        (mul-add-mod_self_left (tiles w) j k ∙ mod-eq_of_lt {n = k} {m = tiles w} i))
      where
        wide : 0 < tiles w
        wide = omega (arith, size.some_wide)

    counted_rows : (n j : ℕ) → counted (words_from w h p q j n) + count_of places (tiles w * j) ≡ count_of places (tiles w * (j + n))
    unfolding counted words_from
    counted_rows zero j = let e = ap (λ (k : ℕ). count_of places (tiles w * k)) (let f : j ≡ j + 0 = omega arith in f) in omega arith
    counted_rows (suc n) j =
        sum (tile_row (tile_word w h p q j)).count (counted (words_from w h p q (suc j) n)) (count_of places (tiles w * j))
        (count_of places (tiles w * suc j)) (count_of (tile_changed w h p q j) (tiles w)) (count_of places (tiles w * (j + suc n)))
        (counted_rows n (suc j) ∙ ap (λ (k : ℕ). count_of places (tiles w * k)) (let f : suc j + n ≡ j + suc n = omega arith in f))
        (ap (count_of places) (mul-suc (tiles w) j) ∙ count_add places (tiles w * j) (tiles w)
        ∙ ap (λ (k : ℕ). count_of places (tiles w * j) + k) (row_places j))
        (row_count j)
      where
        sum : (c r s t x u : ℕ) → r + t ≡ u → t ≡ s + x → c ≡ x → c + r + s ≡ u
        sum c r s t x u a b d = omega arith

    -- all of them
    counted_all : counted (tile_words w h p q) ≡ tiles_changed w h p q
    unfolding tiles_changed places count_of
    counted_all = none (counted (tile_words w h p q)) (count_of places (tiles w * 0)) _ (ap (count_of places) (mul-zero (tiles w)))
        (counted_rows (tiles h) 0) ∙ ap (λ (k : ℕ). count_of places (tiles w * k)) (let e : 0 + tiles h ≡ tiles h = omega arith in e)
      where
        none : (c z u : ℕ) → z ≡ 0 → c + z ≡ u → c ≡ u
        none c z u a b = omega arith

    -- pixels inside
    pixel_inside : (x y : ℕ) → x < w → y < h → y * w + x < w * h
    pixel_inside x y i k = let r = rows_inside w h y 1 (omega arith) in omega arith

    -- where the pictures are equal nothing is changed
    same_tiles : take (w * h) p ≡ take (w * h) q → (j i : ℕ) → tile_changed w h p q j i ≡ false
    unfolding tile_changed
    same_tiles e j i =
        any_none (λ a. any (λ b. changed_at w h p q (TILE * i + a) (TILE * j + b)) TILE) TILE
        (λ a l. any_none (λ b. changed_at w h p q (TILE * i + a) (TILE * j + b)) TILE (λ b m. one (TILE * i + a) (TILE * j + b)))
      where
        equal_at : (k : ℕ) → k < w * h → get_or p k 0 ≡ get_or q k 0
        equal_at k l = sym (get_or-take (w * h) p k 0 l) ∙ ap (λ (s : List ℕ). get_or s k 0) e ∙ get_or-take (w * h) q k 0 l

        one : (x y : ℕ) → changed_at w h p q x y ≡ false
        one x y =
            by_test (λ _. changed_at w h p q x y ≡ false) (leb w x)
            (λ t. changed_right w h p q x y (leb-true w x t))
            (λ t.
            by_test (λ _. changed_at w h p q x y ≡ false) (leb h y)
            (λ s. changed_under w h p q x y (leb-false w x t) (leb-true h y s))
            (λ s.
            changed_in w h p q x y (leb-false w x t) (leb-false h y s)
            ∙ ap not (eq-eqb (get_or p (y * w + x) 0) (get_or q (y * w + x) 0) (equal_at (y * w + x) (pixel_inside x y (leb-false w x t) (leb-false h y s))))))

    zero_words : take (w * h) p ≡ take (w * h) q → (j n : ℕ) → words_from w h p q j n ≡ replicate n 0
    unfolding words_from
    zero_words e j zero = refl
    zero_words e j (suc n) = ap₂ (λ (x : ℕ) (l : List ℕ). x ∷ l) (word_zero (tile_changed w h p q j) (tiles w) (same_tiles e j)) (zero_words e (suc j) n)

    -- the map's words, as they lie in those lent
    module _ (after : List ℕ) (word_is : (j : ℕ) → j < tiles h → get_or after j 0 ≡ tile_word w h p q j) where
      pixel_marked : (x y : ℕ) → x < w → y < h → changed p q (y * w + x) ≡ true → marked (get_or after (y / TILE) 0) (x / TILE) ≡ true
      pixel_marked x y i k e =
          ap (λ (v : ℕ). marked v (x / TILE)) (word_is (y / TILE) (omega arith))
          ∙ marked_is (x / TILE) (tile_changed w h p q (y / TILE)) (tiles w) (omega arith)
          ∙ tile_found x y (changed_in w h p q x y i k ∙ e)

      -- one pixel redrawn
      redrawn_is : (k : ℕ) → k < w * h → redrawn_at w after p q k ≡ get_or q k 0
      redrawn_is k l =
          by_test (λ t. cond t (get_or q k 0) (get_or p k 0) ≡ get_or q k 0) (marked (get_or after (k / w / TILE) 0) (k % w / TILE))
          (λ t. refl)
          (λ t.
          by_test (λ _. get_or p k 0 ≡ get_or q k 0) (eqb (get_or p k 0) (get_or q k 0))
          (eqb-true (get_or p k 0) (get_or q k 0))
          (λ s. no (sym (pixel_marked (k % w) (k / w) (mod-lt k wide) row (ap (changed p q) (div-add-mod' k w) ∙ ap not s)) ∙ t)))
        where
          wide : 0 < w
          wide = size.some_wide

          row : k / w < h
          row = (div-lt_iff_lt-mul {k = w} {x = k} {y = h} wide).1 (omega (arith, mul_comm w h))

      redrawn_all : (n k : ℕ) → k + n ≤ w * h → w * h ≤ length q → redrawn w after p q k n ≡ take n (drop k q)
      unfolding redrawn
      redrawn_all zero k l m = refl
      redrawn_all (suc n) k l m =
          ap₂ (λ (x : ℕ) (s : List ℕ). x ∷ s) (redrawn_is k (omega arith)) (redrawn_all n (suc k) (omega arith) m)
          ∙ sym (ap (take (suc n)) (drop-cons q k 0 (omega arith)))

-- a call that was done

module _ (w h : ℕ) (p q words : List ℕ) (n : ℕ) (said : (tile_map w h p q words).said ≡ done (n ∷ [])) where
  -- the tests that it passed
  record Passed : Type 0 where
    pub size : Sized w h
    pub previous_long : w * h ≤ length p
    pub next_long : w * h ≤ length q
    pub left : tile_map w h p q words ≡ leaves (done (length (tile_words w h p q) ∷ [])) (lent_bytes (put words 0 (tile_words w h p q)))

  all_passed : Passed
  unfolding tile_map
  all_passed =
      let a = passed (λ (o : Outcome). o.said) (size_ok w h) refl said refl in
      let b = passed (λ (o : Outcome). o.said) (leb (w * h) (length p) && leb (w * h) (length q)) a.1 said refl in
      let c = both_true (leb (w * h) (length p)) (leb (w * h) (length q)) b.0 in
      let d = passed (λ (o : Outcome). o.said) (leb (length (tile_words w h p q)) (length words)) b.1 said refl in
      record { size = size_ok_in w h a.0; previous_long = leb-true (w * h) (length p) c.0; next_long = leb-true (w * h) (length q) c.1; left = sym d.1 }

  pub map_holds : MapHolds w h p q words (words_after w h p q words)
  map_holds =
      record {
        marks = pixel_marked w h p q size after word_is;
        only = λ j i k e. tile_where w h p q j i
            (both_true (ltb i (tiles w)) (tile_changed w h p q j i) (sym (bit_tile w h p q size j i) ∙ ap (λ (v : ℕ). marked v i) (sym (word_is j k)) ∙ e)).1;
        past = λ j i k l. ap (λ (v : ℕ). marked v i) (word_is j k) ∙ marked_past (tile_changed w h p q j) (tiles w) i l;
        rest = ap (drop (tiles h)) is ∙ drop_at whole_words (drop (length whole_words) words) (tiles h) long ∙ ap (λ (k : ℕ). drop k words) long;
        counts = ap counted front ∙ counted_all w h p q size;
        equal = λ e. front ∙ zero_words w h p q size e 0 (tiles h);
        redraws = redrawn_all w h p q size after word_is (w * h) 0 (omega arith) all_passed.next_long;
      }
    where
      size : Sized w h
      size = all_passed.size

      whole_words : List ℕ
      whole_words = tile_words w h p q

      after : List ℕ
      after = words_after w h p q words

      long : length whole_words ≡ tiles h
      long = length_words w h p q 0 (tiles h)

      is : after ≡ whole_words ++ drop (length whole_words) words
      is = ap (λ (o : Outcome). o.memory.bytes) all_passed.left
          ∙ ap (λ (k : ℕ). whole_words ++ drop k words) (let e : 0 + length whole_words ≡ length whole_words = omega arith in e)

      front : take (tiles h) after ≡ whole_words
      front = ap (take (tiles h)) is ∙ take_at whole_words (drop (length whole_words) words) (tiles h) long

      word_is : (j : ℕ) → j < tiles h → get_or after j 0 ≡ tile_word w h p q j
      word_is j k =
          ap (λ (l : List ℕ). get_or l j 0) is ∙ get_or-append whole_words (drop (length whole_words) words) 0 j (omega (arith, long))
          ∙ get_d_words w h p q 0 (tiles h) j k ∙ ap (tile_word w h p q) (let e : 0 + j ≡ j = omega arith in e)
