-- Noting the columns of a tile row: what a byte tells, a turn of a loop, and that the columns noted are the tile row's.
use mathlib.Core.Path.{◌≡◌, sym, ap, ap₂, ◌∙◌}
use mathlib.Core.List.{List, ◌++◌}
use mathlib.Core.Bool.{Bool, false, not, ◌||◌}
use Prim.Native.Nat.{ℕ, ◌+◌, ◌-◌, ◌*◌, ◌≤◌, ◌<◌}
use native.Mathlib.Omega.{arith}
use native.Mathlib.Nat.{add-mul, mul_comm, mul-le-mul_right}
use native.Mathlib.Numerals.{add-one}
use borrow.Author.Tests.{leb-true, leb-false, eq-eqb, ne_eqb, eqb-true, eqb-false}
use lib.Bits.{bit_or, bit_xor, xor_self, xor_add_and, or_add_and, and_le_l, and_le_r}
use lib.Dec.{eqb, leb}
use lib.ListN.{length, get_or, set, take, drop, replicate, length-set, length-replicate, get_or-replicate, length-append, length-drop, get_or-append}
use lib.Seq.{get_or-set_same, get_or-set_other, get_or-drop, get_or-append-add, length-take-le}
use Rattle.words.proofs.Tests.{by_test}
use Rattle.words.proofs.Laws.{get_d_zeros}
use Rattle.board_tiles.specs.Tiles.{TILE, tiles, any, changed, changed_at, tile_changed}
use Rattle.board_tiles.specs.Marks.{word_of}
use Rattle.board_tiles.specs.Mapping.{tile_word}
use Rattle.board_tiles.specs.Noted.{COLUMNS, tells, below, column_changed, noted, Noted, Room, Made}
use Rattle.board_tiles.proofs.Laws.{any_ext, any_cut, any_none, changed_in, changed_right, changed_under}
use Rattle.board_tiles.proofs.Marking.{word_ext}

-- tells

pub tells_xor : (a b : ℕ) → tells (bit_xor a b) ≡ not (eqb a b)
tells_xor a b =
    by_test (λ t. tells (bit_xor a b) ≡ not t) (eqb a b)
    (λ e. ap tells (ap (bit_xor a) (sym (eqb-true a b e)) ∙ xor_self a))
    (λ e. ap not (ne_eqb (bit_xor a b) 0 (λ z. eqb-false a b e (omega (arith, z, xor_add_and a b, and_le_l a b, and_le_r a b)))))

pub tells_or : (a b : ℕ) → tells (bit_or a b) ≡ (tells a || tells b)
tells_or a b =
    by_test (λ t. tells (bit_or a b) ≡ (not t || tells b)) (eqb a 0)
    (λ e.
    by_test (λ t. tells (bit_or a b) ≡ not t) (eqb b 0)
    (λ f. ap not (eq-eqb (bit_or a b) 0 (omega (arith, eqb-true a 0 e, eqb-true b 0 f, or_add_and a b, and_le_l a b))))
    (λ f. ap not (ne_eqb (bit_or a b) 0 (λ z. eqb-false b 0 f (omega (arith, z, or_add_and a b, and_le_l a b, and_le_r a b))))))
    (λ e. ap not (ne_eqb (bit_or a b) 0 (λ z. eqb-false a 0 e (omega (arith, z, or_add_and a b, and_le_l a b, and_le_r a b)))))

-- one byte more joined to what tells of the numbers below n
pub tells_more : (P : ℕ → Bool) (n a b : ℕ) → tells a ≡ any P n → tells b ≡ P n → tells (bit_or a b) ≡ any P (n + 1)
unfolding any
tells_more P n a b s t = tells_or a b ∙ ap₂ (λ (x y : Bool). x || y) s t ∙ ap (any P) (sym (add-one n))

-- Noted: a column more

pub noted_more : (d e : List ℕ) (i v : ℕ) (P : ℕ → Bool) → Noted d e i P → i < length d → tells v ≡ P i → Noted d (set e i v) (i + 1) P
noted_more d e i v P n h t =
    record {
      long = length-set e i v ∙ n.long;
      told =
          λ x k.
          by_test (λ s. tells (get_or (set e i v) x 0) ≡ P x) (eqb x i)
          (λ s. let q = eqb-true x i s in rw q (ap tells (get_or-set_same e i v 0 (omega (arith, n.long))) ∙ t))
          (λ s. ap tells (get_or-set_other e i x v 0 (eqb-false x i s)) ∙ n.told x (below_it x (eqb-false x i s) k));
      kept = λ x k. get_or-set_other e i x v 0 (λ (s : x ≡ i). absurd (omega (arith, s, k))) ∙ n.kept x (omega (arith, k));
    }
  where
    below_it : (x : ℕ) → (x ≡ i → ⊥) → x < i + 1 → x < i
    below_it x s k = omega arith

pub noted_ext : (d e : List ℕ) (w : ℕ) (P Q : ℕ → Bool) → Noted d e w P → ((x : ℕ) → x < w → P x ≡ Q x) → Noted d e w Q
noted_ext d e w P Q n h = record { long = n.long; told = λ x k. n.told x k ∙ h x k; kept = n.kept }

-- the rows of a cut tile row, one after the other

-- the marks of the first width columns were set to 0
module _ (d r : List ℕ) (w : ℕ) (h : w ≤ length d) (s : r ≡ replicate (length (take w d)) 0) where
  zeros : r ≡ replicate w 0
  zeros = s ∙ ap (λ (k : ℕ). replicate {A = ℕ} k 0) (length-take-le w d h)

  long_zeros : length r ≡ w
  long_zeros = ap length zeros ∙ length-replicate {A = ℕ} w 0

  pub cleared : (P : ℕ → Bool) → ((x : ℕ) → P x ≡ false) → Noted d (r ++ drop w d) w P
  cleared P none =
      record {
        long = length-append r (drop w d) ∙ (let l = length-drop w d in let k = long_zeros in omega arith);
        told = λ x k. ap tells (front x k) ∙ sym (none x);
        kept = behind;
      }
    where
      front : (x : ℕ) → x < w → ◌≡◌ {A = ℕ} (get_or (r ++ drop w d) x 0) 0
      front x k = get_or-append r (drop w d) 0 x (omega (arith, k, long_zeros)) ∙ ap (λ (l : List ℕ). get_or l x 0) zeros ∙ get_or-replicate w x 0 0 k

      behind : (x : ℕ) → w ≤ x → get_or (r ++ drop w d) x 0 ≡ get_or d x 0
      behind x k =
          let e : w + (x - w) ≡ x = omega arith in
          let f : x ≡ length r + (x - w) = omega (arith, long_zeros) in
          ap (λ (i : ℕ). get_or (r ++ drop w d) i 0) f ∙ get_or-append-add r (drop w d) (x - w) 0 ∙ get_or-drop w d (x - w) 0 ∙ ap (λ (i : ℕ). get_or d i 0) e

-- one row more
pub noted_row : (d e f : List ℕ) (w : ℕ) (p q : List ℕ) (at y : ℕ)
    → Noted d e w (λ x. below w p q y (at + x)) → Noted e f w (λ x. tells (get_or e x 0) || changed p q (at + y * w + x))
    → Noted d f w (λ x. below w p q (y + 1) (at + x))
unfolding any
noted_row d e f w p q at y n m =
    record {
      long = m.long ∙ n.long;
      told =
          λ x k.
          m.told x k
          ∙ ap₂ (λ (i : Bool) (g : ℕ). i || changed p q g) (n.told x k) (place x)
          ∙ ap (any (λ b. changed p q (at + x + b * w))) (sym (add-one y));
      kept = λ x k. m.kept x k ∙ n.kept x k;
    }
  where
    place : (x : ℕ) → at + y * w + x ≡ at + x + y * w
    place x = omega arith

-- n rows below k rows lie in a picture that has as many
pub rows_inside : (w h k n : ℕ) → k + n ≤ h → k * w + n * w ≤ w * h
rows_inside w h k n i =
    let m = mul-le-mul_right w i in
    let a = add-mul k n w in
    let c = mul_comm w h in
    omega arith

-- the columns of tile row j

module _ (w h : ℕ) (p q : List ℕ) (j : ℕ) where
  -- n rows of it lie in the picture
  pub column_is : (n at x : ℕ) → at ≡ TILE * j * w → x < w → n ≤ TILE → TILE * j + n ≤ h → ((k : ℕ) → n ≤ k → k < TILE → h ≤ TILE * j + k)
      → below w p q n (at + x) ≡ column_changed w h p q j x
  unfolding column_changed
  column_is n at x e i l m rest =
      any_ext (λ b. changed p q (at + x + b * w)) (λ b. changed_at w h p q x (TILE * j + b)) n
      (λ b k. ap (changed p q) (place b) ∙ sym (changed_in w h p q x (TILE * j + b) i (omega (arith, k, m))))
      ∙ any_cut (λ b. changed_at w h p q x (TILE * j + b)) n TILE l (λ k a b. changed_under w h p q x (TILE * j + k) i (rest k a b))
    where
      place : (b : ℕ) → at + x + b * w ≡ (TILE * j + b) * w + x
      place b = let d = add-mul (TILE * j) b w in omega arith

  pub column_right : (x : ℕ) → w ≤ x → column_changed w h p q j x ≡ false
  unfolding column_changed
  column_right x i = any_none (λ b. changed_at w h p q x (TILE * j + b)) TILE (λ k l. changed_right w h p q x (TILE * j + k) i)

  -- the tiles of the columns noted are the tile row's
  pub tile_is : (d e : List ℕ) → Room d w → Noted d e w (column_changed w h p q j) → (i : ℕ) → noted e i ≡ tile_changed w h p q j i
  unfolding tile_changed column_changed
  tile_is d e r n i = any_ext (λ a. tells (get_or e (TILE * i + a) 0)) (λ a. column_changed w h p q j (TILE * i + a)) TILE (λ a k. one (TILE * i + a))
    where
      one : (x : ℕ) → tells (get_or e x 0) ≡ column_changed w h p q j x
      one x =
          by_test (λ _. tells (get_or e x 0) ≡ column_changed w h p q j x) (leb w x)
          (λ t. let k = leb-true w x t in ap tells (n.kept x k ∙ r.clear x k) ∙ sym (column_right x k))
          (λ t. n.told x (leb-false w x t))

-- the room that is left
pub room_kept : (d e : List ℕ) (w : ℕ) (P : ℕ → Bool) → Room d w → Noted d e w P → Room e w
room_kept d e w P r n = record { long = n.long ∙ r.long; clear = λ x k. n.kept x k ∙ r.clear x k }

-- the word of the tiles noted
pub made : (w h : ℕ) (p q : List ℕ) (j : ℕ) (d e : List ℕ) (word : ℕ) → Room d w → Noted d e w (column_changed w h p q j) → word
    ≡ word_of (noted e) (tiles w) → Made word (tile_word w h p q j) e w
made w h p q j d e word r n s =
    record {
      value = s ∙ word_ext (noted e) (tile_changed w h p q j) (tiles w) (tile_is w h p q j d e r n);
      room = room_kept d e w (column_changed w h p q j) r n;
    }

-- Room

pub room_zeros : Room (replicate COLUMNS 0) 0
room_zeros = record { long = length-replicate {A = ℕ} COLUMNS 0; clear = λ x k. get_d_zeros COLUMNS x }

pub room_within : (d : List ℕ) (w : ℕ) → Room d 0 → Room d w
room_within d w r = record { long = r.long; clear = λ x k. r.clear x (omega arith) }
