-- Laws of numbers in decimal, how long they are, and of text stored piece by piece.
use mathlib.Core.Path.{◌≡◌, refl, sym, ap, ◌∙◌, subst}
use mathlib.Core.List.{List, [], ◌∷◌, ◌++◌, append_assoc}
use mathlib.Core.Bool.{Bool, true, false, cond}
use Prim.Native.Nat.{ℕ, zero, suc, ◌+◌, ◌/◌, ◌≤◌, ◌<◌}
use native.Mathlib.Omega.{arith}
use borrow.Author.Tests.{lt-ltb, le-ltb, ltb-false}
use lib.Dec.{ltb}
use lib.ListN.{length, set, length-append}
use Rattle.words.specs.Writes.{put}
use Rattle.words.proofs.Laws.{put_one, put_then, length_put}
use Rattle.words.proofs.Tests.{by_test}
use Rattle.format.specs.Limits.{max_width, max_height, max_frames, Wide, High}
use Rattle.list_text.specs.Text.{SPACE, NEWLINE, digit, digits, decimal, numeral, chunk_line, line_most, head_line, head_most, refused_line, refused_most}
use Rattle.list_text.specs.Stored.{Stored}

-- decimal

-- any number of digits that is enough gives the same
digits_enough : (k m n : ℕ) → n ≤ k → n ≤ m → digits k n ≡ digits m n
unfolding digits
digits_enough zero zero n h i = refl
digits_enough zero (suc m) n h i = sym (ap (λ (t : Bool). cond t (digit n ∷ []) (digits m (n / 10) ++ (digit n ∷ []))) (lt-ltb n 10 (omega arith)))
digits_enough (suc k) zero n h i = ap (λ (t : Bool). cond t (digit n ∷ []) (digits k (n / 10) ++ (digit n ∷ []))) (lt-ltb n 10 (omega arith))
digits_enough (suc k) (suc m) n h i = by (ltb n 10) refl (λ l. digits_enough k m (n / 10) (omega arith) (omega arith))
  where
    by : (t : Bool) → ltb n 10 ≡ t → (10 ≤ n → digits k (n / 10) ≡ digits m (n / 10))
        → cond t (digit n ∷ []) (digits k (n / 10) ++ (digit n ∷ [])) ≡ cond t (digit n ∷ []) (digits m (n / 10) ++ (digit n ∷ []))
    by true e tenth = refl
    by false e tenth = ap (λ (x : List ℕ). x ++ (digit n ∷ [])) (tenth (ltb-false n 10 e))

module _ (n : ℕ) where
  decimal_step : decimal n ≡ cond (ltb n 10) (digit n ∷ []) (decimal (n / 10) ++ (digit n ∷ []))
  unfolding decimal digits
  decimal_step =
      digits_enough n (suc n) n (omega arith) (omega arith)
      ∙ ap (λ (x : List ℕ). cond (ltb n 10) (digit n ∷ []) (x ++ (digit n ∷ []))) (digits_enough n (n / 10) (n / 10) (omega arith) (omega arith))

  pub decimal_small : n < 10 → decimal n ≡ digit n ∷ []
  decimal_small h = decimal_step ∙ ap (λ (t : Bool). cond t (digit n ∷ []) (decimal (n / 10) ++ (digit n ∷ []))) (lt-ltb n 10 h)

  pub decimal_large : 10 ≤ n → decimal n ≡ decimal (n / 10) ++ (digit n ∷ [])
  decimal_large h = decimal_step ∙ ap (λ (t : Bool). cond t (digit n ∷ []) (decimal (n / 10) ++ (digit n ∷ []))) (le-ltb n 10 h)

-- how long

pub decimal_longer : (n : ℕ) → 10 ≤ n → length (decimal n) ≡ length (decimal (n / 10)) + 1
decimal_longer n h = ap length (decimal_large n h) ∙ length-append (decimal (n / 10)) (digit n ∷ [])

pub decimal_one : (n : ℕ) → n < 10 → length (decimal n) ≡ 1
decimal_one n h = ap length (decimal_small n h)

-- a larger number has no fewer digits
digits_most : (k n m : ℕ) → n ≤ m → length (digits k n) ≤ length (digits k m)
unfolding digits
digits_most zero n m h = omega arith
digits_most (suc k) n m h =
    by_test (λ t. length (cond t (digit n ∷ []) (digits k (n / 10) ++ (digit n ∷ []))) ≤ length (digits (suc k) m)) (ltb n 10)
    (λ e. by_test (λ t. 1 ≤ length (cond t (digit m ∷ []) (digits k (m / 10) ++ (digit m ∷ [])))) (ltb m 10) (λ f. omega arith)
    (λ f. omega (arith, length-append (digits k (m / 10)) (digit m ∷ []))))
    (λ e. let g = le-ltb m 10 (omega (arith, ltb-false n 10 e)) in
    omega (
      arith,
      ap (λ (t : Bool). length (cond t (digit m ∷ []) (digits k (m / 10) ++ (digit m ∷ [])))) g,
      length-append (digits k (n / 10)) (digit n ∷ []),
      length-append (digits k (m / 10)) (digit m ∷ []),
      digits_most k (n / 10) (m / 10) (omega arith),
    ))

pub decimal_most : (n m : ℕ) → n ≤ m → length (decimal n) ≤ length (decimal m)
unfolding decimal
decimal_most n m h = omega (arith, ap length (digits_enough n m n (omega arith) h), digits_most m n m h)

-- one digit more than a tenth of it
decimal_more : (n k : ℕ) → length (decimal (n / 10)) ≤ k → length (decimal n) ≤ k + 1
decimal_more n k h = by (ltb n 10) (decimal_step n)
  where
    by : (t : Bool) → decimal n ≡ cond t (digit n ∷ []) (decimal (n / 10) ++ (digit n ∷ [])) → length (decimal n) ≤ k + 1
    by true e = omega (arith, ap length e)
    by false e = omega (arith, ap length e, length-append (decimal (n / 10)) (digit n ∷ []))

pub decimal_two : (n : ℕ) → n < 100 → length (decimal n) ≤ 2
decimal_two n h = decimal_more n 1 (omega (arith, decimal_one (n / 10) (omega arith)))

pub decimal_three : (n : ℕ) → n < 1000 → length (decimal n) ≤ 3
decimal_three n h = decimal_more n 2 (decimal_two (n / 10) (omega arith))

pub decimal_four : (n : ℕ) → n < 10000 → length (decimal n) ≤ 4
decimal_four n h = decimal_more n 3 (decimal_three (n / 10) (omega arith))

pub decimal_five : (n : ℕ) → n < 100000 → length (decimal n) ≤ 5
decimal_five n h = decimal_more n 4 (decimal_four (n / 10) (omega arith))

pub numeral_length : (n behind : ℕ) → length (numeral n behind) ≡ length (decimal n) + 1
numeral_length n behind = length-append (decimal n) (behind ∷ [])

-- lines, as long as their numbers with a byte behind each

module _ (depth at kind size : ℕ) where
  pub chunk_length : length (chunk_line depth at kind size)
      ≡ length (numeral depth SPACE) + length (numeral at SPACE) + length (numeral kind SPACE) + length (numeral size NEWLINE)
  unfolding chunk_line
  chunk_length =
      let x = numeral kind SPACE ++ numeral size NEWLINE in
      omega (
        arith,
        length-append (numeral depth SPACE) (numeral at SPACE ++ x),
        length-append (numeral at SPACE) x,
        length-append (numeral kind SPACE) (numeral size NEWLINE),
      )

  pub chunk_short : depth < 10 → at < 100000 → kind < 100000 → size < 100000 → length (chunk_line depth at kind size) ≤ line_most
  chunk_short d a k s =
      omega (
        arith,
        chunk_length,
        numeral_length depth SPACE,
        numeral_length at SPACE,
        numeral_length kind SPACE,
        numeral_length size NEWLINE,
        decimal_one depth d,
        decimal_five at a,
        decimal_five kind k,
        decimal_five size s,
      )

module _ (w h frames : ℕ) where
  pub head_length : length (head_line w h frames) ≡ 5 + length (numeral w SPACE) + length (numeral h SPACE) + length (numeral frames NEWLINE)
  unfolding head_line
  head_length =
      let x = numeral h SPACE ++ numeral frames NEWLINE in
      omega (arith, length-append (numeral w SPACE) x, length-append (numeral h SPACE) (numeral frames NEWLINE))

-- the first line of a reel within the limits is no longer than that of the largest
pub head_short : (w h frames : ℕ) → Wide w → High h → frames ≤ max_frames → length (head_line w h frames) ≤ head_most
unfolding head_most
head_short w h frames a b c =
    omega (
      arith,
      head_length w h frames,
      head_length max_width max_height max_frames,
      numeral_length w SPACE,
      numeral_length h SPACE,
      numeral_length frames NEWLINE,
      numeral_length max_width SPACE,
      numeral_length max_height SPACE,
      numeral_length max_frames NEWLINE,
      decimal_most w max_width a,
      decimal_most h max_height b,
      decimal_most frames max_frames c,
    )

module _ (n place : ℕ) where
  pub refused_length : length (refused_line n place) ≡ 8 + length (numeral n SPACE) + length (numeral place NEWLINE)
  unfolding refused_line
  refused_length = omega (arith, length-append (numeral n SPACE) (numeral place NEWLINE))

  pub refused_short : n < 100 → place < 100000 → length (refused_line n place) ≤ refused_most
  refused_short a b = omega (arith, refused_length, numeral_length n SPACE, numeral_length place NEWLINE, decimal_two n a, decimal_five place b)

-- stored piece by piece

-- one byte behind what was stored
pub stored_byte : {d e : List ℕ} {at r : ℕ} {t : List ℕ} (x : ℕ) → at + length (t ++ (x ∷ [])) ≤ length d → Stored d at t e r
    → Stored d at (t ++ (x ∷ [])) (set e r x) (r + 1)
stored_byte {d} {e} {at} {r} {t} x room s =
    let n = length-append t (x ∷ []) in
    let l = length_put d at t (omega arith) in
    let k : length e ≡ length d = ap length s.bytes ∙ l in
    record {
      bytes = put_then d e (set e r x) t (x ∷ []) at (length t) refl (omega arith) s.bytes
          (put_one e r x (omega (arith, s.end)) ∙ ap (λ (i : ℕ). put e i (x ∷ [])) s.end);
      end = omega (arith, s.end);
    }

-- text behind what was stored
pub stored_then : {d e f : List ℕ} {at m r : ℕ} {t u : List ℕ} → at + length (t ++ u) ≤ length d → Stored d at t e m → Stored e m u f r
    → Stored d at (t ++ u) f r
stored_then {d} {e} {f} {at} {m} {r} {t} {u} room s q =
    let n = length-append t u in
    record {
      bytes = put_then d e f t u at (length t) refl (omega arith) s.bytes (q.bytes ∙ ap (λ (i : ℕ). put e i u) s.end);
      end = omega (arith, s.end, q.end);
    }

-- a number of one digit, and the last digit of a longer one
pub stored_small : (d : List ℕ) (at x : ℕ) → x < 10 → at < length d → Stored d at (decimal x) (set d at (48 + x)) (at + 1)
stored_small d at x h i =
    let m : 48 + x ≡ digit x = omega arith in
    let e = decimal_small x h in
    record {
      bytes = put_one d at (48 + x) i ∙ ap (λ (y : ℕ). put d at (y ∷ [])) m ∙ ap (put d at) (sym e);
      end = ap (λ (n : ℕ). at + n) (sym (decimal_one x h));
    }

pub stored_large : (d e : List ℕ) (at r x : ℕ) → 10 ≤ x → at + length (decimal x) ≤ length d → Stored d at (decimal (x / 10)) e r
    → Stored d at (decimal x) (set e r (digit x)) (r + 1)
stored_large d e at r x h room s =
    let l = decimal_large x h in
    subst (λ (t : List ℕ). Stored d at t (set e r (digit x)) (r + 1)) (sym l) (stored_byte (digit x) (omega (arith, room, ap length l)) s)

-- whole lines, from where each piece ends

module _ {d : List ℕ} {at : ℕ} where
  pub stored_chunk : {e f g k : List ℕ} {m n o r : ℕ} (depth offset kind size : ℕ) → at + length (chunk_line depth offset kind size) ≤ length d
      → Stored d at (numeral depth SPACE) e m → Stored e m (numeral offset SPACE) f n → Stored f n (numeral kind SPACE) g o
      → Stored g o (numeral size NEWLINE) k r
      → Stored d at (chunk_line depth offset kind size) k r
  unfolding chunk_line
  stored_chunk {e} {f} {g} {k} {m} {n} {o} {r} depth offset kind size room s t u v =
      let a = numeral depth SPACE in
      let b = numeral offset SPACE in
      let c = numeral kind SPACE in
      let z = numeral size NEWLINE in
      let l = chunk_length depth offset kind size in
      let i = length-append a b in
      let j = length-append (a ++ b) c in
      let q = length-append ((a ++ b) ++ c) z in
      subst (λ (x : List ℕ). Stored d at x k r) (append_assoc (a ++ b) c z ∙ append_assoc a b (c ++ z))
      (stored_then (omega arith) (stored_then (omega arith) (stored_then (omega arith) s t) u) v)

module _ {d : List ℕ} where
  pub stored_head : {e f g i : List ℕ} {k m n r : ℕ} (w h frames : ℕ) → length (head_line w h frames) ≤ length d
      → Stored d 0 (102 ∷ 108 ∷ 105 ∷ 99 ∷ SPACE ∷ []) e k → Stored e k (numeral w SPACE) f m → Stored f m (numeral h SPACE) g n
      → Stored g n (numeral frames NEWLINE) i r → Stored d 0 (head_line w h frames) i r
  unfolding head_line
  stored_head {e} {f} {g} {i} {k} {m} {n} {r} w h frames room s t u v =
      let a = numeral w SPACE in
      let b = numeral h SPACE in
      let c = numeral frames NEWLINE in
      let front : List ℕ = 102 ∷ 108 ∷ 105 ∷ 99 ∷ SPACE ∷ [] in
      let l = head_length w h frames in
      let x = length-append front a in
      let y = length-append (front ++ a) b in
      let z = length-append ((front ++ a) ++ b) c in
      subst (λ (o : List ℕ). Stored d 0 o i r) (append_assoc (front ++ a) b c ∙ append_assoc front a (b ++ c))
      (stored_then (omega arith) (stored_then (omega arith) (stored_then (omega arith) s t) u) v)

  pub stored_refused : {e f i : List ℕ} {k m r : ℕ} (n place : ℕ) → length (refused_line n place) ≤ length d
      → Stored d 0 (114 ∷ 101 ∷ 102 ∷ 117 ∷ 115 ∷ 101 ∷ 100 ∷ SPACE ∷ []) e k
      → Stored e k (numeral n SPACE) f m → Stored f m (numeral place NEWLINE) i r → Stored d 0 (refused_line n place) i r
  unfolding refused_line
  stored_refused {e} {f} {i} {k} {m} {r} n place room s t u =
      let a = numeral n SPACE in
      let b = numeral place NEWLINE in
      let front : List ℕ = 114 ∷ 101 ∷ 102 ∷ 117 ∷ 115 ∷ 101 ∷ 100 ∷ SPACE ∷ [] in
      let l = refused_length n place in
      let x = length-append front a in
      let y = length-append (front ++ a) b in
      subst (λ (z : List ℕ). Stored d 0 z i r) (append_assoc front a b) (stored_then (omega arith) (stored_then (omega arith) s t) u)
