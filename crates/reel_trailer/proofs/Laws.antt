-- Laws of the index and the trailer, and of checking and writing them, by the order of their checks.
use mathlib.Core.Path.{◌≡◌, refl, sym, ap, ap₂, ◌∙◌}
use mathlib.Core.List.{List, [], ◌∷◌, ◌++◌, append-nil}
use mathlib.Core.Bool.{Bool, true, false, cond, ◌||◌}
use Prim.Native.Nat.{ℕ, zero, suc, ◌+◌, ◌-◌, ◌*◌, ◌≤◌, ◌<◌}
use native.Mathlib.Nat.{not-suc-le-zero, zero-add}
use native.Mathlib.Omega.{arith}
use borrow.Author.Tests.{le-leb, lt-leb}
use lib.Dec.{leb}
use lib.ListN.{length, take, drop, get_or, replicate, length-append, length-drop, length-replicate, drop_of_length-le}
use lib.Seq.{length-take-le, take_all, take_at, drop-drop}
use Rattle.std.specs.Prelude.{Ok, Err}
use Rattle.words.specs.Words.{part, le16, le32, same}
use Rattle.words.specs.Writes.{put}
use Rattle.words.proofs.Laws.{put_front, length_put, span_length, span_back, put_nil, put_append, put_then}
use Rattle.format.specs.declared.Size.{Size}
use Rattle.delay.specs.declared.Milliseconds.{Milliseconds}
use Rattle.answer.specs.Answer.{done, refused, number, refused_at, Answer, placed}
use Rattle.format.specs.Limits.{max_frames}
use Rattle.answer.specs.declared.Refusal.{Refusal}
use Rattle.answer.specs.declared.Refusal.TheVariants.{NoRoom, BadTrailer}
use Rattle.state.specs.Outcome.{lent_bytes, leaves, refuse}
use Rattle.chunks.specs.Spans.{HEADER_BYTES, top_frames, extent, Extent}
use Rattle.chunks.proofs.Spans.{answer_of, extent_answer, found_many}
use Rattle.reel_header.specs.Head.{head_of, head_with, Headed}
use Rattle.reel_header.specs.declared.Takes.TheVariants.{FlcOnly}
use Rattle.reel_header.proofs.Laws.{head_in}
use Rattle.reel_trailer.specs.Trailer.{index, trailer_of, TrailerWalk, stopped, reel, after_frames, after_head, trailer_walk, checked_after, check_trailer, written_after, write_trailer}
use Rattle.reel_trailer.specs.Room.{Walked, trailer_most, padded}
use Rattle.answer.specs.declared.Refused.{Refused}

-- index

pub index_length : (os : List ℕ) → length (index os) ≡ 4 * length os
unfolding index
index_length [] = refl
index_length (o ∷ os) = omega (arith, index_length os)

-- the index stored entry by entry: nothing left, one entry more
module _ (d : List ℕ) (to : ℕ) where
  pub index_none : (os : List ℕ) → os ≡ [] → put d to (index os) ≡ d
  unfolding index
  index_none os e = ap (λ (x : List ℕ). put d to (index x)) e ∙ put_nil d to

  pub index_more : (os rest e : List ℕ) (o : ℕ) → os ≡ o ∷ rest → to + 4 ≤ length d → e ≡ put d to (le32 o []) → put d to (index os)
      ≡ put e (to + 4) (index rest)
  unfolding index
  index_more os rest e o q h s =
      ap (λ (x : List ℕ). put d to (index x)) q ∙ put_append d to (le32 o []) (index rest) 4 refl h ∙ ap (λ (x : List ℕ). put x (to + 4) (index rest)) (sym s)

-- the entry of one frame, and the entries behind it
pub index_entry : (os more : List ℕ) (i : ℕ) → i < length os → drop (4 * i) (index os ++ more) ≡ le32 (get_or os i 0) (index (drop (suc i) os) ++ more)
unfolding index
index_entry [] more i h = absurd (not-suc-le-zero h)
index_entry (o ∷ os) more zero h = refl
index_entry (o ∷ os) more (suc i) h =
    let k : 4 * suc i ≡ 4 + 4 * i = omega arith in
    ap (λ (n : ℕ). drop n (le32 o (index os ++ more))) k ∙ sym (drop-drop (4 * i) 4 (le32 o (index os ++ more))) ∙ index_entry os more i (omega arith)

-- trailer_of

pub trailer_length : (os : List ℕ) → length (trailer_of os) ≡ 4 * length os + 8
unfolding trailer_of
trailer_length os =
    length-append (index os) (le32 (4 * length os + 8) (le16 (length os) (le16 1 []))) ∙ ap (λ (n : ℕ). n + 8) (index_length os)

-- where all of count frames were met
pub trailer_many : (b : List ℕ) (count : ℕ) → (top_frames b count HEADER_BYTES).answer ≡ Ok tt
    → length (trailer_of (top_frames b count HEADER_BYTES).offsets) ≡ 4 * count + 8
trailer_many b count m = trailer_length (top_frames b count HEADER_BYTES).offsets ∙ ap (λ (n : ℕ). 4 * n + 8) (found_many b count HEADER_BYTES m)

trailer_counted : (os : List ℕ) (count : ℕ) → length os ≡ count → index os ++ le32 (4 * count + 8) (le16 count (le16 1 [])) ≡ trailer_of os
unfolding trailer_of
trailer_counted os count e = ap (λ (n : ℕ). index os ++ le32 (4 * n + 8) (le16 n (le16 1 []))) (sym e)

-- padded

zeros_behind : (m n : ℕ) → drop {A = ℕ} n (replicate m 0) ≡ replicate (m - n) 0
zeros_behind m zero = let k : m - 0 ≡ m = omega arith in rw k
zeros_behind zero (suc n) = let k : 0 - suc n ≡ 0 = omega arith in rw k
zeros_behind (suc m) (suc n) = let k : suc m - suc n ≡ m - n = omega arith in rw k (zeros_behind m n)

zeros_stored : (m : ℕ) (t : List ℕ) → put (replicate m 0) 0 t ≡ t ++ replicate (m - length t) 0
zeros_stored m t = put_front (replicate m 0) t ∙ ap (λ (x : List ℕ). t ++ x) (zeros_behind m (length t))

-- t stored at the front of the zeros
pub padded_stored : (t : List ℕ) → put (padded []) 0 t ≡ padded t
unfolding padded
padded_stored t = zeros_stored trailer_most t

pub padded_length : (t : List ℕ) → length t ≤ trailer_most → length (padded t) ≡ trailer_most
unfolding padded
padded_length t h = length-append t (replicate (trailer_most - length t) 0)
    ∙ ap (λ (n : ℕ). length t + n) (length-replicate {A = ℕ} (trailer_most - length t) 0) ∙ omega arith

pub padded_front : (t x : List ℕ) (n : ℕ) → x ≡ padded t → length t ≡ n → take n x ≡ t
unfolding padded
padded_front t x n e l = ap (take n) e ∙ take_at t (replicate (trailer_most - length t) 0) n l

-- a lent part that was filled

put_whole : (d v : List ℕ) → length v ≡ length d → put d 0 v ≡ v
put_whole d v l = put_front d v ∙ ap (λ (x : List ℕ). v ++ x) (drop_of_length-le d {i = length v} (omega arith)) ∙ append-nil v

-- d, of which the part a..e came back as x
abbrev pub back : List ℕ → ℕ → ℕ → List ℕ → List ℕ
back d a e x = take a d ++ (x ++ drop (e - a) (drop a d))

pub back_length : (d x : List ℕ) (a e : ℕ) → a ≤ e → e ≤ length d → length x ≡ length (part d a e) → length (back d a e x) ≡ length d
back_length d x a e h k l =
    simp (length-append, length-take-le a d (omega arith), length-drop) (omega (arith, span_length d a e (e - a) k (omega arith)))

pub back_filled : (d x v : List ℕ) (a e n : ℕ) → e ≤ length d → length v ≡ n → a + n ≡ e → x ≡ put (part d a e) 0 v → back d a e x ≡ put d a v
back_filled d x v a e n h l k q = span_back d x v a e n (q ∙ put_whole (part d a e) v (l ∙ sym (span_length d a e n h k))) l k

-- index, distance, entries and edition stored in four parts of the zeros d, that came back as x₁ to x₄
module _ (os : List ℕ) (count : ℕ) (d x₁ x₂ x₃ x₄ : List ℕ) where
  abbrev first : List ℕ
  first = back d 0 (4 * count) x₁

  abbrev second : List ℕ
  second = back first (4 * count) (4 * count + 4) x₂

  abbrev third : List ℕ
  third = back second (4 * count + 4) (4 * count + 6) x₃

  abbrev fourth : List ℕ
  fourth = back third (4 * count + 6) (4 * count + 8) x₄

  pub trailer_stored : length os ≡ count → count ≤ suc max_frames → d ≡ padded [] → x₁ ≡ put (part d 0 (4 * count)) 0 (index os)
      → x₂ ≡ put (part first (4 * count) (4 * count + 4)) 0 (le32 (4 * count + 8) [])
      → x₃ ≡ put (part second (4 * count + 4) (4 * count + 6)) 0 (le16 count [])
      → x₄ ≡ put (part third (4 * count + 6) (4 * count + 8)) 0 (le16 1 [])
      → fourth ≡ padded (trailer_of os)
  trailer_stored many few e q₁ q₂ q₃ q₄ =
      let at = 4 * count in
      let distance = le32 (4 * count + 8) [] in
      let entries = le16 count [] in
      let li : length (index os) ≡ at = index_length os ∙ ap (λ (n : ℕ). 4 * n) many in
      let l₀ : length d ≡ trailer_most = ap length e ∙ padded_length [] (omega arith) in
      let p₁ : first ≡ put d 0 (index os) = back_filled d x₁ (index os) 0 at at (omega arith) li (zero-add at) q₁ in
      let l₁ : length first ≡ trailer_most = ap length p₁ ∙ length_put d 0 (index os) (omega arith) ∙ l₀ in
      let p₂ : second ≡ put first at distance = back_filled first x₂ distance at (at + 4) 4 (omega arith) refl refl q₂ in
      let l₂ : length second ≡ trailer_most = ap length p₂ ∙ length_put first at distance (omega arith) ∙ l₁ in
      let p₃ : third ≡ put second (at + 4) entries = back_filled second x₃ entries (at + 4) (at + 6) 2 (omega arith) refl (omega arith) q₃ in
      let l₃ : length third ≡ trailer_most = ap length p₃ ∙ length_put second (at + 4) entries (omega arith) ∙ l₂ in
      let p₄ : fourth ≡ put third (at + 6) (le16 1 []) = back_filled third x₄ (le16 1 []) (at + 6) (at + 8) 2 (omega arith) refl (omega arith) q₄ in
      let r₃ = put_then first second third distance entries at 4 refl (omega arith) p₂ p₃ in
      let r₄ = put_then first third fourth (distance ++ entries) (le16 1 []) at 6 refl (omega arith) r₃ p₄ in
      let tail = (distance ++ entries) ++ le16 1 [] in
      let r = put_then d first fourth (index os) tail 0 at li (omega arith) p₁ (r₄ ∙ ap (λ (k : ℕ). put first k tail) (sym (zero-add at))) in
      r ∙ ap₂ (λ (x t : List ℕ). put x 0 t) e (trailer_counted os count many) ∙ padded_stored (trailer_of os)

-- trailer_walk

pub walk_fault : (b : List ℕ) (e : Refusal) → head_of FlcOnly b ≡ Err e → trailer_walk b ≡ stopped e 0
unfolding trailer_walk
walk_fault b e k = ap (after_head b) k

-- where the header's refusal has its place
pub walk_placed : (b : List ℕ) (r : Refused) → placed 0 (head_of FlcOnly b) ≡ Err r → trailer_walk b ≡ stopped r.0 r.1
walk_placed b r = go (head_of FlcOnly b) refl
  where
    go : (x : Headed) → head_of FlcOnly b ≡ x → placed 0 x ≡ Err r → trailer_walk b ≡ stopped r.0 r.1
    go (Err e) k q = let same : refused_at e 0 ≡ r = cc in walk_fault b e k ∙ ap (λ (d : Refused). stopped d.0 d.1) same
    go (Ok h) k q = let z : ◌≡◌ {A = ℕ} 0 1 = cc in absurd (omega arith)

-- n and m: the length of the range up to the size, and the number of frames with the ring, as the code has them
module _ (b : List ℕ) (z : Size) (frames size : ℕ) (speed : Milliseconds) (k : head_of FlcOnly b ≡ Ok (head_with z frames size speed))
    (n m : ℕ) (en : n ≡ size) (em : m ≡ suc frames) where
  abbrev after : Answer → TrailerWalk
  after = after_frames size (top_frames (take n b) m HEADER_BYTES).offsets

  pub walk_frames : (a : Answer) → (top_frames (take n b) m HEADER_BYTES).answer ≡ a → trailer_walk b ≡ after a
  unfolding trailer_walk
  walk_frames a q =
      ap (after_head b) k
      ∙ ap₂ (λ (x y : ℕ). after_frames size (top_frames (take x b) y HEADER_BYTES).offsets (top_frames (take x b) y HEADER_BYTES).answer) (sym en) (sym em)
      ∙ ap after q

  -- how far the walk over the frames went
  pub walk_to : (x : Extent) → extent (take n b) m HEADER_BYTES ≡ x → trailer_walk b ≡ after (answer_of x)
  walk_to x q = walk_frames (answer_of x) (extent_answer (take n b) m HEADER_BYTES ∙ ap answer_of q)

  pub walked_in : (end : ℕ) → extent (take n b) m HEADER_BYTES ≡ Ok end → Walked (take n b) m
  walked_in end q =
      let i = head_in FlcOnly b _ k in
      record {
        long = omega (arith, i.least, length-take-le n b (omega (arith, i.most)));
        few = omega (arith, i.few_frames);
        met = extent_answer (take n b) m HEADER_BYTES ∙ ap answer_of q;
      }

-- check_trailer

pub checked_refused : (b : List ℕ) (e : Refusal) (place : ℕ) → trailer_walk b ≡ stopped e place → check_trailer b ≡ refused (number e) place
unfolding check_trailer
checked_refused b e place k = ap (checked_after b) k

module _ (b : List ℕ) (size : ℕ) (t : List ℕ) (k : trailer_walk b ≡ reel size t) where
  checked_by_lem : (x y : Bool) → leb (length b) size ≡ x → same (drop size b) t ≡ y → check_trailer b ≡ cond (x || y) (done []) (refused (number BadTrailer) 0)
  unfolding check_trailer
  checked_by_lem x y e f = ap (checked_after b) k ∙ ap₂ (λ (c d : Bool). cond (c || d) (done []) (refused (number BadTrailer) 0)) e f

  pub checked_bare : length b ≡ size → check_trailer b ≡ done []
  checked_bare l = checked_by_lem true _ (le-leb (length b) size (omega arith)) refl

  -- r: whether what follows the size is the trailer; found to be y
  pub checked_compared : size < length b → (r y : Bool) → r ≡ same (take (length b - size) (drop size b)) t → r ≡ y
      → check_trailer b ≡ cond y (done []) (refused (number BadTrailer) 0)
  checked_compared s r y e f =
      checked_by_lem false y (lt-leb (length b) size s)
      (ap (λ (x : List ℕ). same x t) (sym (take_all (length b - size) (drop size b) (omega (arith, length-drop size b)))) ∙ sym e ∙ f)

-- write_trailer

pub wrote_refused : (b : List ℕ) (e : Refusal) (place : ℕ) → trailer_walk b ≡ stopped e place → write_trailer b ≡ refuse e place (lent_bytes b)
unfolding write_trailer
wrote_refused b e place k = ap (written_after b) k

-- l: the trailer's length
module _ (b : List ℕ) (size : ℕ) (t : List ℕ) (k : trailer_walk b ≡ reel size t) (l : ℕ) (el : length t ≡ l) where
  pub wrote_short : length b < size + l → write_trailer b ≡ refuse NoRoom 0 (lent_bytes b)
  unfolding write_trailer
  wrote_short s = ap (written_after b) k ∙ simp (lt-leb (size + length t) (length b) (omega arith))

  pub wrote_done : size + l ≤ length b → write_trailer b ≡ leaves (done ((size + l) ∷ [])) (lent_bytes (put b size t))
  unfolding write_trailer
  wrote_done s =
      ap (written_after b) k
      ∙ simp (le-leb (size + length t) (length b) (omega arith))
      (ap (λ (x : ℕ). leaves (done ((size + x) ∷ [])) (lent_bytes (put b size t))) el)

  -- x: what the part behind the size comes back as, y: the buffer
  pub wrote_back : size + l ≤ length b → (x y : List ℕ) (j : ℕ) → j ≡ l → y ≡ padded t → x ≡ take j y
      → leaves (done ((size + l) ∷ [])) (lent_bytes (back b size (size + l) x)) ≡ write_trailer b
  wrote_back s x y j ej ey ex =
      ap (λ (z : List ℕ). leaves (done ((size + l) ∷ [])) (lent_bytes z)) (span_back b x t size (size + l) l (ex ∙ padded_front t y j ey (el ∙ sym ej)) el refl)
      ∙ sym (wrote_done s)
