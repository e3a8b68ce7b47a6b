-- What holds of reading a frame, for every input, beside the equation that the contract of `read_frame` states:
-- 1. whether a frame is accepted, and with which refusal and place, doesn't depend on the picture and palette (`said_regardless`);
-- 2. nothing changes outside width times height pixels and 768 palette bytes (`pair_kept`);
-- 3. a place is never past the bytes (`place_within`).
-- The idea: a walk's answer is found without a state, its writes lie within the picture and the palette, and it stands only where a chunk begins.
use mathlib.Core.Path.{◌≡◌, refl, sym, ◌∙◌, subst}
use mathlib.Core.List.{List, ◌++◌}
use mathlib.Core.Bool.{Bool, true, false}
use Prim.Native.Nat.{ℕ, ◌≤◌, ◌+◌}
use native.Mathlib.Omega.{arith}
use lib.ListN.{length, take, drop, length-append, length-take, length-drop}
use lib.Seq.{length-take-le, drop_at}
use Rattle.std.specs.Prelude.{Ok, Err}
use Rattle.words.specs.Words.{part}
use Rattle.words.specs.Writes.{Write, applied}
use Rattle.words.proofs.Laws.{Inside, length_applied}
use Rattle.answer.specs.Answer.{Said, done, refused, refused_at, Answer}
use Rattle.format.specs.Limits.{size_fits}
use Rattle.answer.specs.declared.Refusal.{Refusal}
use Rattle.answer.specs.declared.Refusal.TheVariants.{ShortSlice, BadSize}
use Rattle.format.proofs.Laws.{size_in_lem}
use Rattle.chunks.specs.Headers.{Whole, frame_header}
use Rattle.chunks.proofs.Headers.{header_in_lem, FrameIn, frame_in}
use Rattle.read_chunk.specs.Chunk.{sub_chunk}
use Rattle.read_frame.specs.Frame.{FrameWalk, answer_after, sub_chunks, after_frame_header, frame}
use Rattle.read_frame.proofs.Laws.{chunks_by}
use Rattle.words.specs.Words.{require◌else◌then◌, Bytes}
use Rattle.words.proofs.Laws.{bytes_take, bytes_drop}
use Rattle.words.proofs.Bytewise.{bytes_join, bytes_applied}
use Rattle.words.proofs.Tests.{by_test}
use Rattle.format.specs.Limits.{area}
use Rattle.format.specs.declared.Size.{Size}
use Rattle.state.specs.State.{State, enough}
use Rattle.state.specs.Outcome.{Outcome, lent_pair, refuse}
use Rattle.state.proofs.Laws.{enough_in}
use Rattle.read_frame.specs.Reading.{read_by, read_frame}
use Rattle.read_frame.proofs.Sound.{frame_sound}
use Rattle.walk.specs.Walk.{Verdict}

-- 1. the answer

module _ (b : List ℕ) (z : Size) (s t : State) (es : enough (area z) s ≡ true) (et : enough (area z) t ≡ true) where
  pub said_regardless : (read_frame b z s).said ≡ (read_frame b z t).said
  unfolding read_frame
  said_regardless = rw (es, et) (go (size_fits z) (frame z b).answer)
    where
      go : (c : Bool) (a : Answer)
          → (require c else refuse BadSize 0 (lent_pair s) then read_by (area z) (frame z b) a s).said
          ≡ (require c else refuse BadSize 0 (lent_pair t) then read_by (area z) (frame z b) a t).said
      go false a = refl
      go true (Ok u) = refl
      go true (Err r) = refl

-- 2. what changes

-- as long as before, and unchanged from index n on
pub record Kept (n : ℕ) (old new : List ℕ) : Type 0 where
  pub long : length new ≡ length old
  pub rest : drop n new ≡ drop n old

kept_same : (n : ℕ) (d : List ℕ) → Kept n d d
kept_same n d = record { long = refl; rest = refl }

-- the first n bytes written on
kept_front : (n : ℕ) (d : List ℕ) (ws : List Write) → n ≤ length d → Inside n ws → Kept n d (applied ws (take n d) ++ drop n d)
kept_front n d ws h i =
    let front = length-take-le n d h in
    let e : length (applied ws (take n d)) ≡ n = length_applied ws (take n d) (subst (λ (m : ℕ). Inside m ws) (sym front) i) ∙ front in
    record {
      long = omega (arith, length-append (applied ws (take n d)) (drop n d), length-drop n d);
      rest = drop_at (applied ws (take n d)) (drop n d) n e;
    }

-- a lent pair, of a picture of n pixels, that the frame b was read on
pub record KeptPair (b : List ℕ) (n : ℕ) (old new : State) : Type 0 where
  pub picture : Kept n old.picture new.picture
  pub palette : Kept 768 old.palette new.palette
  pub bytes : Bytes b → Bytes old.picture → Bytes new.picture

module _ (b : List ℕ) (z : Size) (lent : State) where
  same_pair : KeptPair b (area z) lent lent
  same_pair = record { picture = kept_same (area z) lent.picture; palette = kept_same 768 lent.palette; bytes = λ j i. i }

  -- all as it was outside, and of bytes where the frame and the picture were
  pub pair_kept : KeptPair b (area z) lent (read_frame b z lent).memory.first
  unfolding read_frame
  pair_kept =
      by_test (λ c. Fine (require c else refuse BadSize 0 (lent_pair lent) then require enough (area z) lent else refuse ShortSlice 0 (lent_pair lent)
      then read_by (area z) (frame z b) (frame z b).answer lent))
      (size_fits z)
      (λ i. by_test (λ d. Fine (require d else refuse ShortSlice 0 (lent_pair lent) then read_by (area z) (frame z b) (frame z b).answer lent))
      (enough (area z) lent)
      (λ e. go i e (frame z b).answer) (λ e. same_pair)) (λ i. same_pair)
    where
      Fine : Outcome → Type 0
      Fine o = KeptPair b (area z) lent o.memory.first

      go : size_fits z ≡ true → enough (area z) lent ≡ true → (a : Answer) → Fine (read_by (area z) (frame z b) a lent)
      go i e (Err r) = same_pair
      go i e (Ok u) =
          let s = frame_sound z (size_in_lem z i).some_wide b in
          let n = enough_in (area z) lent e in
          record {
            picture = kept_front (area z) lent.picture (frame z b).pixels n.0 s.in_picture;
            palette = kept_front 768 lent.palette (frame z b).colours n.1 s.in_palette;
            bytes = λ j k.
                bytes_join (applied (frame z b).pixels (take (area z) lent.picture)) (drop (area z) lent.picture)
                (bytes_applied (frame z b).pixels (take (area z) lent.picture) (s.of_bytes j).0 (bytes_take (area z) lent.picture k))
                (bytes_drop (area z) lent.picture k);
          }

-- 3. the place

-- the place of an answer is not past b
abbrev PlaceIn : List ℕ → Answer → Type 0
PlaceIn b (Ok u) = Unit {0}
PlaceIn b (Err r) = r.1 ≤ length b

place_answer_after : (b : List ℕ) (at : ℕ) (v : Verdict) (a : Answer) → at ≤ length b → PlaceIn b a → PlaceIn b (answer_after at v a)
place_answer_after b at (Ok end) a h i = i
place_answer_after b at (Err e) a h i = h

chunks_place : (z : Size) (b : List ℕ) (n at : ℕ) → at ≤ length b → PlaceIn b (sub_chunks z b n at).answer
chunks_place z b n at i =
    chunks_by z b (λ (m k : ℕ) (f : FrameWalk). k ≤ length b → PlaceIn b f.answer)
    (λ k j. tt)
    (λ m k e q j. j)
    (λ m k kind end q rest j.
    place_answer_after b k (sub_chunk z kind (part b (k + 6) end)).verdict (sub_chunks z b m end).answer j (rest (header_in_lem b k _ q).1)) n at i

place_front : (b : List ℕ) (n : ℕ) (a : Answer) → PlaceIn (take n b) a → PlaceIn b a
place_front b n (Ok u) i = tt
place_front b n (Err r) i = omega (arith, length-take n b)

frame_place : (z : Size) (b : List ℕ) → PlaceIn b (frame z b).answer
unfolding frame
frame_place z b = go (frame_header b) (frame_in b _ refl)
  where
    go : (x : Whole) → FrameIn b x → PlaceIn b (after_frame_header z b x).answer
    go (Err e) i = omega arith
    go (Ok h) i =
        let l = length-take-le h.size b i.1 in
        place_front b h.size (sub_chunks z (take h.size b) h.count 16).answer (chunks_place z (take h.size b) h.count 16 (omega (arith, l, i.0)))

pub refused_within : (z : Size) (b : List ℕ) (e : Refusal) (place : ℕ) → (frame z b).answer ≡ Err (refused_at e place) → place ≤ length b
refused_within z b e place a = subst (PlaceIn b) a (frame_place z b)

-- a refusal's place is not past b
abbrev SaidIn : List ℕ → Said → Type 0
SaidIn b (done v) = Unit {0}
SaidIn b (refused n place) = place ≤ length b

module _ (b : List ℕ) (z : Size) (lent : State) where
  pub place_within : (n place : ℕ) → (read_frame b z lent).said ≡ refused n place → place ≤ length b
  unfolding read_frame
  place_within n place e = subst (SaidIn b) e (go (size_fits z) (enough (area z) lent) (frame z b).answer (frame_place z b))
    where
      go : (c d : Bool) (a : Answer) → PlaceIn b a
          → SaidIn b (require c else refuse BadSize 0 (lent_pair lent) then require d else refuse ShortSlice 0 (lent_pair lent) then read_by (area z)
          (frame z b) a lent).said
      go false d a i = omega arith
      go true false a i = omega arith
      go true true (Ok u) i = tt
      go true true (Err r) i = i
