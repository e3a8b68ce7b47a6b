-- What holds of writing a trailer, for all lent bytes, beside the equation that the contract of `write_trailer` states:
-- 1. what is written is accepted by the check (`written_accepted`);
-- 2. its entries are the offsets of the frame chunks, ring included, in their order (`entries_are`);
-- 3. the check of the reel gives what it gave before, of the lent bytes (`check_same`) and of the file cut to its new length (`check_same_cut`).
-- The idea: writing keeps every byte up to the size, and header, walk and playing read no other. So the walk behind the check of a trailer is the
-- one that the trailer was made of, and comparing finds the same. An entry is read back from where its four bytes were stored; it fits them, since
-- an offset is at most the size, which is itself a word of four bytes.
use mathlib.Core.Path.{◌≡◌, refl, sym, ap, ap₂, ◌∙◌, subst}
use mathlib.Core.List.{List, [], ◌∷◌, ◌++◌, append_assoc}
use mathlib.Core.Bool.{true, ◌&&◌, cond}
use Prim.Native.Nat.{ℕ, suc, ◌+◌, ◌-◌, ◌*◌, ◌≤◌, ◌<◌}
use native.Mathlib.Omega.{arith}
use borrow.Author.Tests.{leb-true, leb-false}
use lib.Dec.{leb}
use lib.ListN.{length, take, drop, get_or, length-append}
use lib.Seq.{length-take-le, take_all, take_at, drop_at, take-take, drop-drop}
use Rattle.std.specs.Prelude.{Ok, Err}
use Rattle.words.specs.Words.{u32_at, le16, le32, same, Bytes}
use Rattle.words.specs.Writes.{put}
use Rattle.words.proofs.Laws.{length_put, same_refl, bytes_get_d}
use Rattle.words.proofs.There.{there_le32}
use Rattle.words.proofs.Tests.{by_test}
use Rattle.format.specs.Limits.{area}
use Rattle.format.specs.declared.Size.{Size}
use Rattle.delay.specs.declared.Milliseconds.{Milliseconds}
use Rattle.answer.specs.Answer.{done, refused, number, Answer}
use Rattle.answer.specs.declared.Refusal.{Refusal}
use Rattle.answer.specs.declared.Refusal.TheVariants.{ShortSlice, NoRoom}
use Rattle.state.specs.State.{State, enough}
use Rattle.state.specs.Outcome.{Outcome, lent_bytes, lent_pairs, refuse}
use Rattle.chunks.specs.Spans.{HEADER_BYTES, Found, top_frames}
use Rattle.chunks.specs.declared.Layout.TheVariants.{Loose}
use Rattle.chunks.proofs.Spans.{found_many, found_in}
use Rattle.reel_header.specs.Head.{head_of, head_with, Headed}
use Rattle.reel_header.specs.declared.Takes.TheVariants.{FlcOnly, Both}
use Rattle.reel_header.proofs.Laws.{head_in, head_flc}
use Rattle.reel_play.specs.Play.{play_all}
use Rattle.reel_check.specs.Check.{checked_by, after_head, check_reel}
use Rattle.reel_trailer.specs.Trailer.{index, trailer_of, reel, frames_of, trailer_walk, check_trailer, write_trailer}
use Rattle.reel_trailer.proofs.Laws.{index_entry, trailer_length, walk_fault, walk_frames, checked_compared, wrote_refused, wrote_short, wrote_done}
use Rattle.reel_trailer.proofs.Front.{head_word, head_front}

-- what writing leaves

-- the lent bytes afterwards
abbrev after : List ℕ → List ℕ
after b = (write_trailer b).memory.bytes

-- the trailer of the reel at the front of b
abbrev trailer : List ℕ → ℕ → ℕ → List ℕ
trailer b frames size = trailer_of (frames_of b frames size).offsets

-- the trailer was written, with n as the file's new length
record Wrote (b : List ℕ) (frames size n : ℕ) : Type 0 where
  met : (frames_of b frames size).answer ≡ Ok tt
  end : n ≡ size + length (trailer b frames size)
  room : n ≤ length b
  bytes : after b ≡ put b size (trailer b frames size)

-- either it was refused, and nothing was written, or the trailer was
data Result (b : List ℕ) (frames size : ℕ) : Type 0 where
  kept : (e : Refusal) (place : ℕ) → write_trailer b ≡ refuse e place (lent_bytes b) → Result b frames size
  wrote : (n : ℕ) → (write_trailer b).said ≡ done (n ∷ []) → Wrote b frames size n → Result b frames size

refused_not_done : {C : Type 0} (b : List ℕ) (n : ℕ) (e : Refusal) (place : ℕ) → write_trailer b ≡ refuse e place (lent_bytes b)
    → (write_trailer b).said ≡ done (n ∷ []) → C
refused_not_done b n e place o s =
    let r : (write_trailer b).said ≡ refused (number e) place = ap (λ (x : Outcome). x.said) o in
    let z : ◌≡◌ {A = ℕ} 0 1 = cc in absurd (omega arith)

module _ (b : List ℕ) (z : Size) (frames size : ℕ) (speed : Milliseconds) (k : head_of FlcOnly b ≡ Ok (head_with z frames size speed)) where
  result : Result b frames size
  result = by_answer (frames_of b frames size).answer refl
    where
      by_answer : (a : Answer) → (frames_of b frames size).answer ≡ a → Result b frames size
      by_answer (Err r) q = kept r.0 r.1 (wrote_refused b r.0 r.1 (walk_frames b z frames size speed k size (suc frames) refl refl _ q))
      by_answer (Ok u) q =
          let t = trailer b frames size in
          let m : trailer_walk b ≡ reel size t = walk_frames b z frames size speed k size (suc frames) refl refl (Ok tt) q in
          by_test (λ x. Result b frames size) (leb (size + length t) (length b))
          (λ e. let l = leb-true (size + length t) (length b) e in
          let o = wrote_done b size t m _ refl l in
          wrote (size + length t) (ap (λ (x : Outcome). x.said) o) (record { met = q; end = refl; room = l; bytes = ap (λ (x : Outcome). x.memory.bytes) o }))
          (λ e. kept NoRoom 0 (wrote_short b size t m _ refl (leb-false (size + length t) (length b) e)))

  wrote_in : (n : ℕ) → (write_trailer b).said ≡ done (n ∷ []) → Wrote b frames size n
  wrote_in n s = go result
    where
      go : Result b frames size → Wrote b frames size n
      go (kept e place o) = refused_not_done b n e place o s
      go (wrote m r i) = let q : m ≡ n = cc in subst (Wrote b frames size) q i

  -- up to the size nothing changes, nor does the length
  written_front : (take size (after b) ≡ take size b) × (length (after b) ≡ length b)
  written_front = go result
    where
      go : Result b frames size → (take size (after b) ≡ take size b) × (length (after b) ≡ length b)
      go (kept e place o) = let q = ap (λ (x : Outcome). x.memory.bytes) o in (ap (take size) q, ap length q)
      go (wrote n s i) =
          let t = trailer b frames size in (
            ap (take size) i.bytes ∙ take_at (take size b) (t ++ drop (size + length t) b) size (length-take-le size b (head_in FlcOnly b _ k).most),
            ap length i.bytes ∙ length_put b size t (omega (arith, i.end, i.room)),
          )

-- the check accepts it

module _ (b : List ℕ) (z : Size) (frames size : ℕ) (speed : Milliseconds) (n : ℕ) (k : head_of FlcOnly b ≡ Ok (head_with z frames size speed))
    (i : Wrote b frames size n) where
  -- the file cut to its new length is the reel and the trailer
  written_file : take n (after b) ≡ take size b ++ trailer b frames size
  written_file =
      let t = trailer b frames size in
      let rest = drop (size + length t) b in
      let l = length-take-le size b (head_in FlcOnly b _ k).most in
      ap (take n) (i.bytes ∙ sym (append_assoc (take size b) t rest)) ∙ take_at (take size b ++ t) rest n (length-append (take size b) t ∙ omega (arith, i.end))

  -- a file of the reel and its trailer
  file_accepted : (f : List ℕ) → f ≡ take size b ++ trailer b frames size → check_trailer f ≡ done []
  file_accepted f e =
      let t = trailer b frames size in
      let l = length-take-le size b (head_in FlcOnly b _ k).most in
      let front : take size f ≡ take size b = ap (take size) e ∙ take_at (take size b) t size l in
      let back : drop size f ≡ t = ap (drop size) e ∙ drop_at (take size b) t size l in
      let long : length f ≡ size + length t = ap length e ∙ length-append (take size b) t ∙ ap (λ (m : ℕ). m + length t) l in
      let some = trailer_length (frames_of b frames size).offsets in
      let same-frames : frames_of f frames size ≡ frames_of b frames size = ap (λ (x : List ℕ). top_frames x (suc frames) HEADER_BYTES) front in
      let rest : take (length f - size) (drop size f) ≡ t = ap (take (length f - size)) back ∙ take_all (length f - size) t (omega arith) in
      checked_compared f size (trailer f frames size)
      (walk_frames f z frames size speed (head_front FlcOnly b z frames size speed k f front (omega arith)) size (suc frames) refl refl (Ok tt)
      (ap (λ (x : Found). x.answer) same-frames ∙ i.met))
      (omega arith) _ true refl (ap₂ same rest (ap (λ (x : Found). trailer_of x.offsets) same-frames) ∙ same_refl t)

pub written_accepted : (b : List ℕ) (n : ℕ) → (write_trailer b).said ≡ done (n ∷ []) → check_trailer (take n (write_trailer b).memory.bytes) ≡ done []
written_accepted b n s = by_head (head_of FlcOnly b) refl
  where
    by_head : (x : Headed) → head_of FlcOnly b ≡ x → check_trailer (take n (after b)) ≡ done []
    by_head (Err e) k = refused_not_done b n e 0 (wrote_refused b e 0 (walk_fault b e k)) s
    by_head (Ok h) k =
        let i = wrote_in b h.picture h.frames h.size h.speed k n s in
        file_accepted b h.picture h.frames h.size h.speed n k i (take n (after b)) (written_file b h.picture h.frames h.size h.speed n k i)

-- its entries

bytes_word32 : (b : List ℕ) (i : ℕ) → Bytes b → u32_at b i < 4294967296
unfolding u32_at
bytes_word32 b i h = omega (arith, bytes_get_d b i h, bytes_get_d b (i + 1) h, bytes_get_d b (i + 2) h, bytes_get_d b (i + 2 + 1) h)

trailer_entry : (os : List ℕ) (i : ℕ) (more : List ℕ) → i < length os → drop (4 * i) (trailer_of os ++ more)
    ≡ le32 (get_or os i 0) (index (drop (suc i) os) ++ (le32 (4 * length os + 8) (le16 (length os) (le16 1 [])) ++ more))
unfolding trailer_of
trailer_entry os i more h =
    let tail = le32 (4 * length os + 8) (le16 (length os) (le16 1 [])) in
    ap (drop (4 * i)) (append_assoc (index os) tail more) ∙ index_entry os (tail ++ more) i h

pub entries_are : (b : List ℕ) (z : Size) (frames size : ℕ) (speed : Milliseconds) (n : ℕ) → Bytes b → head_of FlcOnly b ≡ Ok (head_with z frames size speed)
    → (write_trailer b).said ≡ done (n ∷ [])
    → (i : ℕ) → i ≤ frames → u32_at (write_trailer b).memory.bytes (size + 4 * i) ≡ get_or (top_frames (take size b) (suc frames) HEADER_BYTES).offsets i 0
entries_are b z frames size speed n bytes k s i le =
    let os = (frames_of b frames size).offsets in
    let j = wrote_in b z frames size speed k n s in
    let l = length-take-le size b (head_in FlcOnly b _ k).most in
    let more = drop (size + length (trailer_of os)) b in
    let there : drop (size + 4 * i) (after b) ≡ drop (4 * i) (trailer_of os ++ more) =
    ap (drop (size + 4 * i)) j.bytes ∙ sym (drop-drop (4 * i) size (put b size (trailer_of os)))
    ∙ ap (drop (4 * i)) (drop_at (take size b) (trailer_of os ++ more) size l) in
    let many = found_many (take size b) (suc frames) HEADER_BYTES j.met in
    let small : get_or os i 0 < 4294967296 =
    omega (
      arith,
      found_in (take size b) (suc frames) HEADER_BYTES i (omega (arith, (head_in FlcOnly b _ k).least)),
      head_word FlcOnly b z frames size speed k,
      bytes_word32 b 0 bytes,
    ) in
    there_le32 (after b) _ (size + 4 * i) (get_or os i 0) small (there ∙ trailer_entry os i more (omega arith))

-- the check of the reel

module _ (b : List ℕ) (first second : State) where
  -- c holds the same reel
  check_front : (c : List ℕ) (z : Size) (frames size : ℕ) (speed : Milliseconds) → head_of FlcOnly b ≡ Ok (head_with z frames size speed) → take size c
      ≡ take size b → size ≤ length c → check_reel c first second ≡ check_reel b first second
  unfolding check_reel
  check_front c z frames size speed k e l =
      let both = head_flc b z frames size speed k in
      ap (λ (x : Headed). after_head c x first second) (head_front Both b z frames size speed both c e l)
      ∙ ap (λ (x : List ℕ). cond (enough (area z) first && enough (area z) second) (checked_by (area z) (play_all Loose frames z x) first second)
      (refuse ShortSlice 0 (lent_pairs first second))) e
      ∙ sym (ap (λ (x : Headed). after_head b x first second) both)

  pub check_same : check_reel (write_trailer b).memory.bytes first second ≡ check_reel b first second
  check_same = by_head (head_of FlcOnly b) refl
    where
      by_head : (x : Headed) → head_of FlcOnly b ≡ x → check_reel (after b) first second ≡ check_reel b first second
      by_head (Err e) k = ap (λ (x : Outcome). check_reel x.memory.bytes first second) (wrote_refused b e 0 (walk_fault b e k))
      by_head (Ok h) k =
          let f = written_front b h.picture h.frames h.size h.speed k in
          check_front (after b) h.picture h.frames h.size h.speed k f.0 (omega (arith, f.1, (head_in FlcOnly b _ k).most))

  pub check_same_cut : (n : ℕ) → (write_trailer b).said ≡ done (n ∷ []) → check_reel (take n (write_trailer b).memory.bytes) first second
      ≡ check_reel b first second
  check_same_cut n s = by_head (head_of FlcOnly b) refl
    where
      by_head : (x : Headed) → head_of FlcOnly b ≡ x → check_reel (take n (after b)) first second ≡ check_reel b first second
      by_head (Err e) k = refused_not_done b n e 0 (wrote_refused b e 0 (walk_fault b e k)) s
      by_head (Ok h) k =
          let i = wrote_in b h.picture h.frames h.size h.speed k n s in
          let f = written_front b h.picture h.frames h.size h.speed k in
          let long = length-take-le n (after b) (omega (arith, i.room, f.1)) in
          check_front (take n (after b)) h.picture h.frames h.size h.speed k (take-take h.size n (after b) (omega (arith, i.end)) ∙ f.0) (omega (arith, i.end))
