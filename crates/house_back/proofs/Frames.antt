-- A frame of sub-chunks plays as they do, one after the other: `framed_plays`.
-- The idea: the header of each sub-chunk is found where the one before ends, its body is the part that was written, and the walk goes on from there.
use mathlib.Core.Path.{◌≡◌, refl, sym, ap, ◌∙◌, subst}
use mathlib.Core.List.{List, [], ◌∷◌, ◌++◌, flatten, append-nil}
use Prim.Native.Nat.{ℕ, suc, ◌+◌, ◌-◌, ◌/◌, ◌%◌, ◌<◌}
use native.Mathlib.Omega.{arith}
use lib.ListN.{length, take, drop, length-append}
use lib.Seq.{take_all}
use Rattle.std.specs.Prelude.{Ok}
use Rattle.words.specs.Words.{u32_at, part, le16, le32, chunk}
use Rattle.words.specs.Writes.{applied}
use Rattle.words.proofs.Laws.{applied_append, length_chunk}
use Rattle.words.proofs.There.{there_drop, there_take, there_long, there_le16, there_le32}
use Rattle.format.specs.Format.{FRAME_TYPE}
use Rattle.format.specs.declared.Size.{Size}
use Rattle.read_chunk.specs.Chunk.{ChunkWalk, sub_chunk}
use Rattle.read_frame.specs.Frame.{FrameWalk, stop, answer_after, writes_after, chunk_then, sub_chunks, frame}
use Rattle.chunks.specs.Headers.{header_at, frame_header, chunk_to, whole_of}
use Rattle.read_frame.proofs.Laws.{chunks_none, chunks_more, frame_as}
use Rattle.chunks.proofs.Headers.{header_whole, frame_whole}
use Rattle.house_frame.specs.House.{framed}
use Rattle.house_back.specs.Plays.{Acts, Plays}
use Rattle.walk.specs.Walk.{Verdict}

-- sub-chunks that turn p and q into p' and q', one after the other
pub data Subs (z : Size) : List (List ℕ) → List ℕ → List ℕ → List ℕ → List ℕ → Type 0 where
  none : {p q : List ℕ} → Subs z [] p q p q
  sub : {subs : List (List ℕ)} {p q p' q' : List ℕ} (kind : ℕ) (body p₁ q₁ : List ℕ) → 6 + length body < 4294967296
      → Acts (sub_chunk z kind body) p q p₁ q₁ → Subs z subs p₁ q₁ p' q' → Subs z (chunk kind body ∷ subs) p q p' q'

plays_as : {f g : FrameWalk} {p q p' q' : List ℕ} → f ≡ g → Plays g p q p' q' → Plays f p q p' q'
plays_as {f} {g} {p} {q} {p'} {q'} e x = subst (λ (k : FrameWalk). Plays k p q p' q') (sym e) x

plays_none : (p q : List ℕ) → Plays (stop (Ok tt)) p q p q
unfolding applied
plays_none p q = record { done = refl; picture = refl; palette = refl }

plays_more : (at : ℕ) (c : ChunkWalk) (f : FrameWalk) {p q p₁ q₁ p' q' : List ℕ} → Acts c p q p₁ q₁ → Plays f p₁ q₁ p' q' → Plays (chunk_then at c f) p q p' q'
plays_more at c f {p} {q} {p₁} {q₁} {p'} {q'} x y =
    record {
      done = ap (λ (v : Verdict). answer_after at v f.answer) x.ended ∙ y.done;
      picture = ap (λ (v : Verdict). applied (c.pixels ++ writes_after v f.pixels) p) x.ended ∙ applied_append c.pixels f.pixels p
          ∙ ap (applied f.pixels) x.picture ∙ y.picture;
      palette = ap (λ (v : Verdict). applied (c.colours ++ writes_after v f.colours) q) x.ended ∙ applied_append c.colours f.colours q
          ∙ ap (applied f.colours) x.palette ∙ y.palette;
    }

-- a chunk that stands at offset at of b, and what follows it
module _ (b : List ℕ) (at kind : ℕ) (body more : List ℕ) (there : drop at b ≡ chunk kind body ++ more) (small : 6 + length body < 4294967296) where
  bytes : drop at b ≡ le32 (6 + length body) (le16 kind (body ++ more))
  unfolding chunk
  bytes = there

  typed : drop (at + 4) b ≡ le16 kind (body ++ more)
  typed =
      let n = 6 + length body in
      there_drop b (n % 256 ∷ n / 256 % 256 ∷ n / 256 / 256 % 256 ∷ n / 256 / 256 / 256 % 256 ∷ []) (le16 kind (body ++ more)) at 4 bytes refl

  bodied : drop (at + 6) b ≡ body ++ more
  bodied =
      let e : at + 6 ≡ at + 4 + 2 = omega arith in
      ap (λ (i : ℕ). drop i b) e ∙ there_drop b (kind % 256 ∷ kind / 256 ∷ []) (body ++ more) (at + 4) 2 typed refl

  pub chunk_size : u32_at b at ≡ 6 + length body
  chunk_size = there_le32 b (le16 kind (body ++ more)) at (6 + length body) small bytes

  pub chunk_there : header_at b at ≡ Ok (chunk_to kind (at + (6 + length body)))
  chunk_there =
      let n = 6 + length body in
      let size = chunk_size in
      let l = length-append body more in
      let long = there_long b (le32 n (le16 kind (body ++ more))) at n bytes (omega arith) (omega arith) in
      sym (header_whole b at kind n (sym (there_le16 b (body ++ more) (at + 4) kind typed)) (sym size) (omega arith) (omega arith))

  pub body_there : part b (at + 6) (at + (6 + length body)) ≡ body
  body_there =
      let e : at + (6 + length body) - (at + 6) ≡ length body = omega arith in
      ap (λ (i : ℕ). take i (drop (at + 6) b)) e ∙ there_take b body more (at + 6) (length body) bodied refl

  pub more_there : drop (at + (6 + length body)) b ≡ more
  more_there = there_drop b (chunk kind body) more at (6 + length body) there (length_chunk kind body)

module _ (z : Size) (b : List ℕ) where
  chunks_play : {subs : List (List ℕ)} {p q p' q' : List ℕ} → Subs z subs p q p' q' → (at : ℕ) → drop at b ≡ flatten subs
      → Plays (sub_chunks z b (length subs) at) p q p' q'
  unfolding flatten
  chunks_play (none {p} {q}) at e = plays_as (chunks_none z b 0 at (omega arith)) (plays_none p q)
  chunks_play (sub {subs} {p} {q} {p'} {q'} kind body p₁ q₁ small acts more) at e =
      let end = at + (6 + length body) in
      let rest = flatten subs in
      let n : suc (length subs) - 1 ≡ length subs = omega arith in
      plays_as
      (chunks_more z b (suc (length subs)) at (omega arith) kind end (chunk_there b at kind body rest e small)
      ∙ ap (λ (m : ℕ). chunk_then at (sub_chunk z kind (part b (at + 6) end)) (sub_chunks z b m end)) n
      ∙ ap (λ (x : List ℕ). chunk_then at (sub_chunk z kind x) (sub_chunks z b (length subs) end)) (body_there b at kind body rest e small))
      (plays_more at (sub_chunk z kind body) (sub_chunks z b (length subs) end) acts
      (chunks_play more end (more_there b at kind body rest e small)))

-- its length is what its size field says
pub length_framed : (subs : List (List ℕ)) → length (framed subs) ≡ 16 + length (flatten subs)
unfolding framed
length_framed subs = omega arith

module _ (subs : List (List ℕ)) (small : 16 + length (flatten subs) < 4294967296) where
  -- whatever follows the frame
  module _ (more : List ℕ) where
    abbrev reserved : List ℕ
    reserved = 0 ∷ 0 ∷ 0 ∷ 0 ∷ 0 ∷ 0 ∷ 0 ∷ 0 ∷ (flatten subs ++ more)

    pub field_before : u32_at (framed subs ++ more) 0 ≡ length (framed subs)
    unfolding framed
    field_before =
        there_le32 (framed subs ++ more) (le16 FRAME_TYPE (le16 (length subs) reserved)) 0 (16 + length (flatten subs)) small refl ∙ sym (length_framed subs)

    pub header_before : frame_header (framed subs ++ more) ≡ Ok (whole_of (length subs) (length (framed subs)))
    unfolding framed
    header_before =
        let b = framed subs ++ more in
        let n = length_framed subs in
        let l = length-append (framed subs) more in
        sym (frame_whole b (length subs) (length (framed subs)) (sym (there_le16 b reserved 6 (length subs) refl)) (sym field_before) (omega arith)
        (there_le16 b (le16 (length subs) reserved) 4 FRAME_TYPE refl) (omega (arith, field_before)) (omega (arith, field_before)))

  pub framed_field : u32_at (framed subs) 0 ≡ length (framed subs)
  framed_field = ap (λ (x : List ℕ). u32_at x 0) (sym (append-nil (framed subs))) ∙ field_before []

  pub framed_header : frame_header (framed subs) ≡ Ok (whole_of (length subs) (length (framed subs)))
  framed_header = ap frame_header (sym (append-nil (framed subs))) ∙ header_before []

  pub framed_subs : drop 16 (framed subs) ≡ flatten subs
  unfolding framed
  framed_subs = refl

-- a frame of these sub-chunks
pub framed_plays : (z : Size) (subs : List (List ℕ)) (p q p' q' : List ℕ) → 16 + length (flatten subs) < 4294967296 → Subs z subs p q p' q'
    → Plays (frame z (framed subs)) p q p' q'
framed_plays z subs p q p' q' small s =
    let b = framed subs in
    plays_as
    (frame_as z b (Ok (whole_of (length subs) (length b))) (framed_header subs small)
    ∙ ap (λ (x : List ℕ). sub_chunks z x (length subs) 16) (take_all (length b) b (omega arith)))
    (chunks_play z b s 16 (framed_subs subs small))
