-- The sub-chunks of a frame by their headers: those of a frame that was put together, and the one of a frame that holds a single one.
use mathlib.Core.Path.{◌≡◌, refl, sym, ap, ◌∙◌, subst}
use mathlib.Core.List.{List, [], ◌∷◌, ◌++◌, flatten}
use Prim.Native.Nat.{ℕ, suc, ◌+◌, ◌-◌, ◌<◌}
use native.Mathlib.Nat.{add-sub_cancel_left}
use native.Mathlib.Omega.{arith}
use lib.ListN.{length, take, drop}
use lib.Seq.{take_all}
use Rattle.std.specs.Prelude.{Ok, Err}
use Rattle.words.specs.Words.{part, chunk}
use Rattle.words.proofs.Laws.{span_length}
use Rattle.chunks.specs.Headers.{header_at, frame_header, chunk_to, Whole}
use Rattle.chunks.specs.Spans.{Span, Spans, sub_spans}
use Rattle.chunks.proofs.Headers.{header_in_lem}
use Rattle.chunks.proofs.Spans.{subs_none, subs_step, subs_by}
use Rattle.read_chunk.specs.Chunk.{sub_chunk}
use Rattle.read_frame.specs.Frame.{FrameWalk, answer_after, writes_after, chunk_then, acted, sub_chunks, after_frame_header, frame}
use Rattle.format.specs.declared.Size.{Size}
use Rattle.house_frame.specs.House.{framed}
use Rattle.house_back.proofs.Frames.{chunk_there, more_there, framed_header, framed_subs}
use Rattle.house_rewrite.specs.Demand3.{Sub, sized, subs_at, after_whole, subs_of}
use Rattle.answer.specs.Answer.{Answer}
use Rattle.walk.specs.Walk.{Verdict}
use Rattle.answer.specs.declared.Refused.{Refused}

never : {C A : Type 0} {x : A} {xs : List A} → [] ≡ x ∷ xs → C
never e = let z : ◌≡◌ {A = ℕ} 0 1 = cc in absurd (omega arith)

refused_not_done : {C : Type 0} {r : Refused} → ◌≡◌ {A = Answer} (Err r) (Ok tt) → C
refused_not_done e = let z : ◌≡◌ {A = ℕ} 0 1 = cc in absurd (omega arith)

-- two lists of sub-chunks, the second of one
pub same_first : (k k' : Sub) (ks : List Sub) → k ∷ ks ≡ k' ∷ [] → k ≡ k'
same_first k k' ks e = cc

none_left : (k k' : Sub) (ks : List Sub) → k ∷ ks ≡ k' ∷ [] → ks ≡ []
none_left k k' ks e = cc

-- a frame that was put together

-- sub-chunks, and their headers
pub data Described : List (List ℕ) → List Sub → Type 0 where
  none : Described [] []
  more : {subs : List (List ℕ)} {ks : List Sub} (kind : ℕ) (body : List ℕ) → 6 + length body < 4294967296 → Described subs ks
      → Described (chunk kind body ∷ subs) (record { kind = kind; size = 6 + length body } ∷ ks)

subs_more : (b : List ℕ) (n at kind end : ℕ) → header_at b at ≡ Ok (chunk_to kind end) → subs_at b (suc n) at ≡ record {
  kind = kind;
  size = end - at;
} ∷ subs_at b n end
unfolding subs_at
subs_more b n at kind end q =
    let k : suc n - 1 ≡ n = omega arith in
    ap (λ (x : Spans). sized x.met) (subs_step b (suc n) at (omega arith) (Ok (chunk_to kind end)) q)
    ∙ ap (λ (m : ℕ). record { kind = kind; size = end - at } ∷ sized (sub_spans b m end).met) k

subs_over : (b : List ℕ) (at : ℕ) → subs_at b 0 at ≡ []
unfolding subs_at
subs_over b at = ap (λ (x : Spans). sized x.met) (subs_none b 0 at (omega arith))

described : {subs : List (List ℕ)} {ks : List Sub} → Described subs ks → (b : List ℕ) (at : ℕ) → drop at b ≡ flatten subs → subs_at b (length subs) at ≡ ks
unfolding flatten
described none b at e = subs_over b at
described (more {subs} {ks} kind body small d) b at e =
    let end = at + (6 + length body) in
    subs_more b (length subs) at kind end (chunk_there b at kind body (flatten subs) e small)
    ∙ ap (λ (n : ℕ). record { kind = kind; size = n } ∷ subs_at b (length subs) end) (add-sub_cancel_left at (6 + length body))
    ∙ ap (λ (l : List Sub). record { kind = kind; size = 6 + length body } ∷ l) (described d b end (more_there b at kind body (flatten subs) e small))

pub framed_described : (subs : List (List ℕ)) (ks : List Sub) → 16 + length (flatten subs) < 4294967296 → Described subs ks → subs_of (framed subs) ≡ ks
unfolding subs_of
framed_described subs ks small d =
    let b = framed subs in
    ap (after_whole b) (framed_header subs small) ∙ ap (λ (x : List ℕ). subs_at x (length subs) 16) (take_all (length b) b (omega arith))
    ∙ described d b 16 (framed_subs subs small)

-- a frame that holds a single sub-chunk

-- a walk that does what the one sub-chunk of this kind and size does
pub record Single (z : Size) (f : FrameWalk) (kind size : ℕ) : Type 0 where
  pub body : List ℕ
  pub end : ℕ
  pub long : 6 + length body ≡ size
  pub ended : (sub_chunk z kind body).verdict ≡ Ok end
  pub pixels : f.pixels ≡ (sub_chunk z kind body).pixels ++ []

after_done : (at : ℕ) (v : Verdict) (r : Answer) → answer_after at v r ≡ Ok tt → ((end : ℕ) × (v ≡ Ok end)) × (r ≡ Ok tt)
after_done at (Ok end) r e = ((end, refl), e)
after_done at (Err x) r e = refused_not_done e

module _ (z : Size) (b : List ℕ) where
  -- no sub-chunk left
  acted_over : (ss : List Span) (a : Answer) → sized ss ≡ [] → (acted z b ss a).pixels ≡ []
  acted_over [] a e = refl
  acted_over (s ∷ ss) a e = never (sym e)

  chunks_single : (n at kind size : ℕ) → (sub_chunks z b n at).answer ≡ Ok tt → subs_at b n at ≡ record { kind = kind; size = size } ∷ []
      → Single z (sub_chunks z b n at) kind size
  unfolding sub_chunks subs_at
  chunks_single n at kind size =
      subs_by b (λ (m k : ℕ) (s : Spans). (acted z b s.met s.answer).answer ≡ Ok tt → sized s.met ≡ record {
        kind = kind;
        size = size;
      } ∷ [] → Single z (acted z b s.met s.answer) kind size)
      (λ k a e. never e) (λ m k r q a e. never e) (λ m k kind' end i rest a e. one m k kind' end i a e) n at
    where
      one : (m k kind' end : ℕ) → header_at b k ≡ Ok (chunk_to kind' end)
          → (chunk_then k (sub_chunk z kind' (part b (k + 6) end)) (acted z b (sub_spans b m end).met (sub_spans b m end).answer)).answer ≡ Ok tt
          → record { kind = kind'; size = end - k } ∷ sized (sub_spans b m end).met ≡ record { kind = kind; size = size } ∷ []
          → Single z (chunk_then k (sub_chunk z kind' (part b (k + 6) end)) (acted z b (sub_spans b m end).met (sub_spans b m end).answer)) kind size
      one m k kind' end i a e =
          let ss = (sub_spans b m end).met in
          let this : Sub = record { kind = kind'; size = end - k } in
          let that : Sub = record { kind = kind; size = size } in
          let first = same_first this that (sized ss) e in
          let same_kind : kind' ≡ kind = ap (λ (x : Sub). x.kind) first in
          let same_size : end - k ≡ size = ap (λ (x : Sub). x.size) first in
          let over = none_left this that (sized ss) e in
          let body = part b (k + 6) end in
          let inside = header_in_lem b k (Ok (chunk_to kind' end)) i in
          let (went, done) = after_done k (sub_chunk z kind' body).verdict (acted z b ss (sub_spans b m end).answer).answer a in
          subst (λ (x : ℕ). Single z (chunk_then k (sub_chunk z kind' body) (acted z b ss (sub_spans b m end).answer)) x size) same_kind
          (record {
            body = body;
            end = went.0;
            long = omega (arith, same_size, inside.0, span_length b (k + 6) end (end - (k + 6)) inside.1 (omega (arith, inside.0)));
            ended = went.1;
            pixels =
                ap (λ (v : Verdict). (sub_chunk z kind' body).pixels ++ writes_after v (acted z b ss (sub_spans b m end).answer).pixels) went.1
                ∙ ap (λ (l : List _). (sub_chunk z kind' body).pixels ++ l) (acted_over ss (sub_spans b m end).answer over);
          })

pub frame_single : (z : Size) (c : List ℕ) (kind size : ℕ) → (frame z c).answer ≡ Ok tt → subs_of c ≡ record { kind = kind; size = size } ∷ []
    → Single z (frame z c) kind size
unfolding frame subs_of
frame_single z c kind size a e = go (frame_header c) a e
  where
    go : (x : Whole) → (after_frame_header z c x).answer ≡ Ok tt → after_whole c x ≡ record { kind = kind; size = size } ∷ []
        → Single z (after_frame_header z c x) kind size
    go (Err r) a e = never e
    go (Ok h) a e = chunks_single z (take h.size c) h.count 16 kind size a e
