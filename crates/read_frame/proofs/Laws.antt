-- Laws of the definitions in specs/ that the proofs of the readers cite.
use mathlib.Core.Path.{◌≡◌, ap, ap₂, ◌∙◌, sym, refl}
use mathlib.Core.List.{List, ◌++◌, append-nil}
use mathlib.Core.Logic.{◌⊎◌, inl, inr}
use mathlib.Core.Bool.{true, false}
use Prim.Native.Nat.{ℕ, suc, ◌≤◌, ◌<◌, ◌+◌, ◌-◌}
use native.Mathlib.Omega.{arith}
use borrow.Author.Tests.{ne_eqb}
use lib.ListN.{length, take, take-append-drop}
use lib.Seq.{length-take-le}
use Rattle.std.specs.Prelude.{Result, Ok, Err}
use Rattle.words.specs.Words.{part}
use Rattle.words.specs.Writes.{Write}
use Rattle.answer.specs.declared.Refusal.{Refusal}
use Rattle.answer.specs.declared.Refused.{Refused}
use Rattle.answer.proofs.Laws.{placed_ok}
use Rattle.answer.specs.declared.Refusal.TheVariants.{ShortSlice, BadSize}
use Rattle.format.specs.Limits.{size_fits}
use Rattle.walk.specs.Walk.{wrote, Verdict}
use Rattle.walk.specs.declared.Pass.{Pass}
use Rattle.walk.proofs.Laws.{wrote_none, wrote_append}
use Rattle.chunks.specs.declared.Chunk.{Chunk}
use Rattle.chunks.specs.declared.FrameHeader.{FrameHeader}
use Rattle.chunks.specs.Headers.{Header, Whole, header_at, frame_header, chunk_to}
use Rattle.chunks.specs.Spans.{Spans, sub_spans}
use Rattle.chunks.proofs.Headers.{frame_in}
use Rattle.chunks.proofs.Spans.{subs_none, subs_step, subs_by}
use Rattle.read_chunk.specs.Chunk.{ChunkWalk, sub_chunk}
use Rattle.read_frame.specs.Frame.{after_frame_header, FrameWalk, stop, answer_after, writes_after, chunk_then, acted, sub_chunks, frame}
use Rattle.format.specs.Limits.{area}
use Rattle.format.specs.declared.Size.{Size}
use Rattle.state.specs.State.{State, state, enough, front, refilled}
use Rattle.state.specs.Outcome.{lent_pair, leaves, refuse}
use Rattle.answer.specs.Answer.{told, refused_at, placed, Answer}
use Rattle.read_frame.specs.Packets.{packets_in, packet_bytes}
use Rattle.read_frame.specs.Reading.{played, settled, read_by, read_frame}

-- an answer that gives nothing on
abbrev done_or : {T : Type 0} → Result T Refused → Answer
done_or (Ok x) = Ok tt
done_or (Err r) = Err r

module _ (z : Size) (b : List ℕ) where
  abbrev all : Spans → FrameWalk
  all s = acted z b s.met s.answer

  pub chunks_none : (n at : ℕ) → n ≤ 0 → sub_chunks z b n at ≡ stop (Ok tt)
  unfolding sub_chunks
  chunks_none n at i = ap all (subs_none b n at i)

  pub chunks_stop : (n at : ℕ) → 0 < n → (e : Refusal) → header_at b at ≡ Err e → sub_chunks z b n at ≡ stop (Err (refused_at e at))
  unfolding sub_chunks
  chunks_stop n at i e q = ap all (subs_step b n at i (Err e) q)

  pub chunks_more : (n at : ℕ) → 0 < n → (kind end : ℕ) → header_at b at ≡ Ok (chunk_to kind end)
      → sub_chunks z b n at ≡ chunk_then at (sub_chunk z kind (part b (at + 6) end)) (sub_chunks z b (n - 1) end)
  unfolding sub_chunks
  chunks_more n at i kind end q = ap all (subs_step b n at i (Ok (chunk_to kind end)) q)

  -- the walk by what was said of the first sub-chunk's header
  abbrev from_header : ℕ → ℕ → Result Chunk Refused → FrameWalk
  from_header n at (Err r) = stop (Err r)
  from_header n at (Ok c) = chunk_then at (sub_chunk z c.kind (part b (at + 6) c.end)) (sub_chunks z b (n - 1) c.end)

  pub chunks_as : (n at : ℕ) → 0 < n → (x : Result Chunk Refused) → placed at (header_at b at) ≡ x → sub_chunks z b n at ≡ from_header n at x
  chunks_as n at i x q = go (header_at b at) refl ∙ ap (from_header n at) q
    where
      go : (h : Header) → header_at b at ≡ h → sub_chunks z b n at ≡ from_header n at (placed at h)
      go (Err e) r = chunks_stop n at i e r
      go (Ok c) r = chunks_more n at i c.kind c.end r

  -- what holds of no sub-chunk, of a fault, and of a sub-chunk and then the rest
  module _ (C : ℕ → ℕ → FrameWalk → Type 0)
      (none : (at : ℕ) → C 0 at (stop (Ok tt)))
      (fault : (n at : ℕ) (e : Refusal) → header_at b at ≡ Err e → C (suc n) at (stop (Err (refused_at e at))))
      (more : (n at kind end : ℕ) → header_at b at ≡ Ok (chunk_to kind end) → C n end (sub_chunks z b n end)
      → C (suc n) at (chunk_then at (sub_chunk z kind (part b (at + 6) end)) (sub_chunks z b n end))) where
    pub chunks_by : (n at : ℕ) → C n at (sub_chunks z b n at)
    unfolding sub_chunks
    chunks_by n at = subs_by b (λ (m k : ℕ) (s : Spans). C m k (all s)) none fault more n at

-- what a pass over sub-chunks gives: the answer, and what is left of a picture and a palette

unfoldable pub seen : Pass → FrameWalk → State → Answer × State
seen p f s = (f.answer, state (wrote p f.pixels s.picture) (wrote p f.colours s.palette))

pub seen_gives : (p : Pass) (f : FrameWalk) (s : State) (a : Answer) (d e : List ℕ) → seen p f s ≡ (a, state d e)
    → record { answer : a ≡ f.answer; pixels : d ≡ wrote p f.pixels s.picture; colours : e ≡ wrote p f.colours s.palette }
unfolding seen
seen_gives p f s a d e q =
    record {
      answer = sym (ap (λ (x : Answer × State). x.0) q);
      pixels = sym (ap (λ (x : Answer × State). x.1.picture) q);
      colours = sym (ap (λ (x : Answer × State). x.1.palette) q);
    }

seen_stop : (p : Pass) (a : Answer) (s : State) → seen p (stop a) s ≡ (a, s)
unfolding seen
seen_stop p a s = ap₂ (λ (d e : List ℕ). (a, state d e)) (wrote_none p s.picture) (wrote_none p s.palette)

-- the state after a pass over a sub-chunk
abbrev pub chunk_seen : Pass → ChunkWalk → State → State
chunk_seen p c s = state (wrote p c.pixels s.picture) (wrote p c.colours s.palette)

-- a sub-chunk that came out so, and then the rest
module _ (p : Pass) (at : ℕ) (c : ChunkWalk) (f : FrameWalk) (s : State) where
  seen_as : (v : Verdict) → c.verdict ≡ v → seen p (chunk_then at c f) s
      ≡ (
        answer_after at v f.answer,
        state (wrote p (c.pixels ++ writes_after v f.pixels) s.picture) (wrote p (c.colours ++ writes_after v f.colours) s.palette),
      )
  unfolding seen
  seen_as v e =
      ap (λ (x : Verdict). (
        answer_after at x f.answer,
        state (wrote p (c.pixels ++ writes_after x f.pixels) s.picture)
            (wrote p (c.colours ++ writes_after x f.colours) s.palette),
      )) e

  -- it ends: the rest, over what it left
  seen_on : (end : ℕ) → c.verdict ≡ Ok end → seen p (chunk_then at c f) s ≡ seen p f (chunk_seen p c s)
  unfolding seen
  seen_on end v = seen_as (Ok end) v
      ∙ ap₂ (λ (d e : List ℕ). (f.answer, state d e)) (wrote_append p c.pixels f.pixels s.picture) (wrote_append p c.colours f.colours s.palette)

  -- it is at fault: what it left, and the fault at its header
  seen_off : (v : Verdict) → c.verdict ≡ v → (r : Refused) → placed at v ≡ Err r → seen p (chunk_then at c f) s ≡ (Err r, chunk_seen p c s)
  seen_off (Ok end) e r q = cc
  seen_off (Err d) e r q = seen_as (Err d) e
      ∙ ap₂ (λ (x y : List Write). (Err (refused_at d at), state (wrote p x s.picture) (wrote p y s.palette))) (append-nil c.pixels) (append-nil c.colours)
      ∙ ap (λ (x : Result ℕ Refused). (done_or x, chunk_seen p c s)) q

-- what a pass over sub-chunks gives by the first one's header
module _ (z : Size) (b : List ℕ) (p : Pass) (n at : ℕ) (s : State) where
  pub seen_none : n ≤ 0 → seen p (sub_chunks z b n at) s ≡ (Ok tt, s)
  seen_none i = ap (λ (f : FrameWalk). seen p f s) (chunks_none z b n at i) ∙ seen_stop p (Ok tt) s

  module _ (i : 0 < n) where
    pub seen_fault : (r : Refused) → placed at (header_at b at) ≡ Err r → seen p (sub_chunks z b n at) s ≡ (Err r, s)
    seen_fault r q = ap (λ (f : FrameWalk). seen p f s) (chunks_as z b n at i _ q) ∙ seen_stop p (Err r) s

    -- a sub-chunk over which a pass left this verdict and this state
    module _ (c : Chunk) (q : placed at (header_at b at) ≡ Ok c) (t : State)
        (is : t ≡ chunk_seen p (sub_chunk z c.kind (part b (at + 6) c.end)) s)
        (v : Verdict) (out : v ≡ (sub_chunk z c.kind (part b (at + 6) c.end)).verdict) where
      pub seen_good : (d : ℕ) → placed at v ≡ Ok d → (m : ℕ) → n - 1 ≡ m → seen p (sub_chunks z b n at) s ≡ seen p (sub_chunks z b m c.end) t
      seen_good d e m less =
          ap (λ (f : FrameWalk). seen p f s) (chunks_as z b n at i _ q)
          ∙ seen_on p at (sub_chunk z c.kind (part b (at + 6) c.end)) (sub_chunks z b (n - 1) c.end) s d (sym out ∙ placed_ok at d e)
          ∙ ap₂ (λ (k : ℕ) (x : State). seen p (sub_chunks z b k c.end) x) less (sym is)

      pub seen_bad : (r : Refused) → placed at v ≡ Err r → seen p (sub_chunks z b n at) s ≡ (Err r, t)
      seen_bad r e =
          ap (λ (f : FrameWalk). seen p f s) (chunks_as z b n at i _ q)
          ∙ seen_off p at (sub_chunk z c.kind (part b (at + 6) c.end)) (sub_chunks z b (n - 1) c.end) s v (sym out) r e
          ∙ ap (λ (x : State). (Err r, x)) (sym is)

-- a wet pass over a walk that is done has played it, and one over a walk that is refused doesn't matter: the state is put back
pub settled_done : (f : FrameWalk) (a : Answer) (s : State) → a ≡ Ok tt → settled f a s ≡ played f s
settled_done f a s e = ap (λ (x : Answer). settled f x s) e

pub settled_refused : (f : FrameWalk) (a : Answer) (s : State) (e : Refusal) (place : ℕ) → a ≡ Err (refused_at e place) → settled f a s ≡ s
settled_refused f a s e place q = ap (λ (x : Answer). settled f x s) q

-- bytes in packets

module _ (b : List ℕ) (n at : ℕ) where
  abbrev in_all : ℕ
  in_all = packet_bytes (sub_spans b n at).met

  pub packets_none : n ≤ 0 → in_all ≡ 0
  unfolding packet_bytes
  packets_none i = ap (λ (s : Spans). packet_bytes s.met) (subs_none b n at i)

  module _ (i : 0 < n) where
    pub packets_fault : (e : Refusal) → header_at b at ≡ Err e → in_all ≡ 0
    unfolding packet_bytes
    packets_fault e q = ap (λ (s : Spans). packet_bytes s.met) (subs_step b n at i (Err e) q)

    pub packets_more : (c : Chunk) → header_at b at ≡ Ok c → (m : ℕ) → n - 1 ≡ m
        → in_all ≡ packets_in c.kind (c.end - at) + packet_bytes (sub_spans b m c.end).met
    unfolding packet_bytes
    packets_more c q m less =
        ap (λ (s : Spans). packet_bytes s.met) (subs_step b n at i (Ok c) q)
        ∙ ap (λ (k : ℕ). packets_in c.kind (c.end - at) + packet_bytes (sub_spans b k c.end).met) less

-- a sub-chunk of packets, and another
pub packets_of : (kind bytes : ℕ) → (kind ≡ 7) ⊎ (((kind ≡ 7 → ⊥) × (kind ≡ 12)) ⊎ ((kind ≡ 7 → ⊥) × (kind ≡ 12 → ⊥) × (kind ≡ 15)))
    → bytes ≡ packets_in kind bytes
unfolding packets_in
packets_of kind bytes (inl e) = ap (λ (k : ℕ). packets_in k bytes) (sym e)
packets_of kind bytes (inr (inl e)) = ap (λ (k : ℕ). packets_in k bytes) (sym e.1)
packets_of kind bytes (inr (inr e)) = ap (λ (k : ℕ). packets_in k bytes) (sym e.2)

pub packets_not : (kind bytes : ℕ) → (kind ≡ 7 → ⊥) → (kind ≡ 12 → ⊥) → (kind ≡ 15 → ⊥) → 0 ≡ packets_in kind bytes
unfolding packets_in
packets_not kind bytes p q r = simp (ne_eqb kind 7 p, ne_eqb kind 12 q, ne_eqb kind 15 r)

-- the whole frame

pub frame_as : (z : Size) (b : List ℕ) (f : Whole) → frame_header b ≡ f → frame z b ≡ after_frame_header z b f
unfolding frame
frame_as z b f e = ap (after_frame_header z b) e

-- the walk by what was said of the frame's header
abbrev pub from_frame_header : Size → List ℕ → Result FrameHeader Refused → FrameWalk
from_frame_header z b (Err r) = stop (Err r)
from_frame_header z b (Ok h) = sub_chunks z (take h.size b) h.count 16

pub frame_told : (z : Size) (b : List ℕ) (x : Result FrameHeader Refused) → placed 0 (frame_header b) ≡ x → frame z b ≡ from_frame_header z b x
frame_told z b x q = frame_as z b (frame_header b) refl ∙ go (frame_header b) ∙ ap (from_frame_header z b) q
  where
    go : (f : Whole) → after_frame_header z b f ≡ from_frame_header z b (placed 0 f)
    go (Err e) = refl
    go (Ok h) = refl

-- where its header is right: the part that is handed on
pub part_in : (b : List ℕ) (h : FrameHeader) → placed 0 (frame_header b) ≡ Ok h → (h.size ≤ length b) × (16 ≤ length (take h.size b))
part_in b h q =
    let i = frame_in b (Ok h) (placed_ok 0 h q) in
    (i.1, omega (arith, length-take-le h.size b i.1, i.0))

-- reading

module _ (b : List ℕ) (z : Size) (lent : State) where
  pub read_size : size_fits z ≡ false → read_frame b z lent ≡ refuse BadSize 0 (lent_pair lent)
  unfolding read_frame
  read_size e = rw e

  pub read_short : size_fits z ≡ true → enough (area z) lent ≡ false → read_frame b z lent ≡ refuse ShortSlice 0 (lent_pair lent)
  unfolding read_frame
  read_short e k = rw (e, k)

  pub read_by_lem : size_fits z ≡ true → enough (area z) lent ≡ true → (a : Answer) → (frame z b).answer ≡ a
      → read_frame b z lent ≡ read_by (area z) (frame z b) a lent
  unfolding read_frame
  read_by_lem e k a r = rw (e, k) (ap (λ (x : Answer). read_by (area z) (frame z b) x lent) r)

-- what a pair holds, of which the front was played
pub read_settled : (n : ℕ) (f : FrameWalk) (a : Answer) (lent : State)
    → leaves (told a) (lent_pair (refilled n (settled f a (front n lent)) lent)) ≡ read_by n f a lent
read_settled n f (Ok u) lent = refl
read_settled n f (Err r) lent =
    ap₂ (λ (d k : List ℕ). leaves (told (Err r)) (lent_pair (state d k))) (take-append-drop n lent.picture) (take-append-drop 768 lent.palette)
