-- Laws of the walk over top-level chunks: one chunk and then the rest, the next frame, and frames one after the other.
-- The idea: every chunk ends past its begin, so that no walk makes more steps than there are bytes; a law of the next frame is shown once for the
-- frame that stands here and for a chunk stepped over (`next_by`).
use mathlib.Core.Path.{◌≡◌, refl, sym, ap, ap₂, ◌∙◌, subst}
use mathlib.Core.List.{List, [], ◌∷◌}
use mathlib.Core.Bool.{Bool, cond}
use Prim.Native.Nat.{ℕ, zero, suc, ◌+◌, ◌-◌, ◌≤◌, ◌<◌}
use native.Mathlib.Nat.{not-suc-le-zero}
use native.Mathlib.Numerals.{sub-one}
use native.Mathlib.Omega.{arith}
use borrow.Author.Tests.{le-leb, lt-leb, eq-eqb, ne_eqb, eqb-true, eqb-false}
use lib.ListN.{length, take, drop, get_or, length-drop}
use lib.Seq.{take_all}
use lib.Dec.{leb, eqb}
use Rattle.std.specs.Prelude.{Ok, Err, Result}
use Rattle.words.specs.Words.{u16_at}
use Rattle.words.proofs.There.{drop_word}
use Rattle.words.proofs.Tests.{by_test}
use Rattle.format.specs.Format.{FRAME_TYPE}
use Rattle.answer.specs.declared.Refusal.{Refusal}
use Rattle.answer.specs.declared.Refusal.TheVariants.{FewFrames}
use Rattle.chunks.specs.declared.Chunk.{Chunk}
use Rattle.chunks.specs.declared.FrameHeader.{FrameHeader}
use Rattle.chunks.specs.declared.Layout.{Layout}
use Rattle.chunks.specs.declared.Layout.TheVariants.{Loose, Packed}
use Rattle.chunks.specs.Headers.{header_at, frame_header, chunk_to, whole_of, Header, Whole}
use Rattle.chunks.specs.Spans.{Span, span, Spans, walked, after_header, sub_spans, framed, top_at, left_after, spans_within, spans, only_frames, frame_spans, first_of, next_at, frame_at, end_of, extent_of, extent, offsets, Found, found, top_frames, frame_to, Next, Extent}
use Rattle.chunks.proofs.Headers.{required, HeaderIn, header_in_lem, FrameIn, frame_in}
use Rattle.answer.specs.Answer.{refused_at, placed, Answer}
use Rattle.answer.specs.declared.Refused.{Refused}

-- sub_spans

module _ (b : List ℕ) where
  pub subs_none : (count at : ℕ) → count ≤ 0 → sub_spans b count at ≡ walked [] (Ok tt)
  unfolding sub_spans
  subs_none zero at i = refl
  subs_none (suc count) at i = absurd (not-suc-le-zero i)

  pub subs_step : (count at : ℕ) → 0 < count → (x : Header) → header_at b at ≡ x → sub_spans b count at
      ≡ after_header at x (λ kind end. sub_spans b (count - 1) end)
  unfolding sub_spans
  subs_step zero at i x q = absurd (not-suc-le-zero i)
  subs_step (suc count) at i x q = ap₂ (λ (y : Header) (n : ℕ). after_header at y (λ kind end. sub_spans b n end)) q (sym (sub-one (suc count)))

  -- sub-chunks one after the other: what holds of none, of a fault, and of a sub-chunk and then the rest
  module _ (C : ℕ → ℕ → Spans → Type 0)
      (none : (at : ℕ) → C 0 at (walked [] (Ok tt)))
      (fault : (count at : ℕ) (e : Refusal) → header_at b at ≡ Err e → C (suc count) at (walked [] (Err (refused_at e at))))
      (more : (count at kind end : ℕ) → header_at b at ≡ Ok (chunk_to kind end) → C count end (sub_spans b count end)
      → C (suc count) at (walked (span kind at end ∷ (sub_spans b count end).met) (sub_spans b count end).answer)) where
    pub subs_by : (count at : ℕ) → C count at (sub_spans b count at)
    unfolding sub_spans
    subs_by zero at = none at
    subs_by (suc count) at = go (header_at b at) refl (λ end. subs_by count end)
      where
        go : (x : Header) → header_at b at ≡ x → ((end : ℕ) → C count end (sub_spans b count end))
            → C (suc count) at (after_header at x (λ kind end. sub_spans b count end))
        go (Err e) q rest = fault count at e q
        go (Ok c) q rest = more count at c.kind c.end q (rest c.end)

-- top_at

-- a top-level chunk lies within b; a frame has at least its header
abbrev pub TopIn : List ℕ → ℕ → Header → Type 0
TopIn b at (Err e) = Unit {0}
TopIn b at (Ok c) = (at + 6 ≤ c.end) × (c.end ≤ length b) × (c.kind ≡ FRAME_TYPE → at + 16 ≤ c.end)

framed_in : (b : List ℕ) (at : ℕ) (f : Whole) → FrameIn (drop at b) f → TopIn b at (framed at f)
framed_in b at (Err e) i = tt
framed_in b at (Ok h) i =
    (omega (arith, i.0), omega (arith, i.0, i.1, length-drop at b), λ k. omega (arith, i.0))

other_in : (b : List ℕ) (at : ℕ) (x : Header) → (u16_at b (at + 4) ≡ FRAME_TYPE → ⊥) → HeaderIn b at x → TopIn b at x
other_in b at (Err e) n i = tt
other_in b at (Ok c) n i = (i.0, i.1, λ k. absurd (n (sym i.2 ∙ k)))

top_within : (layout : Layout) (b : List ℕ) (at : ℕ) → TopIn b at (top_at layout b at)
unfolding top_at
top_within Packed b at = framed_in b at (frame_header (drop at b)) (frame_in (drop at b) _ refl)
top_within Loose b at =
    required (TopIn b at) (leb (at + 6) (length b)) _ _ tt (λ o.
    by_test (λ (t : Bool). TopIn b at (cond t (framed at (frame_header (drop at b))) (header_at b at))) (eqb (u16_at b (at + 4)) FRAME_TYPE)
    (λ e. framed_in b at (frame_header (drop at b)) (frame_in (drop at b) _ refl))
    (λ e. other_in b at (header_at b at) (eqb-false (u16_at b (at + 4)) FRAME_TYPE e) (header_in_lem b at _ refl)))

pub top_in : (layout : Layout) (b : List ℕ) (at : ℕ) (x : Header) → top_at layout b at ≡ x → TopIn b at x
top_in layout b at x e = subst (TopIn b at) e (top_within layout b at)

pub top_none : (b : List ℕ) (at : ℕ) → length b < at + 6 → top_at Loose b at ≡ Err FewFrames
unfolding top_at
top_none b at h = simp (lt-leb (at + 6) (length b) h)

-- a frame is read from offset at on, whatever the layout
pub top_frame : (b : List ℕ) (at : ℕ) → at + 6 ≤ length b → u16_at b (at + 4) ≡ FRAME_TYPE → top_at Loose b at ≡ top_at Packed b at
unfolding top_at
top_frame b at h t = simp (le-leb (at + 6) (length b) h, eq-eqb (u16_at b (at + 4)) FRAME_TYPE t)

pub top_other : (b : List ℕ) (at : ℕ) → at + 6 ≤ length b → (u16_at b (at + 4) ≡ FRAME_TYPE → ⊥) → top_at Loose b at ≡ header_at b at
unfolding top_at
top_other b at h t = simp (le-leb (at + 6) (length b) h, ne_eqb (u16_at b (at + 4)) FRAME_TYPE t)

pub top_packed : (b : List ℕ) (at : ℕ) (f : Whole) → frame_header (drop at b) ≡ f → top_at Packed b at ≡ framed at f
unfolding top_at
top_packed b at f e = ap (framed at) e

-- a frame whose header is right at an offset is the chunk there
pub top_there : (layout : Layout) (b : List ℕ) (at count size : ℕ) → frame_header (drop at b) ≡ Ok (whole_of count size) → top_at layout b at
    ≡ Ok (chunk_to FRAME_TYPE (at + size))
top_there Packed b at count size e = top_packed b at _ e
top_there Loose b at count size e =
    let i = frame_in (drop at b) _ e in
    top_frame b at (omega (arith, i.0, i.1, length-drop at b)) (sym (drop_word b at 4) ∙ i.2) ∙ top_packed b at _ e

-- spans

module _ (layout : Layout) (b : List ℕ) where
  after_same : (at : ℕ) (x : Header) (f g : ℕ → ℕ → Spans) → TopIn b at x → ((kind end : ℕ) → at + 6 ≤ end → end ≤ length b → f kind end ≡ g kind end)
      → after_header at x f ≡ after_header at x g
  after_same at (Err e) f g i h = refl
  after_same at (Ok c) f g i h = ap (λ (r : Spans). walked (span c.kind at c.end ∷ r.met) r.answer) (h c.kind c.end i.0 i.1)

  -- any number of chunks that is enough gives the same
  within_enough : (l m count at : ℕ) → 0 < l → 0 < m → length b < at + l → length b < at + m → spans_within l layout b count at
      ≡ spans_within m layout b count at
  unfolding spans_within
  within_enough zero m count at z z' h k = absurd (not-suc-le-zero z)
  within_enough (suc l) zero count at z z' h k = absurd (not-suc-le-zero z')
  within_enough (suc l) (suc m) zero at z z' h k = refl
  within_enough (suc l) (suc m) (suc count) at z z' h k =
      after_same at (top_at layout b at) (λ kind end. spans_within l layout b (left_after kind count) end)
      (λ kind end. spans_within m layout b (left_after kind count) end)
      (top_in layout b at _ refl) (λ kind end i j. within_enough l m (left_after kind count) end (omega arith) (omega arith) (omega arith) (omega arith))

  pub spans_none : (at : ℕ) → spans layout b 0 at ≡ walked [] (Ok tt)
  unfolding spans
  spans_none at = refl

  pub spans_more : (count at : ℕ) → spans layout b (suc count) at
      ≡ after_header at (top_at layout b at) (λ kind end. spans layout b (left_after kind count) end)
  unfolding spans
  spans_more count at =
      after_same at (top_at layout b at) (λ kind end. spans_within (length b) layout b (left_after kind count) end)
      (λ kind end. spans_within (suc (length b)) layout b (left_after kind count) end)
      (top_in layout b at _ refl)
      (λ kind end i j. within_enough (length b) (suc (length b)) (left_after kind count) end (omega arith) (omega arith) (omega arith) (omega arith))

  -- chunks one after the other: what holds where no frame is asked for, where a fault stands, and of a chunk and then the rest
  module _ (C : ℕ → ℕ → Spans → Type 0)
      (none : (at : ℕ) → C 0 at (walked [] (Ok tt)))
      (fault : (count at : ℕ) (e : Refusal) → top_at layout b at ≡ Err e → C (suc count) at (walked [] (Err (refused_at e at))))
      (more : (count at kind end : ℕ) → top_at layout b at ≡ Ok (chunk_to kind end) → C (left_after kind count) end (spans layout b (left_after kind count) end)
      → C (suc count) at (walked (span kind at end ∷ (spans layout b (left_after kind count) end).met)
      (spans layout b (left_after kind count) end).answer)) where
    by_spans : (left count at : ℕ) → 0 < left → length b < at + left → C count at (spans layout b count at)
    by_spans zero count at z h = absurd (not-suc-le-zero z)
    by_spans (suc left) zero at z h = subst (C 0 at) (sym (spans_none at)) (none at)
    by_spans (suc left) (suc count) at z h =
        subst (C (suc count) at) (sym (spans_more count at)) (go (top_at layout b at) refl (λ n end i j. by_spans left n end i j))
      where
        go : (x : Header) → top_at layout b at ≡ x → ((n end : ℕ) → 0 < left → length b < end + left → C n end (spans layout b n end))
            → C (suc count) at (after_header at x (λ kind end. spans layout b (left_after kind count) end))
        go (Err e) q rest = fault count at e q
        go (Ok c) q rest =
            let i = top_in layout b at _ q in
            more count at c.kind c.end q (rest (left_after c.kind count) c.end (omega (arith, i.0, i.1)) (omega (arith, i.0, i.1)))

    pub spans_by : (count at : ℕ) → C count at (spans layout b count at)
    spans_by count at = by_spans (suc (length b)) count at (omega arith) (omega arith)

  -- frame_spans

  abbrev filtered : Spans → Spans
  filtered s = walked (only_frames s.met) s.answer

  pub frames_over : (at : ℕ) → frame_spans layout b 0 at ≡ walked [] (Ok tt)
  unfolding frame_spans
  frames_over at = ap filtered (spans_none at)

  module _ (count at : ℕ) where
    filtered_more : (x : Header) → top_at layout b at ≡ x → frame_spans layout b (suc count) at
        ≡ filtered (after_header at x (λ kind end. spans layout b (left_after kind count) end))
    unfolding frame_spans
    filtered_more x q = ap filtered (spans_more count at ∙ ap (λ (y : Header). after_header at y (λ kind end. spans layout b (left_after kind count) end)) q)

    frames_fault : (e : Refusal) → top_at layout b at ≡ Err e → frame_spans layout b (suc count) at ≡ walked [] (Err (refused_at e at))
    unfolding only_frames
    frames_fault e q = filtered_more (Err e) q

    frames_here : (end : ℕ) → top_at layout b at ≡ Ok (chunk_to FRAME_TYPE end)
        → frame_spans layout b (suc count) at ≡ walked (span FRAME_TYPE at end ∷ (frame_spans layout b count end).met) (frame_spans layout b count end).answer
    unfolding only_frames frame_spans
    frames_here end q = filtered_more (Ok (chunk_to FRAME_TYPE end)) q

    frames_past : (kind end : ℕ) → (kind ≡ FRAME_TYPE → ⊥) → top_at layout b at ≡ Ok (chunk_to kind end) → frame_spans layout b (suc count) at
        ≡ frame_spans layout b (suc count) end
    unfolding only_frames frame_spans
    frames_past kind end n q = filtered_more (Ok (chunk_to kind end)) q ∙ simp (ne_eqb kind FRAME_TYPE n)

  -- next_at

  abbrev first : Spans → Next
  first s = first_of s.met s.answer

  module _ (at : ℕ) where
    pub next_fault : (e : Refusal) → top_at layout b at ≡ Err e → next_at layout b at ≡ Err (refused_at e at)
    unfolding next_at
    next_fault e q = ap first (frames_fault 0 at e q)

    pub next_here : (end : ℕ) → top_at layout b at ≡ Ok (chunk_to FRAME_TYPE end) → next_at layout b at ≡ Ok (frame_to at end)
    unfolding next_at
    next_here end q = ap first (frames_here 0 at end q)

    pub next_past : (kind end : ℕ) → (kind ≡ FRAME_TYPE → ⊥) → top_at layout b at ≡ Ok (chunk_to kind end) → next_at layout b at ≡ next_at layout b end
    unfolding next_at
    next_past kind end n q = ap first (frames_past 0 at kind end n q)

  -- what holds of the next frame from an offset on: shown where a fault or a frame stands there, and handed on by a chunk that is stepped over
  module _ (C : ℕ → Next → Type 0)
      (fault : (at : ℕ) (e : Refusal) → top_at layout b at ≡ Err e → C at (Err (refused_at e at)))
      (here : (at end : ℕ) → top_at layout b at ≡ Ok (chunk_to FRAME_TYPE end) → C at (Ok (frame_to at end)))
      (past : (at kind end : ℕ) → top_at layout b at ≡ Ok (chunk_to kind end) → (kind ≡ FRAME_TYPE → ⊥) → C end (next_at layout b end)
      → C at (next_at layout b end)) where
    by_chunks : (left at : ℕ) → 0 < left → length b < at + left → C at (next_at layout b at)
    by_chunks zero at z h = absurd (not-suc-le-zero z)
    by_chunks (suc left) at z h = go (top_at layout b at) refl (λ end i j. by_chunks left end i j)
      where
        go : (x : Header) → top_at layout b at ≡ x → ((end : ℕ) → 0 < left → length b < end + left → C end (next_at layout b end)) → C at (next_at layout b at)
        go (Err e) q rest = subst (C at) (sym (next_fault at e q)) (fault at e q)
        go (Ok c) q rest =
            let i = top_in layout b at _ q in
            by_test (λ (t : Bool). C at (next_at layout b at)) (eqb c.kind FRAME_TYPE)
            (λ e. let r = q ∙ ap (λ (k : ℕ). Ok (chunk_to k c.end)) (eqb-true c.kind FRAME_TYPE e) in subst (C at) (sym (next_here at c.end r)) (here at c.end r))
            (λ e. let n = eqb-false c.kind FRAME_TYPE e in
            subst (C at) (sym (next_past at c.kind c.end n q)) (past at c.kind c.end q n (rest c.end (omega (arith, i.0, i.1)) (omega (arith, i.0, i.1)))))

    pub next_by : (at : ℕ) → C at (next_at layout b at)
    next_by at = by_chunks (suc (length b)) at (omega arith) (omega arith)

-- a frame, and then the rest of them
abbrev pub after_next : Next → (ℕ → Spans) → Spans
after_next (Err r) rest = walked [] (Err (refused_at r.0 r.1))
after_next (Ok f) rest = walked (span FRAME_TYPE f.from f.end ∷ (rest f.end).met) (rest f.end).answer

pub frame_spans_next : (layout : Layout) (b : List ℕ) (count at : ℕ) → frame_spans layout b (suc count) at
    ≡ after_next (next_at layout b at) (λ end. frame_spans layout b count end)
frame_spans_next layout b count at =
    next_by layout b (λ (k : ℕ) (x : Next). frame_spans layout b (suc count) k ≡ after_next x (λ end. frame_spans layout b count end))
    (λ k e q. frames_fault layout b count k e q) (λ k end q. frames_here layout b count k end q)
    (λ k kind end q n i. frames_past layout b count k kind end n q ∙ i) at

pub frame_spans_step : (layout : Layout) (b : List ℕ) (count at : ℕ) → 0 < count → (x : Next) → next_at layout b at ≡ x
    → frame_spans layout b count at ≡ after_next x (λ end. frame_spans layout b (count - 1) end)
frame_spans_step layout b zero at i x q = absurd (not-suc-le-zero i)
frame_spans_step layout b (suc count) at i x q =
    frame_spans_next layout b count at
    ∙ ap₂ (λ (y : Next) (k : ℕ). after_next y (λ end. frame_spans layout b k end)) q (sym (sub-one (suc count)))

pub frame_spans_none : (layout : Layout) (b : List ℕ) (count at : ℕ) → count ≤ 0 → frame_spans layout b count at ≡ walked [] (Ok tt)
frame_spans_none layout b zero at i = frames_over layout b at
frame_spans_none layout b (suc count) at i = absurd (not-suc-le-zero i)

-- where the next frame lies: behind at and within b; where a walk to it is refused: not before at, and within b if at is
abbrev pub NextIn : List ℕ → ℕ → Next → Type 0
NextIn b at (Err r) = at ≤ length b → r.1 ≤ length b
NextIn b at (Ok f) = (at ≤ f.from) × (f.from + 16 ≤ f.end) × (f.end ≤ length b)

-- what lies behind a later offset is behind an earlier one
next_earlier : (b : List ℕ) (at to : ℕ) (x : Next) → at ≤ to → to ≤ length b → NextIn b to x → NextIn b at x
next_earlier b at to (Err r) h k i = λ j. i k
next_earlier b at to (Ok f) h k i = (omega (arith, i.0), i.1, i.2)

pub next_in : (layout : Layout) (b : List ℕ) (at : ℕ) (x : Next) → next_at layout b at ≡ x → NextIn b at x
next_in layout b at x e =
    subst (NextIn b at) e
    (next_by layout b (NextIn b) (λ k e q. λ i. i)
    (λ k end q. let i = top_in layout b k _ q in (omega arith, i.2 refl, i.1))
    (λ k kind end q n j. let i = top_in layout b k _ q in next_earlier b k end (next_at layout b end) (omega (arith, i.0)) i.1 j) at)

-- a frame that begins at an offset is the next one from there, whatever the layout
pub next_there : (layout : Layout) (b : List ℕ) (at count size : ℕ) → frame_header (drop at b) ≡ Ok (whole_of count size) → next_at layout b at
    ≡ Ok (frame_to at (at + size))
next_there layout b at count size e = next_here layout b at (at + size) (top_there layout b at count size e)

-- the next frame as the code finds it

-- the frame whose header stands at offset at
abbrev pub next_framed : ℕ → Result FrameHeader Refused → Next
next_framed at (Err r) = Err r
next_framed at (Ok h) = Ok (frame_to at (at + h.size))

pub next_packed : (b : List ℕ) (at n : ℕ) → n ≡ length b - at → (f : Whole) → frame_header (take n (drop at b)) ≡ f → next_at Packed b at
    ≡ next_framed at (placed at f)
next_packed b at n e f h = go f (ap frame_header (sym (take_all n (drop at b) (omega (arith, length-drop at b)))) ∙ h)
  where
    go : (x : Whole) → frame_header (drop at b) ≡ x → next_at Packed b at ≡ next_framed at (placed at x)
    go (Err r) q = next_fault Packed b at r (top_packed b at _ q)
    go (Ok h) q = next_here Packed b at (at + h.size) (top_packed b at _ q)

pub next_none : (b : List ℕ) (at : ℕ) → length b < at + 6 → next_at Loose b at ≡ Err (refused_at FewFrames at)
next_none b at h = next_fault Loose b at FewFrames (top_none b at h)

-- a chunk that is no frame, and then what the rest gives
abbrev pub stepped_over : Result Chunk Refused → (ℕ → Next) → Next
stepped_over (Err r) rest = Err r
stepped_over (Ok c) rest = rest c.end

module _ (b : List ℕ) (at : ℕ) (h : at + 6 ≤ length b) where
  pub next_frame : u16_at b (at + 4) ≡ FRAME_TYPE → next_at Loose b at ≡ next_at Packed b at
  next_frame t = go (frame_header (drop at b)) refl
    where
      go : (x : Whole) → frame_header (drop at b) ≡ x → next_at Loose b at ≡ next_at Packed b at
      go (Err r) q = next_fault Loose b at r (top_frame b at h t ∙ top_packed b at _ q) ∙ sym (next_fault Packed b at r (top_packed b at _ q))
      go (Ok h') q =
          next_here Loose b at (at + h'.size) (top_frame b at h t ∙ top_packed b at _ q) ∙ sym (next_here Packed b at (at + h'.size) (top_packed b at _ q))

  pub next_over : (u16_at b (at + 4) ≡ FRAME_TYPE → ⊥) → (x : Header) → header_at b at ≡ x → next_at Loose b at ≡ stepped_over (placed at x) (λ end. next_at Loose b end)
  next_over t (Err r) e = next_fault Loose b at r (top_other b at h t ∙ e)
  next_over t (Ok c) e =
      next_past Loose b at c.kind c.end (λ k. t (sym (header_in_lem b at _ e).2 ∙ k)) (top_other b at h t ∙ e)

-- extent

module _ (b : List ℕ) (count at : ℕ) where
  abbrev reach : Spans → Extent
  reach s = extent_of at s.met s.answer

  pub extent_none : count ≤ 0 → extent b count at ≡ Ok at
  unfolding extent
  extent_none i = ap reach (frame_spans_none Loose b count at i)

  module _ (left : 0 < count) where
    pub extent_fault : (r : Refused) → next_at Loose b at ≡ Err r → extent b count at ≡ Err r
    unfolding extent
    extent_fault r q = ap reach (frame_spans_step Loose b count at left _ q)

    pub extent_more : (from end : ℕ) → next_at Loose b at ≡ Ok (frame_to from end) → extent b count at ≡ extent b (count - 1) end
    unfolding extent
    extent_more from end q = ap reach (frame_spans_step Loose b count at left _ q)
        ∙ go (frame_spans Loose b (count - 1) end).met (frame_spans Loose b (count - 1) end).answer
      where
        go : (ss : List Span) (a : Answer) → extent_of at (span FRAME_TYPE from end ∷ ss) a ≡ extent_of end ss a
        go ss (Ok u) = refl
        go ss (Err r) = refl

-- top_frames

-- how a walk that went so far is answered
abbrev pub answer_of : Extent → Answer
answer_of (Err r) = Err (refused_at r.0 r.1)
answer_of (Ok end) = Ok tt

pub extent_answer : (b : List ℕ) (count at : ℕ) → (top_frames b count at).answer ≡ answer_of (extent b count at)
unfolding extent top_frames
extent_answer b count at = go (frame_spans Loose b count at).met (frame_spans Loose b count at).answer
  where
    go : (ss : List Span) (a : Answer) → a ≡ answer_of (extent_of at ss a)
    go ss (Ok u) = refl
    go ss (Err r) = refl

module _ (b : List ℕ) (count at : ℕ) where
  abbrev founds : Spans → Found
  founds s = found (offsets s.met) s.answer

  pub found_none : count ≤ 0 → top_frames b count at ≡ found [] (Ok tt)
  unfolding top_frames
  found_none i = ap founds (frame_spans_none Loose b count at i)

  module _ (left : 0 < count) where
    pub found_fault : (r : Refused) → next_at Loose b at ≡ Err r → top_frames b count at ≡ found [] (Err r)
    unfolding top_frames
    found_fault r q = ap founds (frame_spans_step Loose b count at left _ q)

    pub found_more : (from end : ℕ) → next_at Loose b at ≡ Ok (frame_to from end)
        → top_frames b count at ≡ found (from ∷ (top_frames b (count - 1) end).offsets) (top_frames b (count - 1) end).answer
    unfolding top_frames
    found_more from end q = ap founds (frame_spans_step Loose b count at left _ q)

-- frames of a file one after the other: what holds where none is asked for, where the next is refused, and where it is met and then of the rest
module _ (b : List ℕ) (C : ℕ → ℕ → Spans → Type 0)
    (none : (at : ℕ) → C 0 at (walked [] (Ok tt)))
    (fault : (count at : ℕ) (r : Refused) → next_at Loose b at ≡ Err r → C (suc count) at (walked [] (Err r)))
    (more : (count at from end : ℕ) → next_at Loose b at ≡ Ok (frame_to from end) → C count end (frame_spans Loose b count end)
    → C (suc count) at (walked (span FRAME_TYPE from end ∷ (frame_spans Loose b count end).met) (frame_spans Loose b count end).answer)) where
  pub frame_spans_by : (count at : ℕ) → C count at (frame_spans Loose b count at)
  frame_spans_by zero at = subst (C 0 at) (sym (frames_over Loose b at)) (none at)
  frame_spans_by (suc count) at = subst (C (suc count) at) (sym (frame_spans_next Loose b count at))
      (go (next_at Loose b at) refl (λ end. frame_spans_by count end))
    where
      go : (x : Next) → next_at Loose b at ≡ x → ((end : ℕ) → C count end (frame_spans Loose b count end))
          → C (suc count) at (after_next x (λ end. frame_spans Loose b count end))
      go (Err r) q rest = fault count at r q
      go (Ok f) q rest = more count at f.from f.end q (rest f.end)

refused_not_done : {C : Type 0} {r : Refused} → ◌≡◌ {A = Answer} (Err r) (Ok tt) → C
refused_not_done q = let z : ◌≡◌ {A = ℕ} 0 1 = cc in absurd (omega arith)

-- where all were met, there are as many offsets as frames asked for
pub found_many : (b : List ℕ) (count at : ℕ) → (top_frames b count at).answer ≡ Ok tt → length (top_frames b count at).offsets ≡ count
unfolding top_frames
found_many b count at =
    frame_spans_by b (λ (n k : ℕ) (s : Spans). s.answer ≡ Ok tt → length (offsets s.met) ≡ n)
    (λ k q. refl) (λ n k e q r. refused_not_done r) (λ n k from end q i r. ap suc (i r)) count at

-- each offset lies within b
pub found_in : (b : List ℕ) (count at i : ℕ) → at ≤ length b → get_or (top_frames b count at).offsets i 0 ≤ length b
unfolding top_frames
found_in b count at i h =
    frame_spans_by b (λ (n k : ℕ) (s : Spans). k ≤ length b → (j : ℕ) → get_or (offsets s.met) j 0 ≤ length b)
    (λ k l j. omega arith) (λ n k e q l j. omega arith)
    (λ n k from end q rest l j. let x = next_in Loose b k _ q in go from end x.1 x.2 (frame_spans Loose b n end).met (rest x.2) j) count at h i
  where
    go : (from end : ℕ) → from + 16 ≤ end → end ≤ length b → (ss : List Span) → ((j : ℕ) → get_or (offsets ss) j 0 ≤ length b) → (j : ℕ)
        → get_or (from ∷ offsets ss) j 0 ≤ length b
    go from end h k ss rest zero = omega arith
    go from end h k ss rest (suc j) = rest j

-- where a refusal of the walk lies: within b
abbrev pub AnswerIn : List ℕ → Answer → Type 0
AnswerIn b (Ok u) = Unit {0}
AnswerIn b (Err r) = r.1 ≤ length b

pub frames_refused : (b : List ℕ) (count at : ℕ) → at ≤ length b → (r : Refused) → (top_frames b count at).answer ≡ Err r → r.1 ≤ length b
unfolding top_frames
frames_refused b count at h r p =
    subst (AnswerIn b) p
    (frame_spans_by b (λ (n k : ℕ) (s : Spans). k ≤ length b → AnswerIn b s.answer) (λ k l. tt) (λ n k e q l. next_in Loose b k _ q l)
    (λ n k from end q rest l. rest (next_in Loose b k _ q).2) count at h)

-- where the last frame ends: behind the start and within b
pub extent_in : (b : List ℕ) (count at : ℕ) → at ≤ length b → (end : ℕ) → extent b count at ≡ Ok end → (at ≤ end) × (end ≤ length b)
unfolding extent
extent_in b count at h end q = go (frame_spans Loose b count at).answer q
  where
    reached : (at ≤ end_of at (frame_spans Loose b count at).met) × (end_of at (frame_spans Loose b count at).met ≤ length b)
    reached =
        frame_spans_by b (λ (n k : ℕ) (s : Spans). k ≤ length b → (k ≤ end_of k s.met) × (end_of k s.met ≤ length b))
        (λ k l. (omega arith, l)) (λ n k e q l. (omega arith, l))
        (λ n k from to q rest l. let x = next_in Loose b k _ q in let r = rest x.2 in (omega (arith, x.0, x.1, r.0), r.1)) count at h

    go : (a : Answer) → extent_of at (frame_spans Loose b count at).met a ≡ Ok end → (at ≤ end) × (end ≤ length b)
    go (Ok u) q = let e : end_of at (frame_spans Loose b count at).met ≡ end = cc in (omega (arith, reached.0), omega (arith, reached.1))
    go (Err r) q = let z : ◌≡◌ {A = ℕ} 0 1 = cc in absurd (omega arith)

-- a walk that is refused is so within b
pub extent_refused : (b : List ℕ) (count at : ℕ) → at ≤ length b → (r : Refused) → extent b count at ≡ Err r → r.1 ≤ length b
extent_refused b count at h r q = frames_refused b count at h r (extent_answer b count at ∙ ap answer_of q)

-- frame_at

module _ (b : List ℕ) where
  pub frame_at_one : (k at : ℕ) → k ≡ 1 → frame_at b k at ≡ next_at Loose b at
  unfolding frame_at next_at
  frame_at_one k at e = ap (λ (n : ℕ). first_of (drop (n - 1) (frame_spans Loose b n at).met) (frame_spans Loose b n at).answer) e

  module _ (k at : ℕ) (many : 1 < k) where
    abbrev kth : Spans → Next
    kth s = first_of (drop (k - 1) s.met) s.answer

    pub frame_at_fault : (r : Refused) → next_at Loose b at ≡ Err r → frame_at b k at ≡ Err r
    unfolding frame_at
    frame_at_fault r q = ap kth (frame_spans_step Loose b k at (omega arith) _ q)
        ∙ ap (λ (ss : List Span). first_of ss (Err r)) (drop_none (k - 1))
      where
        drop_none : (n : ℕ) → drop {A = Span} n [] ≡ []
        drop_none zero = refl
        drop_none (suc n) = refl

    pub frame_at_more : (from end : ℕ) → next_at Loose b at ≡ Ok (frame_to from end) → frame_at b k at ≡ frame_at b (k - 1) end
    unfolding frame_at
    frame_at_more from end q =
        let e : k - 1 ≡ suc (k - 1 - 1) = omega arith in
        ap kth (frame_spans_step Loose b k at (omega arith) _ q)
        ∙ ap (λ (n : ℕ). first_of (drop n (span FRAME_TYPE from end ∷ (frame_spans Loose b (k - 1) end).met)) (frame_spans Loose b (k - 1) end).answer) e

  -- frame k of a file is the next one from where the frames before it end
  abbrev pub next_after : Extent → Next
  next_after (Err r) = Err r
  next_after (Ok end) = next_at Loose b end

  pub frame_at_walked : (n at : ℕ) → frame_at b (suc n) at ≡ next_after (extent b n at)
  frame_at_walked zero at = frame_at_one 1 at refl ∙ sym (ap next_after (extent_none b 0 at (omega arith)))
  frame_at_walked (suc n) at = go (next_at Loose b at) refl (λ end. frame_at_walked n end)
    where
      go : (x : Next) → next_at Loose b at ≡ x → ((end : ℕ) → frame_at b (suc n) end ≡ next_after (extent b n end))
          → frame_at b (suc (suc n)) at ≡ next_after (extent b (suc n) at)
      go (Err r) q rest =
          frame_at_fault (suc (suc n)) at (omega arith) r q ∙ sym (ap next_after (extent_fault b (suc n) at (omega arith) r q))
      go (Ok f) q rest =
          frame_at_more (suc (suc n)) at (omega arith) f.from f.end q ∙ ap (λ (k : ℕ). frame_at b k f.end) (sub-one (suc (suc n))) ∙ rest f.end
          ∙ ap (λ (k : ℕ). next_after (extent b k f.end)) (sym (sub-one (suc n)))
          ∙ sym (ap next_after (extent_more b (suc n) at (omega arith) f.from f.end q))
