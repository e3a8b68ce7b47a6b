-- Chunks in a prefix of the bytes, and in the rest of them.
-- 1. what is met in a prefix is met in the bytes (`next_prefix`, `spans_prefix`);
-- 2. the walk from an offset on is the walk of the rest, every offset and place moved (`next_moved`, `spans_moved`).
-- The idea: a header is the same word by word wherever the list begins or ends, as long as its chunk lies in it.
use mathlib.Core.Path.{◌≡◌, refl, sym, ap, ap₂, ◌∙◌}
use mathlib.Core.List.{List, [], ◌∷◌, ◌++◌}
use mathlib.Core.Bool.{Bool, true, false, cond}
use Prim.Native.Nat.{ℕ, suc, ◌+◌, ◌*◌, ◌≤◌}
use native.Mathlib.Omega.{arith}
use borrow.Author.Tests.{le-leb, lt-leb, leb-true, leb-false, eqb-true, eqb-false}
use lib.ListN.{length, take, drop, length-take, length-drop, length-append}
use lib.Seq.{get_or-take, drop-drop, length-take-le, take_at}
use lib.Dec.{leb, eqb}
use Rattle.std.specs.Prelude.{Ok, Err}
use Rattle.words.specs.Words.{u16_at, u32_at}
use Rattle.words.proofs.There.{drop_word, drop_word32}
use Rattle.words.proofs.Tests.{by_test}
use Rattle.format.specs.Format.{FRAME_TYPE}
use Rattle.answer.specs.declared.Refusal.TheVariants.{FewFrames, Cut, SmallSize}
use Rattle.chunks.specs.declared.Layout.{Layout}
use Rattle.chunks.specs.declared.Layout.TheVariants.{Loose, Packed}
use Rattle.chunks.specs.Headers.{header_at, frame_header, chunk_to, whole_of, Header, Whole}
use Rattle.chunks.specs.Spans.{Span, span, Spans, walked, after_header, framed, top_at, left_after, spans, next_at, frame_to, Next}
use Rattle.chunks.proofs.Headers.{header_whole, header_in_lem, frame_whole, frame_in}
use Rattle.chunks.proofs.Spans.{top_in, top_frame, top_other, top_packed, top_there, spans_none, spans_more, next_fault, next_here, next_past, next_by, spans_by}
use Rattle.answer.specs.Answer.{refused_at, Answer}
use Rattle.answer.specs.declared.Refused.{Refused}

refused_not_done : {C : Type 0} {r : Refused} → ◌≡◌ {A = Answer} (Err r) (Ok tt) → C
refused_not_done q = let z : ◌≡◌ {A = ℕ} 0 1 = cc in absurd (omega arith)

-- 1. in a prefix

word_prefix : (n : ℕ) (b : List ℕ) (i : ℕ) → i + 2 ≤ n → u16_at (take n b) i ≡ u16_at b i
unfolding u16_at
word_prefix n b i h = ap₂ (λ (x y : ℕ). x + 256 * y) (get_or-take n b i 0 (omega arith)) (get_or-take n b (i + 1) 0 (omega arith))

word32_prefix : (n : ℕ) (b : List ℕ) (i : ℕ) → i + 4 ≤ n → u32_at (take n b) i ≡ u32_at b i
unfolding u32_at
word32_prefix n b i h = ap₂ (λ (x y : ℕ). x + 65536 * y) (word_prefix n b i (omega arith)) (word_prefix n b (i + 2) (omega arith))

module _ (n : ℕ) (b : List ℕ) (at : ℕ) where
  header_prefix : (kind end : ℕ) → header_at (take n b) at ≡ Ok (chunk_to kind end) → header_at b at ≡ Ok (chunk_to kind end)
  header_prefix kind end q =
      let i = header_in_lem (take n b) at _ q in
      let l = length-take n b in
      let e = word32_prefix n b at (omega (arith, i.0, i.1)) in
      ap (header_at b) refl
      ∙ sym (header_whole b at kind (u32_at (take n b) at) (i.2 ∙ word_prefix n b (at + 4) (omega (arith, i.0, i.1))) e
      (omega (arith, i.0, i.3)) (omega (arith, i.1, i.3)))
      ∙ ap (λ (k : ℕ). Ok (chunk_to kind k)) (sym i.3)

  frame_prefix : (count size : ℕ) → frame_header (drop at (take n b)) ≡ Ok (whole_of count size) → frame_header (drop at b) ≡ Ok (whole_of count size)
  frame_prefix count size q =
      let t = take n b in
      let i = frame_in (drop at t) _ q in
      let l = length-take n b in
      let m = length-drop at t in
      let m' = length-drop at b in
      let word : (j : ℕ) → j + 2 ≤ 16 → u16_at (drop at t) j ≡ u16_at (drop at b) j =
      (λ j h. drop_word t at j ∙ word_prefix n b (at + j) (omega (arith, i.0, i.1)) ∙ sym (drop_word b at j)) in
      let e : u32_at (drop at t) 0 ≡ u32_at (drop at b) 0 = drop_word32 t at 0 ∙ word32_prefix n b (at + 0) (omega (arith, i.0, i.1))
      ∙ sym (drop_word32 b at 0) in
      sym (frame_whole (drop at b) count size (i.3 ∙ word 6 (omega arith)) (i.4 ∙ e) (omega (arith, i.0, i.1)) (sym (word 4 (omega arith)) ∙ i.2)
      (omega (arith, i.0, i.4, e)) (omega (arith, i.1, i.4, e)))

  framed_prefix : (f : Whole) → frame_header (drop at (take n b)) ≡ f → (kind end : ℕ) → framed at f ≡ Ok (chunk_to kind end)
      → (layout : Layout) → top_at layout b at ≡ Ok (chunk_to kind end)
  framed_prefix (Err e) q kind end r layout = let z : ◌≡◌ {A = ℕ} 0 1 = cc in absurd (omega arith)
  framed_prefix (Ok h) q kind end r layout = top_there layout b at h.count h.size (frame_prefix h.count h.size q) ∙ r

  loose_prefix : (kind end : ℕ) → top_at Loose (take n b) at ≡ Ok (chunk_to kind end) → top_at Loose b at ≡ Ok (chunk_to kind end)
  loose_prefix kind end q =
      let t = take n b in
      let i = top_in Loose t at _ q in
      let l = length-take n b in
      let same = word_prefix n b (at + 4) (omega (arith, i.0, i.1)) in
      by_test (λ (x : Bool). top_at Loose b at ≡ Ok (chunk_to kind end)) (eqb (u16_at t (at + 4)) FRAME_TYPE)
      (λ e. framed_prefix (frame_header (drop at t)) refl kind end
      (sym (top_packed t at _ refl) ∙ sym (top_frame t at (omega (arith, i.0, i.1)) (eqb-true (u16_at t (at + 4)) FRAME_TYPE e)) ∙ q) Loose)
      (λ e. let other = eqb-false (u16_at t (at + 4)) FRAME_TYPE e in
      top_other b at (omega (arith, i.0, i.1)) (λ k. other (same ∙ k))
      ∙ header_prefix kind end (sym (top_other t at (omega (arith, i.0, i.1)) other) ∙ q))

  pub top_prefix : (layout : Layout) (kind end : ℕ) → top_at layout (take n b) at ≡ Ok (chunk_to kind end) → top_at layout b at ≡ Ok (chunk_to kind end)
  top_prefix Packed kind end q = framed_prefix (frame_header (drop at (take n b))) refl kind end (sym (top_packed (take n b) at _ refl) ∙ q) Packed
  top_prefix Loose kind end q = loose_prefix kind end q

-- a frame met in a prefix is met in the bytes
pub next_prefix : (layout : Layout) (n : ℕ) (b : List ℕ) (at from end : ℕ) → next_at layout (take n b) at ≡ Ok (frame_to from end) → next_at layout b at
    ≡ Ok (frame_to from end)
next_prefix layout n b at from end =
    next_by layout (take n b) (λ (k : ℕ) (x : Next). x ≡ Ok (frame_to from end) → next_at layout b k ≡ Ok (frame_to from end))
    (λ k e q r. let z : ◌≡◌ {A = ℕ} 0 1 = cc in absurd (omega arith))
    (λ k to q r. next_here layout b k to (top_prefix n b k layout FRAME_TYPE to q) ∙ r)
    (λ k kind to q other rest r. next_past layout b k kind to other (top_prefix n b k layout kind to q) ∙ rest r) at

-- and so are all chunks of a walk that is done
pub spans_prefix : (layout : Layout) (n : ℕ) (b : List ℕ) (count at : ℕ) → (spans layout (take n b) count at).answer ≡ Ok tt
    → spans layout b count at ≡ spans layout (take n b) count at
spans_prefix layout n b count at =
    spans_by layout (take n b) (λ (m k : ℕ) (s : Spans). s.answer ≡ Ok tt → spans layout b m k ≡ s)
    (λ k d. spans_none layout b k)
    (λ m k e q d. refused_not_done d)
    (λ m k kind end q rest d. spans_more layout b m k
    ∙ ap (λ (x : Header). after_header k x (λ kind end. spans layout b (left_after kind m) end)) (top_prefix n b k layout kind end q)
    ∙ ap (λ (s : Spans). walked (span kind k end ∷ s.met) s.answer) (rest d)) count at

-- the bytes of a frame alone have its header, whatever follows them
pub frame_alone : (x more : List ℕ) (count size : ℕ) → frame_header x ≡ Ok (whole_of count size) → frame_header (take size x ++ more) ≡ Ok (whole_of count size)
frame_alone x more count size q =
    let i = frame_in x (Ok (whole_of count size)) q in
    let y = take size x ++ more in
    let l : length (take size x) ≡ size = length-take-le size x i.1 in
    let m = length-append (take size x) more in
    let front : take size y ≡ take size x = take_at (take size x) more size l in
    let word : (j : ℕ) → j + 2 ≤ 16 → u16_at y j ≡ u16_at x j =
    (λ j h. sym (word_prefix size y j (omega (arith, i.0))) ∙ ap (λ (u : List ℕ). u16_at u j) front ∙ word_prefix size x j (omega (arith, i.0))) in
    let e : u32_at y 0 ≡ u32_at x 0 =
    sym (word32_prefix size y 0 (omega (arith, i.0))) ∙ ap (λ (u : List ℕ). u32_at u 0) front ∙ word32_prefix size x 0 (omega (arith, i.0)) in
    sym (frame_whole y count size (i.3 ∙ sym (word 6 (omega arith))) (i.4 ∙ sym e) (omega (arith, i.0, l, m)) (word 4 (omega arith) ∙ i.2)
    (omega (arith, i.0, i.4, e)) (omega (arith, i.4, e, l, m)))

-- 2. in the rest

abbrev pub moved_header : ℕ → Header → Header
moved_header k (Err e) = Err e
moved_header k (Ok c) = Ok (chunk_to c.kind (k + c.end))

abbrev pub moved_next : ℕ → Next → Next
moved_next k (Err r) = Err (refused_at r.0 (k + r.1))
moved_next k (Ok f) = Ok (frame_to (k + f.from) (k + f.end))

abbrev pub moved_answer : ℕ → Answer → Answer
moved_answer k (Ok u) = Ok tt
moved_answer k (Err r) = Err (refused_at r.0 (k + r.1))

abbrev pub moved_met : ℕ → List Span → List Span
moved_met k [] = []
moved_met k (s ∷ ss) = span s.kind (k + s.from) (k + s.end) ∷ moved_met k ss

abbrev pub moved : ℕ → Spans → Spans
moved k s = walked (moved_met k s.met) (moved_answer k s.answer)

-- so many bytes are there
there_moved : (x y k : ℕ) (b : List ℕ) → y ≡ k + x → 1 ≤ x → leb y (length b) ≡ leb x (length (drop k b))
there_moved x y k b e h =
    let l = length-drop k b in
    by_test (λ (t : Bool). leb y (length b) ≡ t) (leb x (length (drop k b)))
    (λ t. let i = leb-true x (length (drop k b)) t in le-leb y (length b) (omega arith))
    (λ t. let i = leb-false x (length (drop k b)) t in lt-leb y (length b) (omega arith))

module _ (b : List ℕ) (k at : ℕ) where
  abbrev rest : List ℕ
  rest = drop k b

  word_moved : u16_at b (k + at + 4) ≡ u16_at (drop k b) (at + 4)
  word_moved = let e : k + at + 4 ≡ k + (at + 4) = omega arith in ap (u16_at b) e ∙ sym (drop_word b k (at + 4))

  size_moved : u32_at b (k + at) ≡ u32_at (drop k b) at
  size_moved = sym (drop_word32 b k at)

  -- the tests of a header, one after the other
  abbrev tested : Bool → Bool → Bool → ℕ → ℕ → Header
  tested t s l kind end = cond t (cond s (cond l (Ok (chunk_to kind end)) (Err Cut)) (Err SmallSize)) (Err Cut)

  tested_moved : (t s l : Bool) (kind end : ℕ) → tested t s l kind (k + end) ≡ moved_header k (tested t s l kind end)
  tested_moved false s l kind end = refl
  tested_moved true false l kind end = refl
  tested_moved true true false kind end = refl
  tested_moved true true true kind end = refl

  header_moved : header_at b (k + at) ≡ moved_header k (header_at (drop k b) at)
  unfolding header_at
  header_moved =
      let size = u32_at (drop k b) at in
      let e : k + at + u32_at b (k + at) ≡ k + (at + size) = omega (arith, size_moved) in
      ap₂ (λ (x y : Bool). tested x y (leb (k + at + u32_at b (k + at)) (length b)) (u16_at b (k + at + 4)) (k + at + u32_at b (k + at)))
      (there_moved (at + 6) (k + at + 6) k b (omega arith) (omega arith)) (ap (leb 6) size_moved)
      ∙ ap₂ (λ (n : ℕ) (m : ℕ). tested (leb (at + 6) (length (drop k b))) (leb 6 size) (leb n (length b)) m n) e word_moved
      ∙ by_test (λ (t : Bool). tested (leb (at + 6) (length (drop k b))) t (leb (k + (at + size)) (length b)) (u16_at (drop k b) (at + 4))
      (k + (at + size)) ≡ moved_header k
      (tested (leb (at + 6) (length (drop k b))) t (leb (at + size) (length (drop k b))) (u16_at (drop k b) (at + 4)) (at + size)))
      (leb 6 size)
      (λ s. let h = leb-true 6 size s in
      ap (λ (l : Bool). tested (leb (at + 6) (length (drop k b))) true l (u16_at (drop k b) (at + 4)) (k + (at + size)))
      (there_moved (at + size) (k + (at + size)) k b refl (omega arith))
      ∙ tested_moved (leb (at + 6) (length (drop k b))) true (leb (at + size) (length (drop k b))) (u16_at (drop k b) (at + 4)) (at + size))
      (λ s. small (leb (at + 6) (length (drop k b))) (leb (k + (at + size)) (length b)) (leb (at + size) (length (drop k b)))
      (u16_at (drop k b) (at + 4)) (at + size))
    where
      small : (t l m : Bool) (kind end : ℕ) → tested t false l kind (k + end) ≡ moved_header k (tested t false m kind end)
      small true l m kind end = refl
      small false l m kind end = refl

  framed_moved : (f : Whole) → framed (k + at) f ≡ moved_header k (framed at f)
  framed_moved (Err e) = refl
  framed_moved (Ok h) = let e : k + at + h.size ≡ k + (at + h.size) = omega arith in ap (λ (n : ℕ). Ok (chunk_to FRAME_TYPE n)) e

  frame_moved : framed (k + at) (frame_header (drop (k + at) b)) ≡ moved_header k (framed at (frame_header (drop at (drop k b))))
  frame_moved = ap (λ (x : List ℕ). framed (k + at) (frame_header x)) (sym (drop-drop at k b)) ∙ framed_moved (frame_header (drop at (drop k b)))

pub top_moved : (layout : Layout) (b : List ℕ) (k at : ℕ) → top_at layout b (k + at) ≡ moved_header k (top_at layout (drop k b) at)
unfolding top_at
top_moved Packed b k at = frame_moved b k at
top_moved Loose b k at =
    ap₂ (λ (t f : Bool). cond t (cond f (framed (k + at) (frame_header (drop (k + at) b))) (header_at b (k + at))) (Err FewFrames))
    (there_moved (at + 6) (k + at + 6) k b (omega arith) (omega arith)) (ap (λ (x : ℕ). eqb x FRAME_TYPE) (word_moved b k at))
    ∙ ap₂ (λ (x y : Header). cond (leb (at + 6) (length (drop k b))) (cond (eqb (u16_at (drop k b) (at + 4)) FRAME_TYPE) x y)
    (Err FewFrames)) (frame_moved b k at) (header_moved b k at)
    ∙ by (leb (at + 6) (length (drop k b))) (eqb (u16_at (drop k b) (at + 4)) FRAME_TYPE) (framed at (frame_header (drop at (drop k b))))
    (header_at (drop k b) at)
  where
    by : (t f : Bool) (x y : Header) → cond t (cond f (moved_header k x) (moved_header k y)) (Err FewFrames)
        ≡ moved_header k (cond t (cond f x y) (Err FewFrames))
    by false f x y = refl
    by true false x y = refl
    by true true x y = refl

-- the next frame from an offset on is that of the rest, moved
pub next_moved : (layout : Layout) (b : List ℕ) (k at : ℕ) → next_at layout b (k + at) ≡ moved_next k (next_at layout (drop k b) at)
next_moved layout b k at =
    next_by layout (drop k b) (λ (i : ℕ) (x : Next). next_at layout b (k + i) ≡ moved_next k x)
    (λ i e q. next_fault layout b (k + i) e (top_moved layout b k i ∙ ap (moved_header k) q))
    (λ i end q. next_here layout b (k + i) (k + end) (top_moved layout b k i ∙ ap (moved_header k) q))
    (λ i kind end q other rest. next_past layout b (k + i) kind (k + end) other (top_moved layout b k i ∙ ap (moved_header k) q) ∙ rest) at

pub spans_moved : (layout : Layout) (b : List ℕ) (k count at : ℕ) → spans layout b count (k + at) ≡ moved k (spans layout (drop k b) count at)
spans_moved layout b k count at =
    spans_by layout (drop k b) (λ (m i : ℕ) (s : Spans). spans layout b m (k + i) ≡ moved k s)
    (λ i. spans_none layout b (k + i))
    (λ m i e q. one m i (Err e) q)
    (λ m i kind end q rest. one m i (Ok (chunk_to kind end)) q ∙ ap (λ (s : Spans). walked (span kind (k + i) (k + end) ∷ s.met) s.answer) rest) count at
  where
    one : (m i : ℕ) (x : Header) → top_at layout (drop k b) i ≡ x
        → spans layout b (suc m) (k + i) ≡ after_header (k + i) (moved_header k x) (λ kind end. spans layout b (left_after kind m) end)
    one m i x q =
        spans_more layout b m (k + i)
        ∙ ap (λ (y : Header). after_header (k + i) y (λ kind end. spans layout b (left_after kind m) end)) (top_moved layout b k i ∙ ap (moved_header k) q)
