-- How long the text of a listing is: a chunk of s bytes, with all that is inside it, takes at most `line_most` bytes of text for each 6 of the s.
-- Its own line has no more, and its children lie behind its first 12 or 16.
use mathlib.Core.Path.{◌≡◌, refl, ap}
use mathlib.Core.List.{List, [], ◌++◌}
use mathlib.Core.Bool.{Bool, cond}
use Prim.Native.Nat.{ℕ, zero, suc, ◌+◌, ◌-◌, ◌*◌, ◌≤◌, ◌<◌}
use native.Mathlib.Omega.{arith}
use borrow.Author.Tests.{leb-true, leb-false}
use lib.Dec.{leb}
use lib.ListN.{length, get_or, take, length-append}
use lib.Seq.{length-take-le, get_or-take}
use Rattle.std.specs.Prelude.{Ok, Err}
use Rattle.words.specs.Words.{u16_at, Bytes}
use Rattle.words.proofs.Laws.{bytes_get_d, bytes_take}
use Rattle.words.proofs.Tests.{by_test, cond_holds}
use Rattle.answer.specs.Answer.{number}
use Rattle.answer.proofs.Laws.{number_small}
use Rattle.format.proofs.Laws.{size_in_lem}
use Rattle.answer.specs.declared.Refusal.{Refusal}
use Rattle.answer.specs.declared.Refusal.TheVariants.{NoRoom}
use Rattle.chunks.specs.Headers.{header_at, chunk_to, Header}
use Rattle.chunks.proofs.Headers.{header_in_lem}
use Rattle.reel_header.specs.Head.{head_of, Headed}
use Rattle.reel_header.specs.declared.Takes.TheVariants.{FlcOnly}
use Rattle.chunks.specs.Spans.{HEADER_BYTES, extent, Extent}
use Rattle.reel_header.specs.declared.Head.{Head}
use Rattle.reel_header.proofs.Laws.{HeadIn, head_in}
use Rattle.chunks.proofs.Spans.{extent_in, extent_refused}
use Rattle.list_text.specs.Text.{head_line, head_most, chunk_line, line_most, ok_line, refused_line, refused_most}
use Rattle.list_text.proofs.Laws.{head_short, chunk_short, refused_short}
use Rattle.list_chunks.specs.Listing.{head_bytes, count_at, opens, after_child, children_by, inside, LIST_DEPTH, container_of, children_of, chunk_lines, walk_lines, head_lines, LIST_INPUT, listing}
use Rattle.list_chunks.specs.Room.{Listed, list_most}
use Rattle.list_chunks.proofs.Laws.{head_bytes_in, chunk_lines_are, listing_long, listing_head}

-- a chunk that lies within the first to bytes, and its line
pub record Child (depth to at kind end : ℕ) : Type 0 where
  pub long : at + 6 ≤ end
  pub within : end ≤ to
  pub line : length (chunk_line depth at kind (end - at)) ≤ line_most

module _ (b : List ℕ) (bytes : (i : ℕ) → get_or b i 0 < 256) (few : length b ≤ LIST_INPUT) where
  pub child_in : (depth to at kind end : ℕ) → depth ≤ LIST_DEPTH → to ≤ length b → header_at (take to b) at ≡ Ok (chunk_to kind end)
      → Child depth to at kind end
  unfolding u16_at
  child_in depth to at kind end d w there =
      let i = header_in_lem (take to b) at _ there in
      let long : at + 6 ≤ end = i.0 in
      let within : end ≤ to = omega (arith, i.1, length-take-le to b w) in
      let low = get_or-take to b (at + 4) 0 (omega arith) in
      let high = get_or-take to b (at + 4 + 1) 0 (omega arith) in
      let small : kind < 65536 = omega (arith, i.2, low, high, bytes (at + 4), bytes (at + 4 + 1)) in
      record { long = long; within = within; line = chunk_short depth at kind (end - at) (omega arith) (omega arith) (omega arith) (omega arith) }

  -- what is inside a chunk takes no more than its line leaves
  Short : (ℕ → ℕ → ℕ → List ℕ) → Type 0
  Short inner = (at end kind : ℕ) → at + 6 ≤ end → end ≤ length b → 6 * length (inner at end kind) ≤ line_most * (end - at - 6)

  opened_by : (inner : ℕ → ℕ → ℕ → List ℕ) → Short inner → (t : Bool) (depth to at kind end : ℕ) → to ≤ length b → Child depth to at kind end
      → 6 * length (cond t (inner at end kind) []) ≤ line_most * (end - at - 6)
  unfolding Short
  opened_by inner s t depth to at kind end w i =
      cond_holds (λ (x : List ℕ). 6 * length x ≤ line_most * (end - at - 6)) t (inner at end kind) [] (s at end kind i.long (omega arith)) (omega arith)

  children_by_lem : (inner : ℕ → ℕ → ℕ → List ℕ) → Short inner → (depth parent to count at : ℕ) → depth ≤ LIST_DEPTH → at ≤ to → to ≤ length b
      → 6 * length (children_by inner b depth parent to count at) ≤ line_most * (to - at)
  unfolding children_by
  children_by_lem inner s depth parent to zero at d h w = omega arith
  children_by_lem inner s depth parent to (suc count) at d h w =
      by (header_at (take to b) at) refl (λ end i. children_by_lem inner s depth parent to count end d i w)
    where
      rest : ℕ → List ℕ
      rest end = children_by inner b depth parent to count end

      by : (x : Header) → header_at (take to b) at ≡ x → ((end : ℕ) → end ≤ to → 6 * length (rest end) ≤ line_most * (to - end))
          → 6 * length (after_child inner depth parent at x rest) ≤ line_most * (to - at)
      by (Err e) p again = omega arith
      by (Ok c) p again =
          let i = child_in depth to at c.kind c.end d w p in
          let line = chunk_line depth at c.kind (c.end - at) in
          let opened = cond (opens c.kind parent) (inner at c.end c.kind) [] in
          let o = opened_by inner s (opens c.kind parent) depth to at c.kind c.end w i in
          omega (arith, again c.end i.within, length-append line (opened ++ rest c.end), length-append opened (rest c.end))

  inside_by : (levels depth : ℕ) → depth + levels ≤ LIST_DEPTH → Short (inside levels b depth)
  unfolding inside Short
  inside_by zero depth h at end kind i w = omega arith
  inside_by (suc levels) depth h at end kind i w =
      let inner = inside levels b (depth + 1) in
      let children = children_by inner b (depth + 1) kind end (count_at b at kind) (at + head_bytes kind) in
      by_test (λ t. 6 * length (cond t children []) ≤ line_most * (end - at - 6)) (leb (head_bytes kind) (end - at))
      (λ e. let l = leb-true (head_bytes kind) (end - at) e in
      let k = head_bytes_in kind in
      let c = children_by_lem inner (inside_by levels (depth + 1) (omega arith)) (depth + 1) kind end (count_at b at kind) (at + head_bytes kind)
      (omega arith) (omega arith) w in
      omega arith)
      (λ e. omega arith)

  module _ (depth : ℕ) (shallow : depth ≤ LIST_DEPTH) where
    pub opened_short : (t : Bool) (to at kind end : ℕ) → to ≤ length b → Child depth to at kind end
        → 6 * length (cond t (container_of b depth at end kind) []) ≤ line_most * (end - at - 6)
    opened_short t to at kind end w i = opened_by (inside (LIST_DEPTH - depth) b depth) (inside_by (LIST_DEPTH - depth) depth (omega arith)) t depth
        to at kind end w i

    pub children_short : (parent to count at : ℕ) → at ≤ to → to ≤ length b → 6 * length (children_of b depth parent to count at) ≤ line_most * (to - at)
    children_short parent to count at h w =
        children_by_lem (inside (LIST_DEPTH - depth) b depth) (inside_by (LIST_DEPTH - depth) depth (omega arith)) depth parent to count at shallow h w

-- a whole reel

pub listed_in : (b : List ℕ) → length b ≤ LIST_INPUT → (h : Head) → HeadIn b (Ok h) → Listed (take h.size b) h.picture.width h.picture.height h.frames
listed_in b few h i =
    let n = length-take-le h.size b (omega (arith, i.most)) in
    record { long = omega (arith, i.least); short = omega (arith, i.most); sized = size_in_lem h.picture i.sized; few = i.few_frames }

pub listed_head : (b : List ℕ) (w h frames : ℕ) → Listed b w h frames → length (head_line w h frames) ≤ head_most
listed_head b w h frames l = head_short w h frames l.sized.wide l.sized.high l.few

pub reel_short : (b : List ℕ) → ((i : ℕ) → get_or b i 0 < 256) → (w h frames end n : ℕ) → Listed b w h frames → HEADER_BYTES ≤ end → end ≤ length b
    → length (head_line w h frames) + length (children_of b 0 0 end n HEADER_BYTES) + length ok_line ≤ list_most
reel_short b bytes w h frames end n l least most =
    omega (arith, l.short, listed_head b w h frames l, children_short b bytes l.short 0 (omega arith) 0 end n HEADER_BYTES least most)

-- a refused line

pub refusal_short : (e : Refusal) (place : ℕ) → place ≤ LIST_INPUT → length (refused_line (number e) place) ≤ refused_most
refusal_short e place h = refused_short (number e) place (number_small e) (omega arith)

-- the whole listing

walked_short : (b : List ℕ) → Bytes b → (w h frames : ℕ) → Listed b w h frames → (x : Extent) → extent b (suc frames) HEADER_BYTES ≡ x
    → length (walk_lines b w h frames x) ≤ list_most
walked_short b bytes w h frames l (Ok end) q =
    let j = extent_in b (suc frames) HEADER_BYTES l.long end q in
    let e = chunk_lines_are b end (length b) refl in
    omega (
      arith,
      reel_short b (λ k. bytes_get_d b k bytes) w h frames end (length b) l j.0 j.1,
      ap length e,
      length-append (head_line w h frames) (chunk_lines b end ++ ok_line),
      length-append (chunk_lines b end) ok_line,
    )
walked_short b bytes w h frames l (Err r) q =
    omega (arith, refusal_short r.0 r.1 (omega (arith, l.short, extent_refused b (suc frames) HEADER_BYTES l.long r q)))

headed_short : (b : List ℕ) → Bytes b → length b ≤ LIST_INPUT → (x : Headed) → HeadIn b x → length (head_lines b x) ≤ list_most
headed_short b bytes few (Err e) i = omega (arith, refusal_short e 0 (omega arith))
headed_short b bytes few (Ok h) i =
    let l = listed_in b few h i in
    walked_short (take h.size b) (bytes_take h.size b bytes) h.picture.width h.picture.height h.frames l _ refl

pub listing_short : (b : List ℕ) → Bytes b → length (listing b) ≤ list_most
listing_short b bytes =
    by_test (λ t. length (listing b) ≤ list_most) (leb (length b) LIST_INPUT)
    (λ e. let few = leb-true (length b) LIST_INPUT e in
    omega (arith, ap length (listing_head b few _ refl), headed_short b bytes few (head_of FlcOnly b) (head_in FlcOnly b _ refl)))
    (λ e. omega (arith, ap length (listing_long b (leb-false (length b) LIST_INPUT e)), refusal_short NoRoom 0 (omega arith)))

-- the code's LIST_MOST is that
pub list_most_lem : list_most ≡ 218047
unfolding head_most
list_most_lem = refl
