-- Laws of the listing's definitions by cases, and of text stored piece by piece.
use mathlib.Core.Path.{◌≡◌, refl, sym, ap, ap₂, ◌∙◌}
use mathlib.Core.List.{List, [], ◌∷◌, ◌++◌}
use mathlib.Core.Bool.{cond}
use Prim.Native.Nat.{ℕ, zero, suc, ◌+◌, ◌-◌, ◌≤◌, ◌<◌}
use native.Mathlib.Nat.{not-suc-le-zero}
use native.Mathlib.Numerals.{add-one}
use native.Mathlib.Omega.{arith}
use borrow.Author.Tests.{lt-leb, le-leb}
use lib.Dec.{leb, eqb}
use lib.ListN.{length, take, drop}
use Rattle.std.specs.Prelude.{Ok}
use Rattle.words.proofs.Laws.{put_front}
use Rattle.words.proofs.Tests.{cond_holds}
use Rattle.answer.specs.Answer.{number, done}
use Rattle.format.specs.Format.{FLI_PSTAMP}
use Rattle.answer.specs.declared.Refusal.TheVariants.{NoRoom}
use Rattle.chunks.specs.Headers.{header_at, Header}
use Rattle.state.specs.Outcome.{lent_bytes, leaves, refuse}
use Rattle.state.proofs.Laws.{fitted_none, fitted_whole}
use Rattle.reel_header.specs.Head.{head_of, Headed}
use Rattle.reel_header.specs.declared.Head.{Head}
use Rattle.chunks.specs.Spans.{HEADER_BYTES, extent, Extent}
use Rattle.reel_header.specs.declared.Takes.TheVariants.{FlcOnly}
use Rattle.list_text.specs.Text.{refused_line}
use Rattle.list_chunks.specs.Listing.{head_bytes, count_at, after_child, children_by, inside, LIST_DEPTH, container_of, children_of, chunk_lines, walk_lines, head_lines, LIST_INPUT, listing, list}

-- children_by

module _ (inner : ℕ → ℕ → ℕ → List ℕ) (b : List ℕ) (depth parent to : ℕ) where
  pub children_none : (n at : ℕ) → n ≤ 0 → children_by inner b depth parent to n at ≡ []
  unfolding children_by
  children_none zero at i = refl
  children_none (suc n) at i = absurd (not-suc-le-zero i)

  pub children_step : (n k at : ℕ) → n ≡ k + 1 → (x : Header) → header_at (take to b) at ≡ x
      → children_by inner b depth parent to n at ≡ after_child inner depth parent at x (λ end. children_by inner b depth parent to k end)
  unfolding children_by
  children_step n k at i x e =
      ap (λ (l : ℕ). children_by inner b depth parent to l at) (i ∙ add-one k)
      ∙ ap (λ (y : Header). after_child inner depth parent at y (λ end. children_by inner b depth parent to k end)) e

-- head_bytes

pub head_bytes_in : (kind : ℕ) → (12 ≤ head_bytes kind) × (head_bytes kind ≤ 16)
head_bytes_in kind =
    cond_holds (λ (n : ℕ). (12 ≤ n) × (n ≤ 16)) (eqb kind FLI_PSTAMP) 12 16 (omega arith, omega arith) (omega arith, omega arith)

-- container_of

module _ (b : List ℕ) (depth at end kind : ℕ) where
  pub container_deep : LIST_DEPTH ≤ depth → container_of b depth at end kind ≡ []
  unfolding inside
  container_deep h = let e : LIST_DEPTH - depth ≡ 0 = omega arith in rw e

  module _ (shallow : depth < LIST_DEPTH) where
    one_level : LIST_DEPTH - depth ≡ suc (LIST_DEPTH - (depth + 1))
    one_level = omega arith

    pub container_short : end - at < head_bytes kind → container_of b depth at end kind ≡ []
    unfolding inside
    container_short h = rw (one_level, lt-leb _ _ h)

    pub container_children : head_bytes kind ≤ end - at
        → container_of b depth at end kind ≡ children_of b (depth + 1) kind end (count_at b at kind) (at + head_bytes kind)
    unfolding inside
    container_children h = rw (one_level, le-leb _ _ h)

-- chunk_lines; n: the reel's length as it was computed

pub chunk_lines_are : (b : List ℕ) (end n : ℕ) → n ≡ length b → children_of b 0 0 end n HEADER_BYTES ≡ chunk_lines b end
unfolding chunk_lines
chunk_lines_are b end n l = ap (λ (y : ℕ). children_of b 0 0 end y HEADER_BYTES) l

-- listing

module _ (b : List ℕ) where
  pub listing_long : LIST_INPUT < length b → listing b ≡ refused_line (number NoRoom) 0
  unfolding listing
  listing_long h = simp (lt-leb (length b) LIST_INPUT h)

  module _ (few : length b ≤ LIST_INPUT) where
    pub listing_head : (x : Headed) → head_of FlcOnly b ≡ x → listing b ≡ head_lines b x
    unfolding listing
    listing_head x e = ap (λ (y : Headed). cond (leb (length b) LIST_INPUT) (head_lines b y) (refused_line (number NoRoom) 0)) e
        ∙ simp (le-leb (length b) LIST_INPUT few)

    pub listing_walk : (h : Head) → head_of FlcOnly b ≡ Ok h → (x : Extent) → extent (take h.size b) (h.frames + 1) HEADER_BYTES ≡ x
        → listing b ≡ walk_lines (take h.size b) h.picture.width h.picture.height h.frames x
    listing_walk h y x e =
        listing_head _ y
        ∙ ap (walk_lines (take h.size b) h.picture.width h.picture.height h.frames)
        (ap (λ (n : ℕ). extent (take h.size b) n HEADER_BYTES) (sym (add-one h.frames)) ∙ e)

-- list; n: the listing's length

module _ (b out : List ℕ) (n : ℕ) (l : n ≡ length (listing b)) where
  pub list_none : length out < n → refuse NoRoom 0 (lent_bytes out) ≡ list b out
  unfolding list
  list_none h = fitted_none (listing b) out n (sym l) h

  pub list_whole : n ≤ length out → (e : List ℕ) → e ≡ listing b → leaves (done (n ∷ [])) (lent_bytes (e ++ drop n out)) ≡ list b out
  unfolding list
  list_whole h e p =
      fitted_whole (listing b) out n (sym l) (e ++ drop n out) h (ap₂ (λ (x : List ℕ) (y : ℕ). x ++ drop y out) p l ∙ sym (put_front out (listing b)))
