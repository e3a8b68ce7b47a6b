-- Laws of the headers of chunks and frames, by the cases of their definitions.
use mathlib.Core.Path.{◌≡◌, ap, ap₂, ◌∙◌, refl, subst}
use mathlib.Core.List.{List}
use mathlib.Core.Bool.{Bool, true, false, cond}
use Prim.Native.Nat.{ℕ, ◌≤◌, ◌<◌, ◌+◌}
use native.Mathlib.Omega.{arith}
use borrow.Author.Tests.{le-leb, lt-leb, eq-eqb, ne_eqb, leb-true, eqb-true}
use lib.ListN.{length}
use lib.Dec.{leb, eqb}
use Rattle.std.specs.Prelude.{Result, Ok, Err}
use Rattle.words.specs.Words.{u16_at, u32_at}
use Rattle.words.proofs.Tests.{by_test}
use Rattle.answer.specs.declared.Refusal.{Refusal}
use Rattle.answer.specs.declared.Refusal.TheVariants.{Cut, WrongType, SmallSize}
use Rattle.format.specs.Format.{FRAME_TYPE}
use Rattle.chunks.specs.Headers.{size_at, header_at, frame_header, chunk_to, whole_of, Header, Whole}

-- a check of a chain: what holds of the refusal, and of what comes after where the test holds
pub required : {X : Type 0} (P : X → Type 0) (t : Bool) (x e : X) → P e → (t ≡ true → P x) → P (cond t x e)
required P t x e i f = by_test (λ (b : Bool). P (cond b x e)) t f (λ q. i)

-- what is made of a size
abbrev pub onto : {A B : Type 0} → (A → B) → Result A Refusal → Result B Refusal
onto f (Ok x) = Ok (f x)
onto f (Err e) = Err e

size_onto : {B : Type 0} (f : ℕ → B) (s t : Bool) (n : ℕ) → cond s (cond t (Ok (f n)) (Err Cut)) (Err SmallSize)
    ≡ onto f (cond s (cond t (Ok n) (Err Cut)) (Err SmallSize))
size_onto f true true n = refl
size_onto f true false n = refl
size_onto f false t n = refl

-- header_at

module _ (b : List ℕ) (at : ℕ) where
  pub header_cut : length b < at + 6 → Err Cut ≡ header_at b at
  unfolding header_at
  header_cut h = simp (lt-leb (at + 6) (length b) h)

  pub header_sized : at + 6 ≤ length b → header_at b at ≡ onto (λ (size : ℕ). chunk_to (u16_at b (at + 4)) (at + size)) (size_at 6 b at)
  unfolding header_at
  header_sized h = simp (le-leb (at + 6) (length b) h) (size_onto _ (leb 6 (u32_at b at)) (leb (at + u32_at b at) (length b)) (u32_at b at))

  pub header_whole : (kind size : ℕ) → kind ≡ u16_at b (at + 4) → size ≡ u32_at b at → 6 ≤ u32_at b at → at + u32_at b at ≤ length b
      → Ok (chunk_to kind (at + size)) ≡ header_at b at
  unfolding header_at
  header_whole kind size e f k l =
      ap₂ (λ (x y : ℕ). Ok (chunk_to x (at + y))) e f
      ∙ simp (le-leb (at + 6) (length b) (omega arith), le-leb 6 (u32_at b at) k, le-leb (at + u32_at b at) (length b) l)

-- a chunk lies within b, and has the fields of its header
abbrev pub HeaderIn : List ℕ → ℕ → Header → Type 0
HeaderIn b at (Err e) = Unit {0}
HeaderIn b at (Ok c) = (at + 6 ≤ c.end) × (c.end ≤ length b) × (c.kind ≡ u16_at b (at + 4)) × (c.end ≡ at + u32_at b at)

pub header_in_lem : (b : List ℕ) (at : ℕ) (x : Header) → header_at b at ≡ x → HeaderIn b at x
unfolding header_at
header_in_lem b at x e =
    subst (HeaderIn b at) e
    (required (HeaderIn b at) (leb (at + 6) (length b)) _ _ tt (λ o.
    required (HeaderIn b at) (leb 6 (u32_at b at)) _ _ tt (λ p.
    required (HeaderIn b at) (leb (at + u32_at b at) (length b)) _ _ tt (λ q.
    let k = leb-true 6 (u32_at b at) p in (omega arith, leb-true (at + u32_at b at) (length b) q, refl, refl)))))

-- frame_header

module _ (b : List ℕ) where
  pub frame_cut : length b < 16 → Err Cut ≡ frame_header b
  unfolding frame_header
  frame_cut k = simp (lt-leb 16 (length b) k)

  pub frame_type : 16 ≤ length b → (u16_at b 4 ≡ FRAME_TYPE → ⊥) → Err WrongType ≡ frame_header b
  unfolding frame_header
  frame_type k t = simp (le-leb 16 (length b) k, ne_eqb (u16_at b 4) FRAME_TYPE t)

  pub frame_sized : 16 ≤ length b → u16_at b 4 ≡ FRAME_TYPE → frame_header b ≡ onto (whole_of (u16_at b 6)) (size_at 16 b 0)
  unfolding frame_header
  frame_sized k t =
      let at : u32_at b 0 ≡ 0 + u32_at b 0 = omega arith in
      simp (le-leb 16 (length b) k, eq-eqb (u16_at b 4) FRAME_TYPE t)
      (size_onto (whole_of (u16_at b 6)) (leb 16 (u32_at b 0)) (leb (u32_at b 0) (length b)) (u32_at b 0)
      ∙ ap (λ (n : ℕ). onto (whole_of (u16_at b 6)) (cond (leb 16 (u32_at b 0)) (cond (leb n (length b)) (Ok (u32_at b 0)) (Err Cut)) (Err SmallSize))) at)

  pub frame_whole : (count size : ℕ) → count ≡ u16_at b 6 → size ≡ u32_at b 0 → 16 ≤ length b → u16_at b 4 ≡ FRAME_TYPE → 16 ≤ u32_at b 0
      → u32_at b 0 ≤ length b
      → Ok (whole_of count size) ≡ frame_header b
  unfolding frame_header
  frame_whole count size e f k t l m =
      ap₂ (λ (x y : ℕ). Ok (whole_of x y)) e f
      ∙ simp (le-leb 16 (length b) k, eq-eqb (u16_at b 4) FRAME_TYPE t, le-leb 16 (u32_at b 0) l, le-leb (u32_at b 0) (length b) m)

  -- a frame lies within b, its type is F1FA, and it has the fields of its header
  abbrev pub FrameIn : Whole → Type 0
  FrameIn (Err e) = Unit {0}
  FrameIn (Ok h) = (16 ≤ h.size) × (h.size ≤ length b) × (u16_at b 4 ≡ FRAME_TYPE) × (h.count ≡ u16_at b 6) × (h.size ≡ u32_at b 0)

  pub frame_in : (f : Whole) → frame_header b ≡ f → FrameIn f
  unfolding frame_header
  frame_in f e =
      subst FrameIn e
      (required FrameIn (leb 16 (length b)) _ _ tt (λ o.
      required FrameIn (eqb (u16_at b 4) FRAME_TYPE) _ _ tt (λ p.
      required FrameIn (leb 16 (u32_at b 0)) _ _ tt (λ q.
      required FrameIn (leb (u32_at b 0) (length b)) _ _ tt (λ r.
      (leb-true 16 (u32_at b 0) q, leb-true (u32_at b 0) (length b) r, eqb-true (u16_at b 4) FRAME_TYPE p, refl, refl))))))
