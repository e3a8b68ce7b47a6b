-- What a close leaves of a header: each byte but those of the fields that it sets.
use mathlib.Core.Path.{◌≡◌, refl, sym, ap, ◌∙◌}
use mathlib.Core.List.{List, [], ◌++◌, append_assoc}
use mathlib.Core.Logic.{◌⊎◌, inl, inr}
use Prim.Native.Nat.{ℕ, ◌+◌, ◌-◌, ◌≤◌, ◌<◌}
use native.Mathlib.Omega.{arith}
use lib.ListN.{length, take, drop, get_or, get_or-append, length-append}
use lib.Seq.{get_or-append-add, get_or-take, get_or-drop, length-take-le}
use Rattle.words.specs.Words.{le16, le32}
use Rattle.words.specs.Writes.{put}
use Rattle.words.proofs.Laws.{length_put}
use Rattle.format.specs.declared.Format.{Format}
use Rattle.format.specs.declared.Format.TheVariants.{Flc, Fli}
use Rattle.chunks.specs.Spans.{HEADER_BYTES}
use Rattle.reel_header.specs.Head.{SIZE_AT, FRAMES_AT, FLAGS_AT, OFRAME1_AT, OFRAME2_AT, finished}
use Rattle.reel_header.specs.Written.{counted, flagged, closed_header, Other}

-- a byte outside of what is stored
pub put_other : (d v : List ℕ) (at i : ℕ) → at + length v ≤ length d → (i < at) ⊎ (at + length v ≤ i) → get_or (put d at v) i 0 ≡ get_or d i 0
put_other d v at i h (inl k) =
    get_or-append (take at d) (v ++ drop (at + length v) d) 0 i (omega (arith, length-take-le at d (omega arith))) ∙ get_or-take at d i 0 k
put_other d v at i h (inr k) =
    let j = i - (at + length v) in
    let e : length (take at d ++ v) + j ≡ i = omega (arith, length-append (take at d) v, length-take-le at d (omega arith)) in
    let g : at + length v + j ≡ i = omega arith in
    ap (λ (x : List ℕ). get_or x i 0) (sym (append_assoc (take at d) v (drop (at + length v) d)))
    ∙ ap (λ (m : ℕ). get_or ((take at d ++ v) ++ drop (at + length v) d) m 0) (sym e)
    ∙ get_or-append-add (take at d ++ v) (drop (at + length v) d) j 0
    ∙ get_or-drop (at + length v) d j 0
    ∙ ap (λ (m : ℕ). get_or d m 0) g

module _ (i : ℕ) (d : List ℕ) (long : HEADER_BYTES ≤ length d) where
  counted_keeps : (size frames : ℕ) → 4 ≤ i → (i < 6) ⊎ (8 ≤ i) → (length (counted size frames d) ≡ length d)
      × (get_or (counted size frames d) i 0 ≡ get_or d i 0)
  counted_keeps size frames s f =
      let d₁ = put d SIZE_AT (le32 size []) in
      let l₁ = length_put d SIZE_AT (le32 size []) (omega arith) in (
        length_put d₁ FRAMES_AT (le16 frames []) (omega arith) ∙ l₁,
        put_other d₁ (le16 frames []) FRAMES_AT i (omega arith) f
            ∙ put_other d (le32 size []) SIZE_AT i (omega arith) (inr s),
      )

  flagged_keeps : (second : ℕ) → (i < 14) ⊎ (16 ≤ i) → (i < 80) ⊎ (88 ≤ i) → get_or (flagged second d) i 0 ≡ get_or d i 0
  flagged_keeps second g o =
      let d₁ = put d FLAGS_AT (le16 (finished Flc) []) in
      let d₂ = put d₁ OFRAME1_AT (le32 HEADER_BYTES []) in
      let l₁ = length_put d FLAGS_AT (le16 (finished Flc) []) (omega arith) in
      let l₂ = length_put d₁ OFRAME1_AT (le32 HEADER_BYTES []) (omega arith) in
      put_other d₂ (le32 second []) OFRAME2_AT i (omega arith) (before_or_behind OFRAME2_AT (omega arith) (omega arith) o)
      ∙ put_other d₁ (le32 HEADER_BYTES []) OFRAME1_AT i (omega arith) (before_or_behind OFRAME1_AT (omega arith) (omega arith) o)
      ∙ put_other d (le16 (finished Flc) []) FLAGS_AT i (omega arith) g
    where
      before_or_behind : (at : ℕ) → 80 ≤ at → at + 4 ≤ 88 → (i < 80) ⊎ (88 ≤ i) → (i < at) ⊎ (at + 4 ≤ i)
      before_or_behind at h k (inl x) = inl (omega arith)
      before_or_behind at h k (inr x) = inr (omega arith)

pub closed_keeps : (f : Format) (i : ℕ) → Other f i → (d : List ℕ) (size frames second : ℕ) → HEADER_BYTES ≤ length d
    → get_or (closed_header f size frames second d) i 0 ≡ get_or d i 0
unfolding closed_header
closed_keeps Flc i o d size frames second h =
    let k = counted_keeps i d h size frames o.not_size o.not_frames in
    flagged_keeps i (counted size frames d) (omega (arith, k.0)) second (o.not_flags refl) (o.not_oframes refl) ∙ k.1
closed_keeps Fli i o d size frames second h = (counted_keeps i d h size frames o.not_size o.not_frames).1
