-- Laws of a frame's plans, of its bytes one part after the other, and of the answer.
use mathlib.Core.Path.{◌≡◌, refl, sym, ap, ap₂, ◌∙◌, subst}
use mathlib.Core.List.{List, [], ◌∷◌, ◌++◌, append-nil, append_assoc, flatten}
use mathlib.Core.Bool.{Bool, true, false, not, cond}
use Prim.Native.Nat.{ℕ, ◌+◌, ◌≤◌, ◌<◌}
use native.Mathlib.Omega.{arith}
use borrow.Author.Tests.{lt-ltb, le-ltb, ltb-true, not-false}
use lib.Dec.{ltb}
use lib.ListN.{length, length-append}
use Rattle.std.specs.Prelude.{Option, Some, None}
use Rattle.words.specs.Words.{chunk, same}
use Rattle.words.specs.Writes.{put}
use Rattle.words.proofs.Laws.{put_then, length_chunk, false_not_true}
use Rattle.words.proofs.Tests.{by_test}
use Rattle.format.specs.Format.{FLI_COLOR256, FLI_BRUN, FLI_COPY}
use Rattle.format.specs.Limits.{area, size_fits}
use Rattle.format.specs.declared.Size.{Size}
use Rattle.answer.specs.Answer.{done}
use Rattle.answer.specs.declared.Refusal.TheVariants.{ShortSlice, BadSize, NoRoom}
use Rattle.state.specs.State.{State, enough, front, Picture, Exact}
use Rattle.state.specs.Outcome.{lent_bytes, leaves, refuse, fitted}
use Rattle.state.proofs.Laws.{fitted_none, fitted_whole}
use Rattle.house_colour.specs.Colours.{colour_body}
use Rattle.house_colour.proofs.ReadsBack.{colour_short}
use Rattle.house_delta.specs.Delta.{delta_kind, delta_body, delta_chunk}
use Rattle.house_delta.proofs.Laws.{kind_between}
use Rattle.house_full.specs.Edges.{all_edges}
use Rattle.house_full.specs.Full.{full_chunk, full_kind}
use Rattle.house_full.proofs.Edges.{full_edges}
use Rattle.house_full.proofs.Laws.{sized_small, kind_copy}
use Rattle.house_full.proofs.FullLeast.{full_shortest}
use Rattle.house_frame.specs.House.{colour_chunk, picture_chunk, changed, house_chunks, framed, house_frame, colour_chunk_most, picture_most, frame_most}
use Rattle.house_frame.specs.Plans.{sized, planned, plan_count, plan_size, OfBrun, colour_plan, delta_plan, shorter_plan, picture_plan, header_bytes}
use Rattle.house_frame.specs.Writing.{write_frame}
use Rattle.house_frame.specs.declared.ChunkPlan.{ChunkPlan}
use Rattle.house_frame.specs.declared.DeltaPlan.{DeltaPlan}

-- bytes stored, and the sub-chunks that they are

pub put_as : (d e v z : List ℕ) (at : ℕ) → z ≡ v → e ≡ put d at v → e ≡ put d at z
put_as d e v z at x y = y ∙ ap (put d at) (sym x)

-- sub-chunks one after the other

flatten_one : (c : List ℕ) → flatten (c ∷ []) ≡ c
unfolding flatten
flatten_one c = append-nil c

pub flatten_append : (a b : List (List ℕ)) → flatten (a ++ b) ≡ flatten a ++ flatten b
unfolding flatten
flatten_append [] b = refl
flatten_append (x ∷ a) b = ap (λ (l : List ℕ). x ++ l) (flatten_append a b) ∙ sym (append_assoc x (flatten a) (flatten b))

-- a sub-chunk c, or none where t holds, and its plan

-- of so many sub-chunks and bytes are subs: at most one and at most m
pub record Counted (subs : List (List ℕ)) (m c n : ℕ) : Type 0 where
  pub chunks : c ≡ length subs
  pub size : n ≡ length (flatten subs)
  pub one : c ≤ 1
  pub short : n ≤ m

-- the same of a plan
abbrev Planning : List (List ℕ) → ℕ → Option ChunkPlan → Type 0
Planning subs m r = Counted subs m (plan_count r) (plan_size r)

plan_counted : (t : Bool) (c : List ℕ) (m k : ℕ) → length c ≤ m → Planning (cond t [] (c ∷ [])) m (cond t None (Some (planned k c)))
unfolding flatten
plan_counted true c m k l = record { chunks = refl; size = refl; one = omega arith; short = omega arith }
plan_counted false c m k l = record { chunks = refl; size = sym (ap length (flatten_one c)); one = omega arith; short = l }

plan_none : (t : Bool) (c : List ℕ) (x : ChunkPlan) → None ≡ cond t None (Some x) → flatten (cond t [] (c ∷ [])) ≡ []
unfolding flatten
plan_none true c x is = refl
plan_none false c x is = cc

plan_some : (t : Bool) (c : List ℕ) (r x : ChunkPlan) → Some r ≡ cond t None (Some x) → (r ≡ x) × (flatten (cond t [] (c ∷ [])) ≡ c)
plan_some true c r x is = cc
plan_some false c r x is = let e : r ≡ x = cc in (e, flatten_one c)

-- the colour chunk

-- r plans a colour chunk
pub record ColourPlanned (p q : List ℕ) (r : ChunkPlan) : Type 0 where
  pub size : r.size ≡ 6 + length (colour_body p q)
  pub bytes : flatten (changed p q (colour_chunk p q)) ≡ chunk FLI_COLOR256 (colour_body p q)

module _ (p q : List ℕ) where
  colour_length : length (colour_chunk p q) ≡ 6 + length (colour_body p q)
  unfolding colour_chunk
  colour_length = length_chunk FLI_COLOR256 (colour_body p q)

  pub colour_same : same p q ≡ true → None ≡ colour_plan p q
  unfolding colour_plan
  colour_same e = rw e

  pub colour_other : same p q ≡ false → (n : ℕ) → n ≡ length (colour_body p q) → Some (sized FLI_COLOR256 (6 + n)) ≡ colour_plan p q
  unfolding colour_plan
  colour_other e n i = rw e (ap (λ (y : ℕ). Some (sized FLI_COLOR256 y)) (omega (arith, colour_length)))

  colour_measured : length p ≡ 768 → length q ≡ 768 → Planning (changed p q (colour_chunk p q)) colour_chunk_most (colour_plan p q)
  unfolding colour_plan
  colour_measured i j =
      plan_counted (same p q) (colour_chunk p q) colour_chunk_most FLI_COLOR256 (omega (arith, colour_length, colour_short p q i j))

module _ (p q : List ℕ) {r : Option ChunkPlan} (f : r ≡ colour_plan p q) where
  pub colour_counted : length p ≡ 768 → length q ≡ 768 → Planning (changed p q (colour_chunk p q)) colour_chunk_most r
  colour_counted i j = rw f (colour_measured p q i j)

  pub colour_none : r ≡ None → flatten (changed p q (colour_chunk p q)) ≡ []
  unfolding colour_plan
  colour_none e = plan_none (same p q) (colour_chunk p q) (planned FLI_COLOR256 (colour_chunk p q)) (sym e ∙ f)

  pub colour_planned : (c : ChunkPlan) → r ≡ Some c → ColourPlanned p q c
  unfolding colour_plan colour_chunk
  colour_planned c e =
      let s = plan_some (same p q) (colour_chunk p q) c (planned FLI_COLOR256 (colour_chunk p q)) (sym e ∙ f) in
      record { size = ap (λ (y : ChunkPlan). y.size) s.0 ∙ colour_length p q; bytes = s.1 }

-- the picture chunk

-- the full chunk of a picture
abbrev full : Size → List ℕ → List ℕ
full z q = full_chunk z.width z.height q

-- r plans a delta
pub record DeltaPlanned (z : Size) (p q : List ℕ) (r : ChunkPlan) : Type 0 where
  pub size : r.size ≡ 6 + length (delta_body z p q)
  pub bytes : flatten (changed p q (picture_chunk z p q)) ≡ chunk (delta_kind z.format) (delta_body z p q)

-- r plans a full chunk
pub record FullPlanned (z : Size) (p q : List ℕ) (r : ChunkPlan) : Type 0 where
  pub kind : r.kind ≡ full_kind z.width z.height q
  pub size : r.size ≡ length (full z q)
  pub bytes : flatten (changed p q (picture_chunk z p q)) ≡ full z q

-- a full chunk is no delta
full_kind_lem : (z : Size) (q : List ℕ) → full_kind z.width z.height q ≡ delta_kind z.format → ⊥
full_kind_lem z q e =
    let low = (kind_between z.format).1 in
    omega (arith, low, (kind_copy z.width z.height q {k = full_kind z.width z.height q} refl (λ x. omega (arith, low)) (λ x. omega (arith, low))).kind)

-- the delta or the full chunk, whichever is shorter

module _ (z : Size) (q : List ℕ) (d : ℕ) where
  pub shorter_delta : d < length (full z q) → (k : ℕ) → k ≡ delta_kind z.format → sized k d ≡ shorter_plan z q d
  unfolding shorter_plan
  shorter_delta l k i = rw (lt-ltb d (length (full z q)) l, i)

  pub shorter_full : length (full z q) ≤ d → (k f : ℕ) → k ≡ full_kind z.width z.height q → f ≡ length (full z q) → sized k f ≡ shorter_plan z q d
  unfolding shorter_plan
  shorter_full l k f i j = rw (le-ltb d (length (full z q)) l) (ap₂ sized i j)

  -- of the two only the full chunk's kind is BRUN
  pub shorter_brun : {r : ChunkPlan} → r ≡ shorter_plan z q d → r.kind ≡ FLI_BRUN → full_kind z.width z.height q ≡ FLI_BRUN
  unfolding shorter_plan
  shorter_brun {r} f k = by_case (ltb d (length (full z q))) f
    where
      by_case : (t : Bool) → r ≡ cond t (sized (delta_kind z.format) d) (planned (full_kind z.width z.height q) (full z q))
          → full_kind z.width z.height q ≡ FLI_BRUN
      by_case true i = absurd (omega (arith, (kind_between z.format).1, ap (λ (x : ChunkPlan). x.kind) i))
      by_case false i = sym (ap (λ (x : ChunkPlan). x.kind) i) ∙ k

module _ (z : Size) (p q : List ℕ) where
  delta_length : length (delta_chunk z p q) ≡ 6 + length (delta_body z p q)
  unfolding delta_chunk
  delta_length = length_chunk (delta_kind z.format) (delta_body z p q)

  -- the plan where there is a change; d: whether the delta is used
  abbrev used : Bool → ChunkPlan
  used d = cond d (planned (delta_kind z.format) (delta_chunk z p q)) (planned (full_kind z.width z.height q) (full z q))

  -- whether the delta is strictly shorter than the full chunk
  abbrev shorter : Bool
  shorter = ltb (length (delta_chunk z p q)) (length (full z q))

  -- the delta's plan

  pub delta_none : same p q ≡ true → record { chunk = None; search = false } ≡ delta_plan z p q
  unfolding delta_plan
  delta_none e = rw e

  pub delta_made : same p q ≡ false → (d k : ℕ) (b : Bool) → d ≡ length (delta_body z p q) → k ≡ delta_kind z.format → b ≡ ltb d (all_edges z.width z.height q)
      → record { chunk = Some (sized k (6 + d)); search = not b } ≡ delta_plan z p q
  unfolding delta_plan
  delta_made e d k b i l j =
      rw (e, l)
      (ap₂ (λ (n : ℕ) (s : Bool). record { chunk = Some (sized (delta_kind z.format) n); search = not s }) (omega (arith, delta_length))
      (j ∙ ap (λ (n : ℕ). ltb n (all_edges z.width z.height q)) i))

  abbrev sought : DeltaPlan
  sought = record {
    chunk = Some (planned (delta_kind z.format) (delta_chunk z p q));
    search = not (ltb (length (delta_body z p q)) (all_edges z.width z.height q));
  }

  -- where no row is searched it is the picture's plan, and no BRUN chunk's
  pub delta_taken : {r : DeltaPlan} → r ≡ delta_plan z p q → r.search ≡ false → (r.chunk ≡ picture_plan z p q) × (OfBrun r.chunk → ⊥)
  unfolding delta_plan picture_plan
  delta_taken {r} f s = by_case (same p q) f
    where
      by_case : (t : Bool) → r ≡ cond t (record { chunk = None; search = false }) sought
          → (r.chunk ≡ cond t None (Some (used shorter))) × (OfBrun r.chunk → ⊥)
      by_case true i = let e = ap (λ (x : DeltaPlan). x.chunk) i in (e, λ k. subst OfBrun e k)
      by_case false i =
          let e = ltb-true _ _ (not-false _ (sym (ap (λ (x : DeltaPlan). x.search) i) ∙ s)) in
          let l = full_edges z.width z.height q (length (delta_body z p q)) e in (
            ap (λ (x : DeltaPlan). x.chunk) i ∙ ap (λ (d : Bool). Some (used d))
                (sym (lt-ltb (length (delta_chunk z p q)) (length (full z q)) (omega (arith, delta_length)))),
            λ k. let b : delta_kind z.format ≡ FLI_BRUN = subst OfBrun (ap (λ (x : DeltaPlan). x.chunk) i) k in omega (arith, (kind_between z.format).1),
          )

  -- where rows are searched there is a change
  pub delta_sought : {r : DeltaPlan} → r ≡ delta_plan z p q → r.search ≡ true → (same p q ≡ false) × (plan_size r.chunk ≡ length (delta_chunk z p q))
  unfolding delta_plan
  delta_sought {r} f s = by_case (same p q) f
    where
      by_case : (t : Bool) → r ≡ cond t (record { chunk = None; search = false }) sought → (t ≡ false) × (plan_size r.chunk ≡ length (delta_chunk z p q))
      by_case true i = false_not_true (sym (ap (λ (x : DeltaPlan). x.search) i) ∙ s)
      by_case false i = (refl, ap (λ (x : DeltaPlan). plan_size x.chunk) i)

  -- the plan with the delta's bytes in hand is the picture's
  pub shorter_picture : same p q ≡ false → (d : ℕ) → d ≡ length (delta_chunk z p q) → Some (shorter_plan z q d) ≡ picture_plan z p q
  unfolding shorter_plan picture_plan
  shorter_picture e d i = rw (e, i)

  pub full_short : length (full z q) ≤ 6 + length q
  full_short = omega (arith, (full_shortest z.width z.height q).1, length_chunk FLI_COPY q)

  -- the picture chunk is no longer than the full one
  pub picture_short : length (picture_chunk z p q) ≤ length (full z q)
  unfolding picture_chunk
  picture_short =
      by_test (λ d. length (cond d (delta_chunk z p q) (full z q)) ≤ length (full z q)) shorter
      (λ e. omega (arith, ltb-true (length (delta_chunk z p q)) (length (full z q)) e)) (λ e. omega arith)

  picture_measured : Picture z.width z.height q → Planning (changed p q (picture_chunk z p q)) picture_most (picture_plan z p q)
  unfolding picture_plan picture_chunk
  picture_measured s =
      by_test (λ d. Planning (changed p q (cond d (delta_chunk z p q) (full z q))) picture_most (cond (same p q) None (Some (used d)))) shorter
      (λ e. plan_counted (same p q) (delta_chunk z p q) picture_most (delta_kind z.format)
      (omega (arith, sized_small s, full_short, ltb-true (length (delta_chunk z p q)) (length (full z q)) e)))
      (λ e. plan_counted (same p q) (full z q) picture_most (full_kind z.width z.height q) (omega (arith, sized_small s, full_short)))

module _ (z : Size) (p q : List ℕ) {r : Option ChunkPlan} (f : r ≡ picture_plan z p q) where
  pub picture_counted : Picture z.width z.height q → Planning (changed p q (picture_chunk z p q)) picture_most r
  picture_counted s = rw f (picture_measured z p q s)

  pub picture_none : r ≡ None → flatten (changed p q (picture_chunk z p q)) ≡ []
  unfolding picture_plan
  picture_none e = plan_none (same p q) (picture_chunk z p q) (used z p q (shorter z p q)) (sym e ∙ f)

  module _ (c : ChunkPlan) (e : r ≡ Some c) where
    some : (c ≡ used z p q (shorter z p q)) × (flatten (changed p q (picture_chunk z p q)) ≡ picture_chunk z p q)
    unfolding picture_plan
    some = plan_some (same p q) (picture_chunk z p q) c (used z p q (shorter z p q)) (sym e ∙ f)

    pub delta_planned : c.kind ≡ delta_kind z.format → DeltaPlanned z p q c
    unfolding picture_chunk delta_chunk
    delta_planned k =
        by_test (λ d. c ≡ used z p q d → flatten (changed p q (picture_chunk z p q)) ≡ cond d (delta_chunk z p q) (full z q) → DeltaPlanned z p q c)
        (shorter z p q)
        (λ _ i j. record { size = ap (λ (y : ChunkPlan). y.size) i ∙ delta_length z p q; bytes = j })
        (λ _ i j. absurd (full_kind_lem z q (sym (ap (λ (y : ChunkPlan). y.kind) i) ∙ k))) some.0 some.1

    pub full_planned : (c.kind ≡ delta_kind z.format → ⊥) → FullPlanned z p q c
    unfolding picture_chunk
    full_planned k =
        by_test (λ d. c ≡ used z p q d → flatten (changed p q (picture_chunk z p q)) ≡ cond d (delta_chunk z p q) (full z q) → FullPlanned z p q c)
        (shorter z p q)
        (λ _ i j. absurd (k (ap (λ (y : ChunkPlan). y.kind) i)))
        (λ _ i j. record { kind = ap (λ (y : ChunkPlan). y.kind) i; size = ap (λ (y : ChunkPlan). y.size) i; bytes = j }) some.0 some.1

-- the whole frame

pub header_length : (size count : ℕ) → length (header_bytes size count) ≡ 16
unfolding header_bytes
header_length size count = refl

module _ {a b : List (List ℕ)} {m n c₁ c₂ s₁ s₂ : ℕ} (x : Counted a m c₁ s₁) (y : Counted b n c₂ s₂) where
  -- a frame of the sub-chunks a and b: its header and a, and then b
  framed_parts : framed (a ++ b) ≡ (header_bytes (16 + s₁ + s₂) (c₁ + c₂) ++ flatten a) ++ flatten b
  unfolding framed header_bytes
  framed_parts =
      let size : 16 + length (flatten (a ++ b)) ≡ 16 + s₁ + s₂ =
      omega (arith, ap length (flatten_append a b), length-append (flatten a) (flatten b), x.size, y.size) in
      let count : length (a ++ b) ≡ c₁ + c₂ = omega (arith, length-append a b, x.chunks, y.chunks) in
      ap₂ (λ (i j : ℕ). header_bytes i j ++ flatten (a ++ b)) size count
      ∙ ap (λ (l : List ℕ). header_bytes (16 + s₁ + s₂) (c₁ + c₂) ++ l) (flatten_append a b)
      ∙ sym (append_assoc (header_bytes (16 + s₁ + s₂) (c₁ + c₂)) (flatten a) (flatten b))

  framed_length : length (framed (a ++ b)) ≡ 16 + s₁ + s₂
  framed_length =
      let f = header_bytes (16 + s₁ + s₂) (c₁ + c₂) in
      omega (
        arith,
        ap length framed_parts,
        length-append (f ++ flatten a) (flatten b),
        length-append f (flatten a),
        header_length (16 + s₁ + s₂) (c₁ + c₂),
        x.size,
        y.size,
      )

  -- the three stored one after the other
  framed_stored : (d e f g : List ℕ) → 16 + s₁ + s₂ ≤ length d → e ≡ put d 0 (header_bytes (16 + s₁ + s₂) (c₁ + c₂))
      → f ≡ put e 16 (flatten a) → g ≡ put f (16 + s₁) (flatten b) → g ≡ put d 0 (framed (a ++ b))
  framed_stored d e f g room i j k =
      let v = header_bytes (16 + s₁ + s₂) (c₁ + c₂) in
      let l = header_length (16 + s₁ + s₂) (c₁ + c₂) in
      let first : f ≡ put d 0 (v ++ flatten a) = put_then d e f v (flatten a) 0 16 l (omega arith) i j in
      let both : length (v ++ flatten a) ≡ 16 + s₁ = omega (arith, length-append v (flatten a), x.size) in
      let there : 16 + s₁ ≡ 0 + (16 + s₁) = omega arith in
      put_then d f g (v ++ flatten a) (flatten b) 0 (16 + s₁) both (omega arith) first (k ∙ ap (λ (t : ℕ). put f t (flatten b)) there)
      ∙ ap (put d 0) (sym framed_parts)

-- the house frame is small
pub house_short : {z : Size} {s t : State} → Exact z s → Exact z t → length (house_frame z s t) ≤ frame_most
unfolding house_frame house_chunks
house_short {z} {s} {t} x y =
    let a = colour_measured s.palette t.palette x.colours y.colours in
    let b = picture_measured z s.picture t.picture y.picture in
    omega (arith, framed_length a b, a.short, b.short)

-- two states, and the plans of what leads from one to the other
pub record Planned (z : Size) (s t : State) (a b : Option ChunkPlan) : Type 0 where
  pub previous : Exact z s
  pub next : Exact z t
  pub colours : a ≡ colour_plan s.palette t.palette
  pub picture : b ≡ picture_plan z s.picture t.picture

module _ {z : Size} {s t : State} {a b : Option ChunkPlan} (p : Planned z s t a b) where
  pub colours_in : (count size : ℕ) → count ≡ plan_count a → size ≡ plan_size a
      → Counted (changed s.palette t.palette (colour_chunk s.palette t.palette)) colour_chunk_most count size
  colours_in count size e f = rw (e, f) (colour_counted s.palette t.palette p.colours p.previous.colours p.next.colours)

  pub picture_in : (count size : ℕ) → count ≡ plan_count b → size ≡ plan_size b
      → Counted (changed s.picture t.picture (picture_chunk z s.picture t.picture)) picture_most count size
  picture_in count size e f = rw (e, f) (picture_counted z s.picture t.picture p.picture p.next.picture)

module _ (z : Size) (s t : State) {j k m n : ℕ} (x : Counted (changed s.palette t.palette (colour_chunk s.palette t.palette)) colour_chunk_most j m)
    (y : Counted (changed s.picture t.picture (picture_chunk z s.picture t.picture)) picture_most k n) where
  pub house_none : (d : List ℕ) → length d < 16 + m + n → refuse NoRoom 0 (lent_bytes d) ≡ fitted (house_frame z s t) d
  unfolding house_frame house_chunks
  house_none d l = fitted_none (house_frame z s t) d (16 + m + n) (framed_length x y) l

  pub house_stored : (d d₁ d₂ d₃ : List ℕ) → 16 + m + n ≤ length d → d₁ ≡ put d 0 (header_bytes (16 + m + n) (j + k))
      → d₂ ≡ put d₁ 16 (flatten (changed s.palette t.palette (colour_chunk s.palette t.palette)))
      → d₃ ≡ put d₂ (16 + m) (flatten (changed s.picture t.picture (picture_chunk z s.picture t.picture)))
      → leaves (done ((16 + m + n) ∷ [])) (lent_bytes d₃) ≡ fitted (house_frame z s t) d
  unfolding house_frame house_chunks
  house_stored d d₁ d₂ d₃ room f g h =
      fitted_whole (house_frame z s t) d (16 + m + n) (framed_length x y) d₃ room
      (framed_stored x y d d₁ d₂ d₃ room f g h)

-- the checks of a call

module _ (z : Size) (previous next : State) (out : List ℕ) where
  pub write_size : size_fits z ≡ false → refuse BadSize 0 (lent_bytes out) ≡ write_frame z previous next out
  unfolding write_frame
  write_size e = rw e

  module _ (e : size_fits z ≡ true) where
    pub write_previous : enough (area z) previous ≡ false → refuse ShortSlice 0 (lent_bytes out) ≡ write_frame z previous next out
    unfolding write_frame
    write_previous f = rw (e, f)

    pub write_next : enough (area z) previous ≡ true → enough (area z) next ≡ false → refuse ShortSlice 0 (lent_bytes out) ≡ write_frame z previous next out
    unfolding write_frame
    write_next f g = rw (e, f, g)

    pub write_fitted : enough (area z) previous ≡ true → enough (area z) next ≡ true
        → fitted (house_frame z (front (area z) previous) (front (area z) next)) out ≡ write_frame z previous next out
    unfolding write_frame
    write_fitted f g = rw (e, f, g) refl
