-- Laws of the definitions in specs/Full.antt: the BRUN body row by row, the test for black, and which chunk is taken.
use mathlib.Core.Path.{◌≡◌, refl, sym, ap, ap₂, ◌∙◌}
use mathlib.Core.List.{List, [], ◌∷◌, ◌++◌, append-nil}
use mathlib.Core.Bool.{Bool, true, false, cond, ◌&&◌}
use Prim.Native.Nat.{ℕ, zero, suc, ◌+◌, ◌-◌, ◌*◌, ◌≤◌, ◌<◌, min}
use native.Mathlib.Omega.{arith}
use borrow.Author.Tests.{le-leb, lt-leb, leb-true, leb-false}
use lib.Dec.{eqb, leb}
use Rattle.std.specs.List.{list_all}
use lib.ListN.{length, take, drop, set, replicate, length-append, length-drop}
use lib.Seq.{length-take-le, drop-drop, take_at, drop_at, drop-length}
use Rattle.words.specs.Words.{same, chunk}
use Rattle.words.specs.Writes.{put}
use Rattle.words.proofs.Laws.{put_append, put_before, put_nil, put_one, put_front, length_put, span_back, length_chunk}
use Rattle.format.specs.Limits.{max_area}
use Rattle.format.specs.Format.{FLI_BLACK, FLI_BRUN, FLI_COPY}
use Rattle.house_rows.specs.Row.{house, house_bytes}
use Rattle.house_rows.proofs.RowRule.{house_size}
use Rattle.house_rows.proofs.Steps.{size_up}
use Rattle.house_rows.proofs.Types.{length_types}
use Rattle.house_rows.specs.Search.{types}
use Rattle.state.specs.State.{Picture}
use Rattle.house_full.specs.Plan.{row_types, full_plan}
use Rattle.house_full.specs.Full.{brun_row, brun_body, all_zero, shorter, full_chunk, full_kind, full_body}
use Rattle.words.proofs.Tests.{by_test}

-- a size in range has few pixels
pub sized_small : {w h : ℕ} {q : List ℕ} → Picture w h q → length q ≤ max_area
sized_small s = omega (arith, s.pixels, s.size.area)

-- a row and a body

pub length_row : (s : List ℕ) → length (brun_row s) ≡ 1 + length (house_bytes s)
unfolding brun_row
length_row s = omega arith

pub row_small : (s : List ℕ) → 1 ≤ length s → length (brun_row s) ≤ 3 * length s
row_small s h = omega (arith, length_row s, house_size s, size_up s)

pub body_none : (w : ℕ) (q : List ℕ) → brun_body w 0 q ≡ []
unfolding brun_body
body_none w q = refl

pub body_more : (w h : ℕ) (q : List ℕ) → brun_body w (suc h) q ≡ brun_row (take w q) ++ brun_body w h (drop w q)
unfolding brun_body
body_more w h q = refl

-- the row from column `from` on, as the range has it
pub row_at : (w from : ℕ) (q : List ℕ) → take (from + w - from) (drop from q) ≡ take w (drop from q)
row_at w from q = let e : from + w - from ≡ w = omega arith in ap (λ (n : ℕ). take n (drop from q)) e

pub row_length : (w from : ℕ) (q : List ℕ) → from + w ≤ length q → length (take (from + w - from) (drop from q)) ≡ w
row_length w from q h = ap length (row_at w from q) ∙ length-take-le w (drop from q) (simp length-drop (omega arith))

-- where rows are left: the next one, and the rest
module _ (w : ℕ) (q : List ℕ) (from left rest : ℕ) (e : left ≡ suc rest) where
  pub rows_left : from + w * left ≡ length q → from + w + w * rest ≡ length q
  rows_left h = omega (arith, ap (λ (k : ℕ). w * k) e)

  pub row_left : from + w * left ≡ length q → from + w ≤ length q
  row_left h = omega (arith, rows_left h)

  pub next_row : brun_body w left (drop from q) ≡ brun_row (take (from + w - from) (drop from q)) ++ brun_body w rest (drop (from + w) q)
  next_row =
      ap (λ (k : ℕ). brun_body w k (drop from q)) e ∙ body_more w rest (drop from q)
      ∙ ap₂ (λ (s r : List ℕ). brun_row s ++ brun_body w rest r) (sym (row_at w from q)) (drop-drop w from q)

  pub next_length : length (brun_body w left (drop from q))
      ≡ length (brun_row (take (from + w - from) (drop from q))) + length (brun_body w rest (drop (from + w) q))
  next_length = ap length next_row ∙ length-append (brun_row (take (from + w - from) (drop from q))) (brun_body w rest (drop (from + w) q))

-- a store of as many bytes as there are
put_whole : (d v : List ℕ) → length v ≡ length d → put d 0 v ≡ v
put_whole d v e = put_front d v ∙ ap (λ (x : List ℕ). v ++ x) (ap (λ (n : ℕ). drop n d) e ∙ drop-length d) ∙ append-nil v

-- the plan of a picture's rows

pub types_none : (w : ℕ) (q : List ℕ) → row_types w 0 q ≡ []
unfolding row_types
types_none w q = refl

pub types_more : (w h : ℕ) (q : List ℕ) → row_types w (suc h) q ≡ types (take w q) ++ row_types w h (drop w q)
unfolding row_types
types_more w h q = refl

pub types_length : (w h : ℕ) (q : List ℕ) → w * h ≤ length q → length (row_types w h q) ≡ w * h
types_length w zero q l = ap length (types_none w q) ∙ omega arith
types_length w (suc h) q l =
    omega (
      arith,
      ap length (types_more w h q),
      length-append (types (take w q)) (row_types w h (drop w q)),
      length_types (take w q),
      length-take-le w q (omega arith),
      types_length w h (drop w q) (simp length-drop (omega arith)),
    )

pub plan_length : {w h : ℕ} {q : List ℕ} → Picture w h q → length (row_types w h q) ≡ length q
plan_length {w} {h} {q} s = types_length w h q (omega (arith, s.pixels)) ∙ sym s.pixels

-- where rows are left: what is planned of the next one, and of the rest
module _ (w : ℕ) (q : List ℕ) (from left rest : ℕ) (e : left ≡ suc rest) where
  pub next_types : row_types w left (drop from q) ≡ types (take (from + w - from) (drop from q)) ++ row_types w rest (drop (from + w) q)
  next_types =
      ap (λ (k : ℕ). row_types w k (drop from q)) e ∙ types_more w rest (drop from q)
      ∙ ap₂ (λ (s r : List ℕ). types s ++ row_types w rest r) (sym (row_at w from q)) (drop-drop w from q)

-- measuring: size is that of the rows before pixel `from`, left rows are left, and with their plans the plan is whole
pub record Measuring (w h : ℕ) (q plan₀ plan : List ℕ) (size from left : ℕ) : Type 0 where
  pub sized : size + length (brun_body w left (drop from q)) ≡ length (brun_body w h q)
  pub place : from + w * left ≡ length q
  pub small : size ≤ 3 * from
  pub long : length plan ≡ length q
  pub noted : put plan from (row_types w left (drop from q)) ≡ put plan₀ 0 (row_types w h q)

module _ {w h : ℕ} {q plan₀ plan : List ℕ} {size from left : ℕ} (m : Measuring w h q plan₀ plan size from left) where
  module _ (rest : ℕ) (e : left ≡ suc rest) where
    pub measured_in : from + w ≤ length q
    measured_in = row_left w q from left rest e m.place

    pub measuring_more : 1 ≤ w → (n : ℕ) (x : List ℕ) → n ≡ length (house_bytes (take (from + w - from) (drop from q)))
        → x ≡ types (take (from + w - from) (drop from q))
        → Measuring w h q plan₀ (take from plan ++ (x ++ drop (from + w - from) (drop from plan))) (size + (1 + n)) (from + w) rest
    measuring_more some n x p t =
        let s = take (from + w - from) (drop from q) in
        let z = row_types w rest (drop (from + w) q) in
        let i = row_length w from q measured_in in
        let k : length (types s) ≡ w = length_types s ∙ i in
        let stored = span_back plan x (types s) from (from + w) w t k refl in
        record {
          sized = omega (arith, m.sized, next_length w q from left rest e, length_row s);
          place = rows_left w q from left rest e m.place;
          small = omega (arith, m.small, row_small s (omega arith), length_row s);
          long = ap length stored ∙ length_put plan from (types s) (omega (arith, measured_in, m.long)) ∙ m.long;
          noted = ap (λ (d : List ℕ). put d (from + w) z) stored ∙ sym (put_append plan from (types s) z w k (omega (arith, measured_in, m.long)))
              ∙ ap (λ (y : List ℕ). put plan from y) (sym (next_types w q from left rest e)) ∙ m.noted;
        }

  module _ (e : left ≡ 0) where
    pub measuring_done : size ≡ length (brun_body w h q)
    measuring_done = omega (arith, m.sized, ap (λ (k : ℕ). length (brun_body w k (drop from q))) e, ap length (body_none w (drop from q)))

    pub measured_types : Picture w h q → length plan₀ ≡ length q → plan ≡ row_types w h q
    measured_types s long =
        let n : row_types w left (drop from q) ≡ [] = ap (λ (k : ℕ). row_types w k (drop from q)) e ∙ types_none w (drop from q) in
        sym (put_nil plan from) ∙ ap (λ (x : List ℕ). put plan from x) (sym n) ∙ m.noted ∙ put_whole plan₀ (row_types w h q) (plan_length s ∙ sym long)

-- writing: what is left, put at here, gives the whole, and what is left of the plan is that of the rows left
pub record Filling (w h : ℕ) (q plan out₀ : List ℕ) (at : ℕ) (out : List ℕ) (here from left : ℕ) : Type 0 where
  pub stored : put out here (brun_body w left (drop from q)) ≡ put out₀ at (brun_body w h q)
  pub long : length out ≡ length out₀
  pub room : at + length (brun_body w h q) ≤ length out₀
  pub reached : here + length (brun_body w left (drop from q)) ≡ at + length (brun_body w h q)
  pub place : from + w * left ≡ length q
  pub long_plan : length plan ≡ length q
  pub planned : drop from plan ≡ row_types w left (drop from q)

pub filling_first : {w h : ℕ} {q plan : List ℕ} (out : List ℕ) (at : ℕ) → Picture w h q → plan ≡ row_types w h q → at + length (brun_body w h q) ≤ length out
    → Filling w h q plan out at out at 0 h
filling_first out at s p r = record {
  stored = refl;
  long = refl;
  room = r;
  reached = refl;
  place = omega (arith, s.pixels);
  long_plan = ap length p ∙ plan_length s;
  planned = p;
}

module _ {w h : ℕ} {q plan out₀ out : List ℕ} {at here from left : ℕ} (f : Filling w h q plan out₀ at out here from left) where
  module _ (rest : ℕ) (e : left ≡ suc rest) where
    pub filled_in : from + w ≤ length q
    filled_in = row_left w q from left rest e f.place

    pub filled_room : here + length (brun_row (take (from + w - from) (drop from q))) ≤ length out
    filled_room = omega (arith, next_length w q from left rest e, f.room, f.reached, f.long)

    -- what is planned of the next row
    planned_next : drop from plan ≡ types (take (from + w - from) (drop from q)) ++ row_types w rest (drop (from + w) q)
    planned_next = f.planned ∙ next_types w q from left rest e

    planned_length : length (types (take (from + w - from) (drop from q))) ≡ w
    planned_length = length_types (take (from + w - from) (drop from q)) ∙ row_length w from q filled_in

    pub filled_types : take (from + w - from) (drop from plan) ≡ types (take (from + w - from) (drop from q))
    filled_types =
        ap (λ (x : List ℕ). take (from + w - from) x) planned_next
        ∙ take_at (types (take (from + w - from) (drop from q))) (row_types w rest (drop (from + w) q)) (from + w - from) (planned_length ∙ omega arith)

    pub filling_more : (n : ℕ) (out' : List ℕ) → n ≡ length (brun_row (take (from + w - from) (drop from q)))
        → out' ≡ put out here (brun_row (take (from + w - from) (drop from q)))
        → Filling w h q plan out₀ at out' (here + n) (from + w) rest
    filling_more n out' p d =
        let v = brun_row (take (from + w - from) (drop from q)) in
        let z = brun_body w rest (drop (from + w) q) in
        let r = filled_room in
        record {
          stored = ap (λ (o : List ℕ). put o (here + n) z) d ∙ sym (put_append out here v z n (sym p) (omega arith))
              ∙ ap (λ (x : List ℕ). put out here x) (sym (next_row w q from left rest e)) ∙ f.stored;
          long = ap length d ∙ length_put out here v r ∙ f.long;
          room = f.room;
          reached = omega (arith, f.reached, next_length w q from left rest e);
          place = rows_left w q from left rest e f.place;
          long_plan = f.long_plan;
          planned = sym (drop-drop w from plan) ∙ ap (λ (x : List ℕ). drop w x) planned_next
              ∙ drop_at (types (take (from + w - from) (drop from q))) (row_types w rest (drop (from + w) q)) w planned_length;
        }

  pub filling_done : left ≡ 0 → (here ≡ at + length (brun_body w h q)) × (out ≡ put out₀ at (brun_body w h q))
  filling_done e =
      let n : brun_body w left (drop from q) ≡ [] = ap (λ (k : ℕ). brun_body w k (drop from q)) e ∙ body_none w (drop from q) in
      (omega (arith, f.reached, ap length n), sym (put_nil out here) ∙ ap (λ (x : List ℕ). put out here x) (sym n) ∙ f.stored)

-- a row's packet count, stored in front of its packets
pub put_row : (out s out' : List ℕ) (at n c : ℕ) → n ≡ length (house s) → out' ≡ put out (at + 1) (house_bytes s) → at + 1 + length (house_bytes s) ≤ length out
    → c ≡ min 255 n → set out' at c ≡ put out at (brun_row s)
unfolding brun_row
put_row out s out' at n c e p room b =
    let l : length out' ≡ length out = ap length p ∙ length_put out (at + 1) (house_bytes s) room in
    put_one out' at c (omega arith)
    ∙ ap₂ (λ (o : List ℕ) (x : ℕ). put o at (x ∷ [])) p (b ∙ ap (min 255) e)
    ∙ put_before out (min 255 (length (house s)) ∷ []) (house_bytes s) at 1 refl (omega arith)

-- a picture that is all 0: each of its pixels is
pub zero_each : (q : List ℕ) → list_all (λ x. eqb x 0) q ≡ all_zero q
unfolding all_zero same
zero_each [] = refl
zero_each (x ∷ q) = by_test (λ b. (b && list_all (λ x. eqb x 0) q) ≡ cond b (same q (replicate (length q) 0)) false) (eqb x 0)
    (λ e. zero_each q) (λ e. refl)

-- what the measure leaves of the plan
module _ (w h : ℕ) (q p : List ℕ) where
  pub plan_kept : all_zero q ≡ true → p ≡ full_plan w h q p
  unfolding full_plan
  plan_kept z = rw z

  pub plan_made : {r : List ℕ} → all_zero q ≡ false → r ≡ row_types w h q → r ≡ full_plan w h q p
  unfolding full_plan
  plan_made z e = rw z e

-- the shorter of two

pub shorter_first : (a b : List ℕ) → length a ≤ length b → shorter a b ≡ a
unfolding shorter
shorter_first a b h = simp (le-leb (length a) (length b) h)

pub shorter_second : (a b : List ℕ) → length b < length a → shorter a b ≡ b
unfolding shorter
shorter_second a b h = simp (lt-leb (length a) (length b) h)

-- which chunk is taken

-- the full chunk has the kind k and the body b
pub record Taken (w h : ℕ) (q : List ℕ) (k : ℕ) (b : List ℕ) : Type 0 where
  pub kind : full_kind w h q ≡ k
  pub body : full_body w h q ≡ b
  pub whole : full_chunk w h q ≡ chunk k b

module _ (w h : ℕ) (q : List ℕ) where
  other : List ℕ
  other = shorter (chunk FLI_BRUN (brun_body w h q)) (chunk FLI_COPY q)

  brun_other : length (brun_body w h q) ≤ length q → other ≡ chunk FLI_BRUN (brun_body w h q)
  unfolding other
  brun_other l = shorter_first (chunk FLI_BRUN (brun_body w h q)) (chunk FLI_COPY q)
      (omega (arith, length_chunk FLI_BRUN (brun_body w h q), length_chunk FLI_COPY q))

  copy_other : length q < length (brun_body w h q) → other ≡ chunk FLI_COPY q
  unfolding other
  copy_other l = shorter_second (chunk FLI_BRUN (brun_body w h q)) (chunk FLI_COPY q)
      (omega (arith, length_chunk FLI_BRUN (brun_body w h q), length_chunk FLI_COPY q))

  other_long : 6 ≤ length other
  other_long =
      by_test (λ b. 6 ≤ length other) (leb (length (brun_body w h q)) (length q))
      (λ e. omega (arith, ap length (brun_other (leb-true (length (brun_body w h q)) (length q) e)), length_chunk FLI_BRUN (brun_body w h q)))
      (λ e. omega (arith, ap length (copy_other (leb-false (length (brun_body w h q)) (length q) e)), length_chunk FLI_COPY q))

  pub black_taken : all_zero q ≡ true → Taken w h q FLI_BLACK []
  unfolding full_kind full_body full_chunk other
  black_taken z = record {
    kind = simp z;
    body = simp z;
    whole = simp z (shorter_first (chunk FLI_BLACK []) other (omega (arith, length_chunk FLI_BLACK [], other_long)));
  }

  module _ (z : all_zero q ≡ false) where
    pub brun_taken : length (brun_body w h q) ≤ length q → Taken w h q FLI_BRUN (brun_body w h q)
    unfolding full_kind full_body full_chunk other
    brun_taken l = record {
      kind = simp (z, le-leb (length (brun_body w h q)) (length q) l);
      body = simp (z, le-leb (length (brun_body w h q)) (length q) l);
      whole = simp z (brun_other l);
    }

    pub copy_taken : length q < length (brun_body w h q) → Taken w h q FLI_COPY q
    unfolding full_kind full_body full_chunk other
    copy_taken l = record {
      kind = simp (z, lt-leb (length (brun_body w h q)) (length q) l);
      body = simp (z, lt-leb (length (brun_body w h q)) (length q) l);
      whole = simp z (copy_other l);
    }

  by_kind : {C : Type 0} → (Taken w h q FLI_BLACK [] → C) → (Taken w h q FLI_BRUN (brun_body w h q) → C) → (Taken w h q FLI_COPY q → C) → C
  by_kind {C} black brun copy = first (all_zero q) refl
    where
      second : all_zero q ≡ false → (b : Bool) → leb (length (brun_body w h q)) (length q) ≡ b → C
      second z true e = brun (brun_taken z (leb-true (length (brun_body w h q)) (length q) e))
      second z false e = copy (copy_taken z (leb-false (length (brun_body w h q)) (length q) e))

      first : (b : Bool) → all_zero q ≡ b → C
      first true z = black (black_taken z)
      first false z = second z (leb (length (brun_body w h q)) (length q)) refl

  -- the full chunk is the chunk of its kind and its body
  pub full_taken : Taken w h q (full_kind w h q) (full_body w h q)
  full_taken =
      by_kind {C = Taken w h q (full_kind w h q) (full_body w h q)} (λ t. stated FLI_BLACK [] t) (λ t. stated FLI_BRUN (brun_body w h q) t)
      (λ t. stated FLI_COPY q t)
    where
      stated : (k : ℕ) (b : List ℕ) → Taken w h q k b → Taken w h q (full_kind w h q) (full_body w h q)
      stated k b t = record { kind = refl; body = refl; whole = t.whole ∙ sym (ap₂ chunk t.kind t.body) }

  pub full_chunk_lem : full_chunk w h q ≡ chunk (full_kind w h q) (full_body w h q)
  full_chunk_lem = full_taken.whole

  -- rows are planned where it is BRUN
  pub brun_planned : (p : List ℕ) → full_kind w h q ≡ FLI_BRUN → full_plan w h q p ≡ row_types w h q
  brun_planned p e = by_test (λ b. all_zero q ≡ b → full_plan w h q p ≡ row_types w h q) (all_zero q)
      (λ _ z. absurd (omega (arith, (black_taken z).kind))) (λ _ z. sym (plan_made w h q p z refl)) refl

  -- told by its kind
  module _ {k : ℕ} (is : k ≡ full_kind w h q) where
    pub kind_black : k ≡ FLI_BLACK → Taken w h q FLI_BLACK []
    kind_black e = by_kind {C = Taken w h q FLI_BLACK []} (λ t. t) (λ t. absurd (omega (arith, t.kind))) (λ t. absurd (omega (arith, t.kind)))

    pub kind_brun : k ≡ FLI_BRUN → Taken w h q FLI_BRUN (brun_body w h q)
    kind_brun e = by_kind {C = Taken w h q FLI_BRUN (brun_body w h q)} (λ t. absurd (omega (arith, t.kind))) (λ t. t) (λ t. absurd (omega (arith, t.kind)))

    pub kind_copy : (k ≡ FLI_BLACK → ⊥) → (k ≡ FLI_BRUN → ⊥) → Taken w h q FLI_COPY q
    kind_copy x y = by_kind {C = Taken w h q FLI_COPY q} (λ t. absurd (x (is ∙ t.kind))) (λ t. absurd (y (is ∙ t.kind))) (λ t. t)

pub taken_size : {w h : ℕ} {q : List ℕ} {k : ℕ} {b : List ℕ} → Taken w h q k b → length (full_chunk w h q) ≡ 6 + length b
taken_size {k = k} {b = b} t = ap length t.whole ∙ length_chunk k b
