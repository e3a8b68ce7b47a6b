-- Laws of units: by their place, how many are equal, how many stand before a repeat.
use mathlib.Core.Path.{◌≡◌, refl, sym, ap, ap₂, ◌∙◌}
use mathlib.Core.List.{List, [], ◌∷◌, ◌++◌, map, flatten}
use mathlib.Core.Bool.{Bool, true, false, cond}
use Prim.Native.Nat.{ℕ, zero, suc, ◌+◌, ◌-◌, ◌*◌, ◌≤◌, ◌<◌, min}
use native.Mathlib.Omega.{arith}
use lib.Dec.{eqb, leb}
use lib.ListN.{length, take, drop, get_or}
use lib.Seq.{drop-drop, take-add, drop-cons}
use borrow.Author.Tests.{eq-eqb, ne_eqb, eqb-true, eqb-false, le-leb, lt-leb, leb-true, leb-false}
use Rattle.words.specs.Words.{same}
use Rattle.words.proofs.Laws.{same_refl}
use Rattle.words.proofs.Tests.{by_test}
use Rattle.house_cells.specs.Cells.{Cell, cells_at}
use Rattle.house_cells.proofs.CellLaws.{cells_next, cells_none}
use Rattle.house_packets.specs.Packets.{equals, repeats, up_to_repeat}
use Rattle.house_packets.specs.Units.{unit_at, units_at}

-- units by their place

module _ (unit : ℕ) (b : List ℕ) where
  same_place : (x m y n : ℕ) → x ≡ y → m ≡ n → units_at unit b x m ≡ units_at unit b y n
  same_place x m y n e f = ap₂ (units_at unit b) e f

  pub length_units : (x m : ℕ) → length (units_at unit b x m) ≡ m
  unfolding units_at
  length_units x zero = refl
  length_units x (suc m) = ap suc (length_units (x + 1) m)

  pub drop_units : (x m n : ℕ) → n ≤ m → drop n (units_at unit b x m) ≡ units_at unit b (x + n) (m - n)
  unfolding units_at
  drop_units x m zero h = same_place x m (x + 0) (m - 0) (omega arith) (omega arith)
  drop_units x zero (suc n) h = absurd (omega arith)
  drop_units x (suc m) (suc n) h = drop_units (x + 1) m n (omega arith) ∙ same_place (x + 1 + n) (m - n) (x + suc n) (suc m - suc n) (omega arith) (omega arith)

  pub take_units : (x m n : ℕ) → take n (units_at unit b x m) ≡ units_at unit b x (min n m)
  unfolding units_at
  take_units x m zero = let z : min 0 m ≡ 0 = omega arith in ap (units_at unit b x) (sym z)
  take_units x zero (suc n) = let z : min (suc n) 0 ≡ 0 = omega arith in ap (units_at unit b x) (sym z)
  take_units x (suc m) (suc n) =
      let z : min (suc n) (suc m) ≡ suc (min n m) = omega arith in
      ap (λ (us : List (List ℕ)). unit_at unit b x ∷ us) (take_units (x + 1) m n) ∙ ap (units_at unit b x) (sym z)

  pub flat_units : (x m : ℕ) → flatten (units_at unit b x m) ≡ take (m * unit) (drop (x * unit) b)
  unfolding units_at flatten
  flat_units x zero = let z : 0 ≡ 0 * unit = omega arith in ap (λ (j : ℕ). take j (drop (x * unit) b)) z
  flat_units x (suc m) =
      let z : x * unit + unit ≡ (x + 1) * unit = omega arith in
      let y : unit + m * unit ≡ suc m * unit = omega arith in
      ap (λ (l : List ℕ). unit_at unit b x ++ l)
      (flat_units (x + 1) m ∙ ap (λ (j : ℕ). take (m * unit) (drop j b)) (sym z) ∙ ap (take (m * unit)) (sym (drop-drop unit (x * unit) b)))
      ∙ sym (take-add unit (m * unit) (drop (x * unit) b)) ∙ ap (λ (j : ℕ). take j (drop (x * unit) b)) y

  pub first_unit : (x m : ℕ) → 1 ≤ m → units_at unit b x m ≡ unit_at unit b x ∷ units_at unit b (x + 1) (m - 1)
  unfolding units_at
  first_unit x zero h = absurd (omega arith)
  first_unit x (suc m) h = let z : m ≡ suc m - 1 = omega arith in ap (λ (j : ℕ). unit_at unit b x ∷ units_at unit b (x + 1) j) z

  -- the units left after j of m
  pub next_unit : (x m j : ℕ) → j < m → units_at unit b (x + j) (m - j) ≡ unit_at unit b (x + j) ∷ units_at unit b (x + (j + 1)) (m - (j + 1))
  next_unit x m j h =
      first_unit (x + j) (m - j) (omega arith)
      ∙ ap (λ (us : List (List ℕ)). unit_at unit b (x + j) ∷ us) (same_place (x + j + 1) (m - j - 1) (x + (j + 1)) (m - (j + 1)) (omega arith) (omega arith))

  pub no_units : (x m : ℕ) → m ≤ 0 → units_at unit b x m ≡ []
  unfolding units_at
  no_units x zero h = refl
  no_units x (suc m) h = absurd (omega arith)

-- the next pixels of cells
pub units_cells : (unit : ℕ) (a b : List ℕ) (x m : ℕ) → map (λ (c : Cell). c.new) (cells_at unit x m a b) ≡ units_at unit b x m
unfolding units_at
units_cells unit a b x zero = ap (map (λ (c : Cell). c.new)) (cells_none unit (drop (x * unit) a) (drop (x * unit) b))
units_cells unit a b x (suc m) =
    ap (map (λ (c : Cell). c.new)) (cells_next unit x m a b) ∙ ap (λ (us : List (List ℕ)). unit_at unit b x ∷ us) (units_cells unit a b (x + 1) m)

-- two units: of one byte, or of two

cond_itself : (t : Bool) → t ≡ cond t true false
cond_itself true = refl
cond_itself false = refl

module _ (b : List ℕ) (i j : ℕ) where
  one_byte : (i : ℕ) → suc i ≤ length b → take 1 (drop i b) ≡ get_or b i 0 ∷ []
  one_byte i h = ap (take 1) (drop-cons b i 0 h)

  two_bytes : (i : ℕ) → suc (suc i) ≤ length b → take 2 (drop i b) ≡ get_or b i 0 ∷ get_or b (i + 1) 0 ∷ []
  two_bytes i h =
      let z : suc i ≡ i + 1 = omega arith in
      ap (take 2) (drop-cons b i 0 (omega arith) ∙ ap (λ (l : List ℕ). get_or b i 0 ∷ l) (drop-cons b (suc i) 0 h))
      ∙ ap (λ (k : ℕ). get_or b i 0 ∷ get_or b k 0 ∷ []) z

  module _ (unit : ℕ) (some : 1 ≤ unit) (small : unit ≤ 2) (li : i + unit ≤ length b) (lj : j + unit ≤ length b) where
    -- their first bytes differ
    pub unit_other : (get_or b i 0 ≡ get_or b j 0 → ⊥) → false ≡ same (take unit (drop i b)) (take unit (drop j b))
    unfolding same
    unit_other h = go unit some li lj
      where
        go : (u : ℕ) → 1 ≤ u → i + u ≤ length b → j + u ≤ length b → false ≡ same (take u (drop i b)) (take u (drop j b))
        go zero o x y = absurd (omega arith)
        go (suc u) o x y = rw (drop-cons b i 0 (omega arith), drop-cons b j 0 (omega arith)) (simp (ne_eqb (get_or b i 0) (get_or b j 0) h))

    module _ (e : get_or b i 0 ≡ get_or b j 0) where
      pub unit_one : unit ≡ 1 → true ≡ same (take unit (drop i b)) (take unit (drop j b))
      unfolding same
      unit_one u =
          rw (u, one_byte i (omega arith), one_byte j (omega arith)) (simp (eq-eqb (get_or b i 0) (get_or b j 0) e))

      pub unit_two : (unit ≡ 1 → ⊥) → eqb (get_or b (i + 1) 0) (get_or b (j + 1) 0) ≡ same (take unit (drop i b)) (take unit (drop j b))
      unfolding same
      unit_two u =
          let two : unit ≡ 2 = omega (arith, u) in
          rw (two, two_bytes i (omega arith), two_bytes j (omega arith))
          (simp (eq-eqb (get_or b i 0) (get_or b j 0) e) (cond_itself (eqb (get_or b (i + 1) 0) (get_or b (j + 1) 0))))

-- equal units

module _ (v : List ℕ) where
  equals_none : equals v [] ≡ 0
  unfolding equals
  equals_none = refl

  equals_front : (u : List ℕ) (us : List (List ℕ)) (t : Bool) → same v u ≡ t → equals v (u ∷ us) ≡ cond t (suc (equals v us)) 0
  unfolding equals
  equals_front u us t e = ap (λ (s : Bool). cond s (suc (equals v us)) 0) e

  pub equals_itself : (us : List (List ℕ)) → equals v (v ∷ us) ≡ suc (equals v us)
  equals_itself us = equals_front v us true (same_refl v)

  pub equals_le : (us : List (List ℕ)) → equals v us ≤ length us
  equals_le [] = omega (arith, equals_none)
  equals_le (u ∷ us) =
      let h = equals_le us in
      by_test (λ _. equals v (u ∷ us) ≤ suc (length us)) (same v u)
      (λ e. omega (arith, equals_front u us true e)) (λ e. omega (arith, equals_front u us false e))

  -- of the first n units
  pub equals_least : (n : ℕ) (us : List (List ℕ)) → equals v (take n us) ≡ min n (equals v us)
  equals_least zero us = omega (arith, equals_none)
  equals_least (suc n) [] = omega (arith, equals_none)
  equals_least (suc n) (u ∷ us) =
      let h = equals_least n us in
      by_test (λ _. equals v (u ∷ take n us) ≡ min (suc n) (equals v (u ∷ us))) (same v u)
      (λ e. omega (arith, equals_front u us true e, equals_front u (take n us) true e))
      (λ e. omega (arith, equals_front u us false e, equals_front u (take n us) false e))

  module _ (unit : ℕ) (b : List ℕ) (x m : ℕ) where
    -- the first j of m units from unit x on are v
    pub record Equal (j : ℕ) : Type 0 where
      pub high : j ≤ m
      pub so_far : equals v (units_at unit b x m) ≡ j + equals v (units_at unit b (x + j) (m - j))

    pub equal_first : Equal 0
    equal_first =
        let e : units_at unit b x m ≡ units_at unit b (x + 0) (m - 0) = same_place unit b x m (x + 0) (m - 0) (omega arith) (omega arith) in
        record { high = omega arith; so_far = omega (arith, ap (equals v) e) }

    module _ (j : ℕ) (r : Equal j) (s : Bool) (h : j < m) (e : s ≡ same v (unit_at unit b (x + j))) where
      here : (t : Bool) → s ≡ t → equals v (units_at unit b (x + j) (m - j)) ≡ cond t (suc (equals v (units_at unit b (x + (j + 1)) (m - (j + 1))))) 0
      here t f = ap (equals v) (next_unit unit b x m j h) ∙ equals_front (unit_at unit b (x + j)) (units_at unit b (x + (j + 1)) (m - (j + 1))) t (sym e ∙ f)

      pub equal_on : s ≡ true → Equal (j + 1)
      equal_on f = record { high = omega arith; so_far = omega (arith, r.so_far, here true f) }

      pub equal_stops : s ≡ false → (j ≡ equals v (units_at unit b x m)) × (j ≤ m)
      equal_stops f = (omega (arith, r.so_far, here false f), r.high)

    pub equal_ends : (j : ℕ) → Equal j → m ≤ j → (m ≡ equals v (units_at unit b x m)) × (m ≤ m)
    equal_ends j r h = (omega (arith, r.so_far, r.high, ap (equals v) (no_units unit b (x + j) (m - j) (omega arith)), equals_none), omega arith)

-- a repeat, and the units before one

module _ (least : ℕ) where
  pub repeats_front : (v : List ℕ) (us : List (List ℕ)) → repeats least (v ∷ us) ≡ leb least (suc (equals v us))
  unfolding repeats
  repeats_front v us = refl

  -- fewer than least units are none
  pub repeats_few : (unit : ℕ) (b : List ℕ) (x m : ℕ) → m < least → false ≡ repeats least (units_at unit b x m)
  unfolding repeats units_at
  repeats_few unit b x zero h = refl
  repeats_few unit b x (suc m) h =
      sym (lt-leb least (suc (equals (unit_at unit b x) (units_at unit b (x + 1) m)))
      (omega (arith, equals_le (unit_at unit b x) (units_at unit b (x + 1) m), length_units unit b (x + 1) m)))

  -- of least units or more the first decide: n of the least - 1 after the first are equal to it
  pub repeats_some : (unit : ℕ) (b : List ℕ) (x m n : ℕ) → 1 ≤ least → least ≤ m → n ≡ equals (unit_at unit b x) (units_at unit b (x + 1) (least - 1))
      → eqb n (least - 1) ≡ repeats least (units_at unit b x m)
  repeats_some unit b x m n some long e =
      let v = unit_at unit b x in
      let us = units_at unit b (x + 1) (m - 1) in
      let fits : min (least - 1) (m - 1) ≡ least - 1 = omega arith in
      let these : units_at unit b (x + 1) (least - 1) ≡ take (least - 1) us =
      sym (take_units unit b (x + 1) (m - 1) (least - 1) ∙ ap (units_at unit b (x + 1)) fits) in
      let n-is : n ≡ min (least - 1) (equals v us) = e ∙ ap (equals v) these ∙ equals_least v (least - 1) us in
      by_test (λ t. t ≡ repeats least (units_at unit b x m)) (eqb n (least - 1))
      (λ f. sym (ap (repeats least) (first_unit unit b x m (omega arith)) ∙ repeats_front v us
      ∙ le-leb least (suc (equals v us)) (omega (arith, eqb-true n (least - 1) f))))
      (λ f. sym (ap (repeats least) (first_unit unit b x m (omega arith)) ∙ repeats_front v us
      ∙ lt-leb least (suc (equals v us)) (omega (arith, eqb-false n (least - 1) f))))

  until_none : up_to_repeat least [] ≡ 0
  unfolding up_to_repeat
  until_none = refl

  pub until_front : (v : List ℕ) (us : List (List ℕ)) (t : Bool) → repeats least (v ∷ us) ≡ t → up_to_repeat least (v ∷ us)
      ≡ cond t 0 (suc (up_to_repeat least us))
  unfolding up_to_repeat
  until_front v us t e = ap (λ (s : Bool). cond s 0 (suc (up_to_repeat least us))) e

  pub until_some : (v : List ℕ) (us : List (List ℕ)) → repeats least (v ∷ us) ≡ false → 1 ≤ up_to_repeat least (v ∷ us)
  until_some v us e = omega (arith, until_front v us false e)

  pub until_le : (us : List (List ℕ)) → up_to_repeat least us ≤ length us
  until_le [] = omega (arith, until_none)
  until_le (u ∷ us) =
      let h = until_le us in
      by_test (λ _. up_to_repeat least (u ∷ us) ≤ suc (length us)) (repeats least (u ∷ us))
      (λ e. omega (arith, until_front u us true e)) (λ e. omega (arith, until_front u us false e))

  -- whether a repeat begins, least - 1 units after the first decide
  repeats_take : (n : ℕ) (u : List ℕ) (us : List (List ℕ)) → least ≤ suc n → repeats least (u ∷ take n us) ≡ repeats least (u ∷ us)
  repeats_take n u us h =
      let e = equals_least u n us in
      repeats_front u (take n us)
      ∙ by_test (λ t. leb least (suc (equals u (take n us))) ≡ t) (leb least (suc (equals u us)))
      (λ f. le-leb least (suc (equals u (take n us))) (omega (arith, leb-true least (suc (equals u us)) f)))
      (λ f. lt-leb least (suc (equals u (take n us))) (omega (arith, leb-false least (suc (equals u us)) f)))
      ∙ sym (repeats_front u us)

  -- up to n, the first n units and least - 1 after them decide
  pub until_least : 1 ≤ least → (n m : ℕ) (us : List (List ℕ)) → n + least ≤ suc m → min n (up_to_repeat least (take m us)) ≡ min n (up_to_repeat least us)
  until_least some zero m us h = omega arith
  until_least some (suc n) zero us h = absurd (omega arith)
  until_least some (suc n) (suc m) [] h = refl
  until_least some (suc n) (suc m) (u ∷ us) h =
      let ih = until_least some n m us (omega arith) in
      let here = repeats_take m u us (omega arith) in
      by_test (λ _. min (suc n) (up_to_repeat least (u ∷ take m us)) ≡ min (suc n) (up_to_repeat least (u ∷ us))) (repeats least (u ∷ us))
      (λ e. omega (arith, until_front u us true e, until_front u (take m us) true (here ∙ e)))
      (λ e. omega (arith, until_front u us false e, until_front u (take m us) false (here ∙ e)))

  module _ (unit : ℕ) (b : List ℕ) (x m : ℕ) where
    -- no repeat begins at the first j of m units from unit x on
    pub record Single (j : ℕ) : Type 0 where
      pub high : j ≤ m
      pub so_far : up_to_repeat least (units_at unit b x m) ≡ j + up_to_repeat least (units_at unit b (x + j) (m - j))

    pub single_first : Single 0
    single_first =
        let e : units_at unit b x m ≡ units_at unit b (x + 0) (m - 0) = same_place unit b x m (x + 0) (m - 0) (omega arith) (omega arith) in
        record { high = omega arith; so_far = omega (arith, ap (up_to_repeat least) e) }

    module _ (j : ℕ) (r : Single j) (s : Bool) (h : j < m) (e : s ≡ repeats least (units_at unit b (x + j) (m - j))) where
      here_single : (t : Bool) → s ≡ t → up_to_repeat least (units_at unit b (x + j) (m - j))
          ≡ cond t 0 (suc (up_to_repeat least (units_at unit b (x + (j + 1)) (m - (j + 1)))))
      here_single t f =
          ap (up_to_repeat least) (next_unit unit b x m j h)
          ∙ until_front (unit_at unit b (x + j)) (units_at unit b (x + (j + 1)) (m - (j + 1))) t
          (ap (repeats least) (sym (next_unit unit b x m j h)) ∙ sym e ∙ f)

      pub single_on : s ≡ false → Single (j + 1)
      single_on f = record { high = omega arith; so_far = omega (arith, r.so_far, here_single false f) }

      pub single_stops : s ≡ true → j ≡ up_to_repeat least (units_at unit b x m)
      single_stops f = omega (arith, r.so_far, here_single true f)

    pub single_ends : (j : ℕ) → Single j → m ≤ j → m ≡ up_to_repeat least (units_at unit b x m)
    single_ends j r h = omega (arith, r.so_far, r.high, ap (up_to_repeat least) (no_units unit b (x + j) (m - j) (omega arith)), until_none)
