-- A loop over cells, one after the other: what is measured or stored of each, and what is left from cell r on. Where they lie in a list of bytes.
use mathlib.Core.Path.{◌≡◌, sym, ap, ◌∙◌, subst}
use mathlib.Core.List.{List, [], ◌++◌, flat_map}
use Prim.Native.Nat.{ℕ, suc, ◌+◌, ◌-◌, ◌*◌, ◌≤◌, ◌<◌}
use native.Mathlib.Omega.{arith}
use native.Mathlib.Nat.{add-sub_cancel_left, mul-le-mul_left, mul-le-mul_right}
use lib.ListN.{length, take, drop, length-append}
use Rattle.words.specs.Writes.{put}
use Rattle.house_cells.specs.Cells.{Cell, cells_at}
use Rattle.house_cells.specs.Rows.{row, row_at}
use Rattle.house_cells.proofs.Ahead.{Ahead, ahead_first, ahead_room, ahead_on, ahead_ends}
use Rattle.house_cells.proofs.CellLaws.{cells_next, cells_none, flat_map_cons, flat_map_nil}

-- cell x lies in a list that has more cells
pub cell_inside : (k x n l : ℕ) → x < n → n * k ≤ l → x * k + k ≤ l
cell_inside k x n l h i = omega (arith, mul-le-mul_right k h)

-- fewer cells lie in it too
pub cells_inside : (k n m l : ℕ) → n ≤ m → m * k ≤ l → n * k ≤ l
cells_inside k n m l h i = omega (arith, mul-le-mul_right k h)

-- and they are no more than its bytes
pub cells_few : (k n l : ℕ) → 1 ≤ k → n * k ≤ l → n ≤ l
cells_few k n l h i = omega (arith, mul-le-mul_left n h)

module _ (k : ℕ) (p q : List ℕ) where
  -- cell r, as ranges lend it
  abbrev pub lent : ℕ → Cell
  lent r = row (take (r * k + k - r * k) (drop (r * k) p)) (take (r * k + k - r * k) (drop (r * k) q))

  pub lent_row : (r : ℕ) → lent r ≡ row_at k r p q
  lent_row r = ap (λ (j : ℕ). row (take j (drop (r * k) p)) (take j (drop (r * k) q))) (add-sub_cancel_left (r * k) k)

  module _ (f : Cell → List ℕ) where
    each_next : (r e : ℕ) → r < e → flat_map f (cells_at k r (e - r) p q) ≡ f (lent r) ++ flat_map f (cells_at k (r + 1) (e - (r + 1)) p q)
    each_next r e h =
        let one : e - r ≡ suc (e - (r + 1)) = omega arith in
        ap (λ (j : ℕ). flat_map f (cells_at k r j p q)) one ∙ ap (flat_map f) (cells_next k r (e - (r + 1)) p q)
        ∙ flat_map_cons f (row_at k r p q) (cells_at k (r + 1) (e - (r + 1)) p q)
        ∙ ap (λ (x : Cell). f x ++ flat_map f (cells_at k (r + 1) (e - (r + 1)) p q)) (sym (lent_row r))

    each_none : (r e : ℕ) → e ≤ r → flat_map f (cells_at k r (e - r) p q) ≡ []
    each_none r e h =
        let none : e - r ≡ 0 = omega arith in
        ap (λ (j : ℕ). flat_map f (cells_at k r j p q)) none ∙ ap (flat_map f) (cells_none k (drop (r * k) p) (drop (r * k) q)) ∙ flat_map_nil f

    module _ (first n : ℕ) where
      -- what f gives of all n cells, and of those from cell r on
      abbrev all : List ℕ
      all = flat_map f (cells_at k first n p q)

      abbrev rest : ℕ → List ℕ
      rest r = flat_map f (cells_at k r (first + n - r) p q)

      rest_first : all ≡ rest first
      rest_first = let z : n ≡ first + n - first = omega arith in ap (λ (j : ℕ). flat_map f (cells_at k first j p q)) z

      module _ (most : ℕ) where
        -- the cells before cell r give size bytes, at most most each, and those from it on give the rest
        pub record Sizing (r size : ℕ) : Type 0 where
          pub sized : length all ≡ size + length (rest r)
          pub short : size + most * (first + n - r) ≤ most * n

        pub sizing_first : Sizing first 0
        sizing_first =
            let z : first + n - first ≡ n = omega arith in
            record { sized = omega (arith, ap length rest_first); short = omega (arith, ap (λ (j : ℕ). most * j) z) }

        module _ (r size : ℕ) (x : Sizing r size) where
          pub sizing_on : (m : ℕ) → r < first + n → m ≡ length (f (lent r)) → m ≤ most → Sizing (r + 1) (size + m)
          sizing_on m h e s =
              let one : first + n - r ≡ (first + n - (r + 1)) + 1 = omega arith in
              record {
                sized = omega (arith, x.sized, ap length (each_next r (first + n) h), length-append (f (lent r)) (rest (r + 1)));
                short = omega (arith, x.short, ap (λ (j : ℕ). most * j) one);
              }

          pub sizing_ends : first + n ≤ r → (size ≡ length all) × (size ≤ most * n)
          sizing_ends h = (omega (arith, x.sized, ap length (each_none r (first + n) h)), omega (arith, x.short))

      module _ (out₀ : List ℕ) (at : ℕ) where
        -- what f gives of the cells from cell r on is still to be stored at here
        abbrev pub Storing : List ℕ → ℕ → ℕ → Type 0
        Storing out r here = Ahead out₀ at all out here (rest r)

        pub storing_first : at + length all ≤ length out₀ → Storing out₀ first at
        storing_first h = subst (λ (l : List ℕ). Ahead out₀ at all out₀ at l) rest_first (ahead_first out₀ at all h)

        module _ (out : List ℕ) (r here : ℕ) (x : Storing out r here) where
          module _ (h : r < first + n) where
            pub storing_room : here + length (f (lent r)) ≤ length out
            storing_room = ahead_room out₀ at all x (f (lent r)) (rest (r + 1)) (each_next r (first + n) h)

            pub storing_on : (out' : List ℕ) (here' : ℕ) → here' ≡ here + length (f (lent r)) → out' ≡ put out here (f (lent r))
                → Storing out' (r + 1) here'
            storing_on = ahead_on out₀ at all x (f (lent r)) (rest (r + 1)) (each_next r (first + n) h)

          pub storing_ends : first + n ≤ r → (here ≡ at + length all) × (out ≡ put out₀ at all)
          storing_ends h = ahead_ends out₀ at all x (each_none r (first + n) h)
