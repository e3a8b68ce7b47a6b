-- A loop over the stretches of cells: what is measured or written of them, and what is left from cell i on.
use mathlib.Core.Path.{◌≡◌, refl, sym, ap, ap₂, ◌∙◌}
use mathlib.Core.List.{List, [], ◌∷◌, ◌++◌, flat_map}
use Prim.Native.Nat.{ℕ, ◌+◌, ◌-◌, ◌≤◌, ◌<◌}
use native.Mathlib.Omega.{arith}
use lib.ListN.{length, take, drop, length-append, length-drop, drop_of_length-le}
use lib.Seq.{drop-drop}
use Rattle.words.specs.Writes.{put}
use Rattle.house_cells.specs.declared.Sought.TheVariants.{Unchanged, Changed}
use Rattle.house_cells.specs.Cells.{Cell, cells, Stretch, stretches, run, Next}
use Rattle.house_cells.specs.Rows.{stretch_at}
use Rattle.house_cells.proofs.Ahead.{Ahead, ahead_first, ahead_room, ahead_on, ahead_ends}
use Rattle.house_cells.proofs.CellLaws.{length_cells, part_cells, flat_map_nil, flat_map_cons}
use Rattle.house_cells.proofs.RunLaws.{First, run_nil, stretches_first, stretches_none}

module _ (k n : ℕ) (p q : List ℕ) where
  -- the stretches from cell i on
  unfoldable pub from : ℕ → List Stretch
  from i = stretches (drop i (cells k n p q))

  pub from_first : from 0 ≡ stretches (cells k n p q)
  unfolding from
  from_first = refl

  module _ (i g m : ℕ) (x : Next k n p q i g m) where
    first : g < length (drop i (cells k n p q)) → First (drop i (cells k n p q)) g m
    first h = stretches_first (drop i (cells k n p q)) g m x.gap h (x.changed ∙ ap (run Changed) (sym (drop-drop g i (cells k n p q))))

    -- there is one
    pub from_next : 1 ≤ m → from i ≡ stretch_at k i g m p q ∷ from (i + (g + m))
    unfolding from
    from_next s =
        let cs = cells k n p q in
        let f = first (omega (arith, x.inside, length-drop i cs, length_cells k n p q)) in
        f.is
        ∙ ap₂ (λ (c d : List Cell). record { gap = g; changed = c } ∷ stretches d)
        (ap (take m) (drop-drop g i cs) ∙ part_cells k n (i + g) m p q x.inside)
        (drop-drop (g + m) i cs)

    -- it has a changed cell where the gap does not end with the cells
    pub next_some : i + g < n → 1 ≤ m
    next_some h = (first (omega (arith, length-drop i (cells k n p q), length_cells k n p q))).some

  module _ (i : ℕ) where
    -- a gap that ends with the cells
    pub next_none : (g : ℕ) → g ≡ run Unchanged (drop i (cells k n p q)) → i + g ≡ n → Next k n p q i (n - i) 0
    next_none g e h =
        let nil : drop (i + (n - i)) (cells k n p q) ≡ [] = drop_of_length-le (cells k n p q) {i = i + (n - i)} (omega (arith, length_cells k n p q)) in
        record { gap = omega (arith, e); changed = sym (ap (run Changed) nil ∙ run_nil Changed); inside = omega arith }

    -- none is left
    pub from_last : Next k n p q i (n - i) 0 → from i ≡ []
    unfolding from
    from_last x =
        stretches_none (drop i (cells k n p q)) (omega (arith, x.gap, length-drop i (cells k n p q), length_cells k n p q))

  module _ {A : Type 0} (f : Stretch → List A) where
    -- t of what f gives of all stretches is measured, and the rest is what f gives from cell i on
    pub record Measured (i t : ℕ) : Type 0 where
      pub so_far : length (flat_map f (stretches (cells k n p q))) ≡ t + length (flat_map f (from i))

    pub measured_first : Measured 0 0
    measured_first = record { so_far = omega (arith, ap (λ (ss : List Stretch). length (flat_map f ss)) from_first) }

    module _ (i t : ℕ) (r : Measured i t) where
      pub measured_on : (g m : ℕ) → (1 ≤ m) × Next k n p q i g m → (u : ℕ) → u ≡ length (f (stretch_at k i g m p q)) → Measured (i + (g + m)) (t + u)
      measured_on g m x u e =
          let one = ap (flat_map f) (from_next i g m x.1 x.0) ∙ flat_map_cons f (stretch_at k i g m p q) (from (i + (g + m))) in
          record { so_far = omega (arith, r.so_far, ap length one, length-append (f (stretch_at k i g m p q)) (flat_map f (from (i + (g + m))))) }

      pub measured_all : Next k n p q i (n - i) 0 → t ≡ length (flat_map f (stretches (cells k n p q)))
      measured_all x =
          let last = ap (flat_map f) (from_last i x) ∙ flat_map_nil f in
          omega (arith, r.so_far, ap length last)

  module _ (f : Stretch → List ℕ) (out₀ : List ℕ) (at : ℕ) where
    -- what f gives of the stretches from cell i on is still to be written
    abbrev pub Written : List ℕ → ℕ → ℕ → Type 0
    Written out here i = Ahead out₀ at (flat_map f (stretches (cells k n p q))) out here (flat_map f (from i))

    pub written_first : at + length (flat_map f (stretches (cells k n p q))) ≤ length out₀ → Written out₀ at 0
    unfolding from
    written_first h = ahead_first out₀ at (flat_map f (stretches (cells k n p q))) h

    module _ (out : List ℕ) (here i : ℕ) (r : Written out here i) where
      -- v, which f gives of the next stretch, is stored
      module _ (g m : ℕ) (x : (1 ≤ m) × Next k n p q i g m) (v : List ℕ) (is : v ≡ f (stretch_at k i g m p q)) where
        whole : flat_map f (from i) ≡ v ++ flat_map f (from (i + (g + m)))
        whole =
            ap (flat_map f) (from_next i g m x.1 x.0) ∙ flat_map_cons f (stretch_at k i g m p q) (from (i + (g + m)))
            ∙ ap (λ (l : List ℕ). l ++ flat_map f (from (i + (g + m)))) (sym is)

        pub written_room : here + length v ≤ length out
        written_room = ahead_room out₀ at (flat_map f (stretches (cells k n p q))) r v (flat_map f (from (i + (g + m)))) whole

        pub written_on : (out' : List ℕ) (here' : ℕ) → here' ≡ here + length v → out' ≡ put out here v → Written out' here' (i + (g + m))
        written_on = ahead_on out₀ at (flat_map f (stretches (cells k n p q))) r v (flat_map f (from (i + (g + m)))) whole

      pub written_all : Next k n p q i (n - i) 0
          → (here ≡ at + length (flat_map f (stretches (cells k n p q)))) × (out ≡ put out₀ at (flat_map f (stretches (cells k n p q))))
      written_all x = ahead_ends out₀ at (flat_map f (stretches (cells k n p q))) r (ap (flat_map f) (from_last i x) ∙ flat_map_nil f)
