-- Runs of unchanged or changed cells, and the next stretch by two runs.
use mathlib.Core.Path.{◌≡◌, refl, sym, ap, ap₂, ◌∙◌}
use mathlib.Core.List.{List, [], ◌∷◌, ◌++◌, flat_map}
use mathlib.Core.Bool.{Bool, true, false, not, cond}
use Prim.Native.Nat.{ℕ, zero, suc, ◌+◌, ◌-◌, ◌*◌, ◌≤◌, ◌<◌}
use native.Mathlib.Omega.{arith}
use native.Mathlib.Nat.{add-sub_cancel_left}
use lib.ListN.{length, take, drop, drop_of_length-le}
use Rattle.words.specs.Words.{same}
use Rattle.words.proofs.Laws.{same_eq}
use Rattle.words.proofs.Tests.{by_test}
use Rattle.house_cells.specs.declared.Sought.{Sought}
use Rattle.house_cells.specs.declared.Sought.TheVariants.{Unchanged, Changed}
use Rattle.house_cells.specs.Cells.{Cell, cells, news, stays, Stretch, behind, stretches, is_sought, run}
use Rattle.house_cells.proofs.CellLaws.{olds, length_cells, cell_at}

-- a run by its first cell

run_front : (t : Sought) (b : Bool) (c : Cell) (cs : List Cell) → is_sought t (stays c) ≡ b → run t (c ∷ cs) ≡ cond b (suc (run t cs)) 0
unfolding run
run_front t b c cs e = ap (λ (s : Bool). cond s (suc (run t cs)) 0) e

pub run_nil : (t : Sought) → run t [] ≡ 0
unfolding run
run_nil t = refl

pub run_le : (t : Sought) (cs : List Cell) → run t cs ≤ length cs
run_le t [] = omega (arith, run_nil t)
run_le t (c ∷ cs) =
    let h = run_le t cs in
    by_test (λ _. run t (c ∷ cs) ≤ suc (length cs)) (is_sought t (stays c))
    (λ e. omega (arith, run_front t true c cs e)) (λ e. omega (arith, run_front t false c cs e))

-- a run of unchanged cells stays as it is
pub run_kept : (cs : List Cell) → olds (take (run Unchanged cs) cs) ≡ news (take (run Unchanged cs) cs)
unfolding run flat_map
run_kept [] = refl
run_kept (c ∷ cs) =
    let h = run_kept cs in
    by_test (λ b. olds (take (cond b (suc (run Unchanged cs)) 0) (c ∷ cs)) ≡ news (take (cond b (suc (run Unchanged cs)) 0) (c ∷ cs))) (stays c)
    (λ e. ap₂ (λ (a b : List ℕ). a ++ b) (same_eq c.old c.new e) h)
    (λ e. refl)

-- the first stretch

stretches_front : (b : Bool) (c : Cell) (cs : List Cell) → stays c ≡ b → stretches (c ∷ cs) ≡ behind b c (stretches cs)
unfolding stretches
stretches_front b c cs e = ap (λ (t : Bool). behind t c (stretches cs)) e

after_gap : (c d : Cell) (ss : List Stretch) → behind false c (behind true d ss) ≡ record { gap = 0; changed = c ∷ [] } ∷ behind true d ss
unfolding behind
after_gap c d [] = refl
after_gap c d (s ∷ ss) = refl

-- a changed cell in front, and those that follow it
grow : (c : Cell) (cs : List Cell) → behind false c (stretches cs) ≡ record {
  gap = 0;
  changed = c ∷ take (run Changed cs) cs;
} ∷ stretches (drop (run Changed cs) cs)
grow c [] = unfold behind in (unfold stretches in (unfold run in refl))
grow c (d ∷ ds) =
    by_test (λ _. behind false c (stretches (d ∷ ds)) ≡ record {
      gap = 0;
      changed = c ∷ take (run Changed (d ∷ ds)) (d ∷ ds);
    } ∷ stretches (drop (run Changed (d ∷ ds)) (d ∷ ds))) (stays d)
    (λ e.
    ap (λ (ss : List Stretch). behind false c ss) (stretches_front true d ds e) ∙ after_gap c d (stretches ds)
    ∙ ap (λ (ss : List Stretch). record { gap = 0; changed = c ∷ [] } ∷ ss) (sym (stretches_front true d ds e))
    ∙ ap (λ (n : ℕ). record { gap = 0; changed = c ∷ take n (d ∷ ds) } ∷ stretches (drop n (d ∷ ds))) (sym (run_front Changed false d ds (ap not e))))
    (λ e.
    ap (λ (ss : List Stretch). behind false c ss) (stretches_front false d ds e ∙ grow d ds)
    ∙ joined d ds
    ∙ ap (λ (n : ℕ). record { gap = 0; changed = c ∷ take n (d ∷ ds) } ∷ stretches (drop n (d ∷ ds))) (sym (run_front Changed true d ds (ap not e))))
  where
    joined : (d : Cell) (ds : List Cell) → behind false c (record { gap = 0; changed = d ∷ take (run Changed ds) ds } ∷ stretches (drop (run Changed ds) ds))
        ≡ record { gap = 0; changed = c ∷ d ∷ take (run Changed ds) ds } ∷ stretches (drop (run Changed ds) ds)
    joined d ds = unfold behind in refl

-- where all is unchanged
pub stretches_none : (cs : List Cell) → length cs ≤ run Unchanged cs → stretches cs ≡ []
stretches_none [] h = unfold stretches in refl
stretches_none (c ∷ cs) h =
    by_test (λ _. stretches (c ∷ cs) ≡ []) (stays c)
    (λ e. stretches_front true c cs e ∙ ap (λ (ss : List Stretch). behind true c ss)
    (stretches_none cs (omega (arith, run_front Unchanged true c cs e))) ∙ none c)
    (λ e. absurd (omega (arith, run_front Unchanged false c cs e)))
  where
    none : (c : Cell) → behind true c [] ≡ []
    none c = unfold behind in refl

-- the first stretch: g cells unchanged, then n changed
pub record First (cs : List Cell) (g n : ℕ) : Type 0 where
  pub some : 1 ≤ n
  pub inside : g + n ≤ length cs
  pub is : stretches cs ≡ record { gap = g; changed = take n (drop g cs) } ∷ stretches (drop (g + n) cs)

changed_front : (c : Cell) (cs : List Cell) (n : ℕ) → n ≡ suc (run Changed cs) → stays c ≡ false → First (c ∷ cs) 0 n
changed_front c cs zero en e = absurd (omega arith)
changed_front c cs (suc m) en e =
    let q : m ≡ run Changed cs = omega arith in
    let z : 0 + suc m ≡ suc m = omega arith in
    record {
      some = omega arith;
      inside = omega (arith, run_le Changed cs);
      is =
          stretches_front false c cs e ∙ grow c cs
          ∙ ap (λ (i : ℕ). record { gap = 0; changed = c ∷ take i cs } ∷ stretches (drop i cs)) (sym q)
          ∙ ap (λ (i : ℕ). record { gap = 0; changed = c ∷ take m cs } ∷ stretches (drop i (c ∷ cs))) (sym z);
    }

gap_front : (c : Cell) (cs : List Cell) (g n : ℕ) → stays c ≡ true → First cs g n → First (c ∷ cs) (suc g) n
gap_front c cs g n e x =
    let z : suc g + n ≡ suc (g + n) = omega arith in
    record {
      some = x.some;
      inside = omega (arith, x.inside);
      is =
          stretches_front true c cs e ∙ ap (λ (ss : List Stretch). behind true c ss) x.is ∙ one_more
          ∙ ap (λ (i : ℕ). record { gap = suc g; changed = take n (drop g cs) } ∷ stretches (drop i (c ∷ cs))) (sym z);
    }
  where
    one_more : behind true c (record { gap = g; changed = take n (drop g cs) } ∷ stretches (drop (g + n) cs))
        ≡ record { gap = suc g; changed = take n (drop g cs) } ∷ stretches (drop (g + n) cs)
    one_more = unfold behind in refl

pub stretches_first : (cs : List Cell) (g n : ℕ) → g ≡ run Unchanged cs → g < length cs → n ≡ run Changed (drop g cs) → First cs g n
stretches_first [] g n eg h en = absurd (omega arith)
stretches_first (c ∷ cs) zero n eg h en =
    by_test (λ _. First (c ∷ cs) 0 n) (stays c)
    (λ e. absurd (omega (arith, run_front Unchanged true c cs e)))
    (λ e. changed_front c cs n (en ∙ run_front Changed true c cs (ap not e)) e)
stretches_first (c ∷ cs) (suc g) n eg h en =
    by_test (λ _. First (c ∷ cs) (suc g) n) (stays c)
    (λ e. gap_front c cs g n e (stretches_first cs g n (omega (arith, run_front Unchanged true c cs e)) (omega arith) en))
    (λ e. absurd (omega (arith, run_front Unchanged false c cs e)))

-- the loop that counts a run

-- whether the k bytes that a range at..at + k lends are unchanged, or changed
module _ (r : Bool) (p q : List ℕ) (at k : ℕ) (e : r ≡ same (take (at + k - at) (drop at p)) (take (at + k - at) (drop at q))) where
  lent : r ≡ same (take k (drop at p)) (take k (drop at q))
  lent = e ∙ ap (λ (n : ℕ). same (take n (drop at p)) (take n (drop at q))) (add-sub_cancel_left at k)

  pub found_unchanged : (t : Sought) → t ≡ Unchanged → r ≡ is_sought t (same (take k (drop at p)) (take k (drop at q)))
  found_unchanged t f = lent ∙ ap (λ (x : Sought). is_sought x (same (take k (drop at p)) (take k (drop at q)))) (sym f)

  pub found_changed : (t : Sought) → t ≡ Changed → not r ≡ is_sought t (same (take k (drop at p)) (take k (drop at q)))
  found_changed t f = ap not lent ∙ ap (λ (x : Sought). is_sought x (same (take k (drop at p)) (take k (drop at q)))) (sym f)

module _ (p q : List ℕ) (k n i : ℕ) (t : Sought) where
  -- the run from cell i on has come to cell j
  pub record Running (j : ℕ) : Type 0 where
    pub so_far : run t (drop i (cells k n p q)) + i ≡ j + run t (drop j (cells k n p q))

  -- the cell at j is sought (s), or not
  module _ (j : ℕ) (s : Bool) (r : Running j) (h : j < n) (e : s ≡ is_sought t (same (take k (drop (j * k) p)) (take k (drop (j * k) q)))) where
    here : (b : Bool) → s ≡ b → run t (drop j (cells k n p q)) ≡ cond b (suc (run t (drop (suc j) (cells k n p q)))) 0
    here b f =
        ap (run t) (cell_at k n j p q h)
        ∙ run_front t b (record { old = take k (drop (j * k) p); new = take k (drop (j * k) q) }) (drop (suc j) (cells k n p q)) (sym e ∙ f)

    pub running_on : s ≡ true → Running (j + 1)
    running_on f =
        let z : j + 1 ≡ suc j = omega arith in
        record { so_far = omega (arith, r.so_far, here true f, ap (λ (x : ℕ). run t (drop x (cells k n p q))) z) }

    pub running_stops : i ≤ j → s ≡ false → (j - i ≡ run t (drop i (cells k n p q))) × (i + (j - i) ≤ n)
    running_stops low f = (omega (arith, r.so_far, here false f), omega arith)

  pub running_ends : (j : ℕ) → Running j → i ≤ n → j ≡ n → (n - i ≡ run t (drop i (cells k n p q))) × (i + (n - i) ≤ n)
  running_ends j r low h =
      let none : run t (drop j (cells k n p q)) ≡ 0 = ap (run t) (drop_of_length-le (cells k n p q) {i = j} (omega (arith, length_cells k n p q)))
      ∙ run_nil t in
      (omega (arith, r.so_far), omega arith)
