-- What the search knows of a row after its last pixels, and what one pixel more adds: the invariant of `plan_row`.
use mathlib.Core.Path.{◌≡◌, refl, sym, ap, ◌∙◌, subst}
use mathlib.Core.List.{List, [], ◌∷◌}
use mathlib.Core.Logic.{⊎_elim}
use Prim.Native.Nat.{ℕ, suc, ◌+◌, ◌-◌, ◌*◌, ◌%◌, ◌≤◌, ◌<◌, min}
use native.Mathlib.Omega.{arith}
use native.Mathlib.Decide.{ℕ_discrete as dec_eq}
use lib.ListN.{length, get_or, drop, set, length-drop, length-set}
use lib.Seq.{get_or-set_same, get_or-set_other, drop-length, drop-cons}
use Rattle.house_least.specs.Least.{best, table}
use Rattle.format.specs.Limits.{max_width, Wide}
use Rattle.house_least.proofs.Laws.{le_or_lt}
use Rattle.house_rows.specs.declared.End.{End}
use Rattle.house_rows.specs.declared.Repeat.{Repeat}
use Rattle.house_rows.specs.declared.Choice.{Choice}
use Rattle.house_rows.specs.Search.{turns, Planned}
use Rattle.house_rows.specs.Window.{sum_at, Lowest, LowestEnd, Window, Shortened, Lengthened, Chosen}
use Rattle.house_rows.proofs.Lowest.{one, the}
use Rattle.house_rows.proofs.RowRule.{least_size, house_size}
use Rattle.house_rows.proofs.Steps.{Noted, run, from, reach, repeat_best, copy_best, run_one, run_same, run_other, run_bound, run_some, size_up}
use Rattle.house_rows.proofs.Types.{type_at, types_all, turns_few}
use Rattle.house_rows.proofs.Windows.{window_agreed, end_agreed}

-- sums at the places of a row: no less than the place, and small
pub reach_bounds : (row : List ℕ) (j : ℕ) → Wide (length row) → j ≤ length row → (j ≤ reach row j) × (reach row j ≤ 3 * max_width)
unfolding reach from
reach_bounds row j h k = omega (arith, size_up (drop j row), length-drop j row)

-- the sums and first bytes of the rests from i on
pub record Known (row sums first : List ℕ) (i : ℕ) : Type 0 where
  pub reached : (j : ℕ) → i ≤ j → j ≤ length row → sum_at sums j ≡ reach row j
  pub firsts : (j : ℕ) → i ≤ j → j < length row → get_or first j 0 ≡ type_at row j

pub reach_end : (row : List ℕ) → reach row (length row) ≡ length row
unfolding reach from least_size best table
reach_end row = rw drop-length (omega arith)

-- an entry of a list with one entry changed
set_cases : (P : ℕ → Type 0) (l : List ℕ) (i j v : ℕ) → i < length l → (j ≡ i → P v) → ((j ≡ i → ⊥) → P (get_or l j 0)) → P (get_or (set l i v) j 0)
set_cases P l i j v fit same other =
    ⊎_elim {C = P (get_or (set l i v) j 0)}
    (λ (h : j ≤ i).
    ⊎_elim {C = P (get_or (set l i v) j 0)}
    (λ (k : i ≤ j). let e : j ≡ i = omega arith in subst (λ (n : ℕ). P (get_or (set l i v) n 0)) (sym e) (rw (get_or-set_same l i v 0 fit) (same e)))
    (λ (k : j < i). rw (get_or-set_other l i j v 0 (omega arith)) (other (omega arith)))
    (le_or_lt i j))
    (λ (h : i < j). rw (get_or-set_other l i j v 0 (omega arith)) (other (omega arith)))
    (le_or_lt j i)

-- the sum at a pixel, from what is noted of its rest
pub reach_noted : (row : List ℕ) (i n b : ℕ) → Noted (drop i row) n b → reach row i ≡ i + n
unfolding reach from
reach_noted row i n b note = ap (λ (m : ℕ). i + m) (sym (house_size (drop i row)) ∙ note.size)

pub known_more : (row sums first : List ℕ) (i s b : ℕ) → i < length sums → i < length first
    → Known row sums first (i + 1) → s ≡ reach row i → b ≡ type_at row i → Known row (set sums i s) (set first i b) i
known_more row sums first i s b fit fit' k e f = record {
  reached = λ j l h. set_cases (λ v. v ≡ reach row j) sums i j s fit (λ q. e ∙ ap (reach row) (sym q)) (λ q. k.reached j (omega arith) h);
  firsts = λ j l h. set_cases (λ v. v ≡ type_at row j) first i j b fit' (λ q. f ∙ ap (type_at row) (sym q)) (λ q. k.firsts j (omega arith) h);
}

noted_as : (s : List ℕ) {n n' b b' : ℕ} → Noted s n b → n ≡ n' → b ≡ b' → Noted s n' b'
noted_as s note e f = record { size = note.size ∙ e; first = note.first ∙ f }

-- the last pixel of a row
module _ (row : List ℕ) (i : ℕ) (last : i + 1 ≡ length row) where
  drop_last : drop i row ≡ get_or row i 0 ∷ []
  drop_last = drop-cons row i 0 (omega arith)
      ∙ ap {B = List ℕ} (λ r. get_or row i 0 ∷ r) (ap (λ (n : ℕ). drop n row) (the (suc i ≡ length row) (omega arith)) ∙ drop-length row)

  run_last : run (drop i row) ≡ 1
  run_last = rw drop_last (run_one (get_or row i 0))

  reach_last : reach row (i + 1) ≡ i + 1
  reach_last = ap (reach row) last ∙ reach_end row ∙ sym last

  end : from row (i + 1) ≡ 0
  unfolding reach
  end = omega (arith, reach_last)

  note_last : Noted (drop i row) 2 1
  note_last =
      noted_as (drop i row)
      (repeat_best row i (i + 1) (omega arith)
      (subst (λ (b : ℕ). Lowest (reach row) (i + 1) b (i + 1)) (the (i + 1 ≡ min (i + 128) (length row)) (omega arith)) (one (reach row) (i + 1)))
      (omega (arith, ap (λ (r : ℕ). from row (i + r)) run_last, end)))
      (ap (λ (r : ℕ). 2 + from row (i + r)) run_last ∙ ap (λ (n : ℕ). 2 + n) end)
      run_last

-- one pixel more
module _ (row : List ℕ) (i : ℕ) (inside : i + 1 < length row) where
  drop_two : drop i row ≡ get_or row i 0 ∷ (get_or row (i + 1) 0 ∷ drop (suc (suc i)) row)
  drop_two =
      drop-cons row i 0 (omega arith)
      ∙ ap {B = List ℕ} (λ r. get_or row i 0 ∷ r)
      (drop-cons row (suc i) 0 (omega arith) ∙ ap {B = List ℕ} (λ (n : ℕ). get_or row n 0 ∷ drop (suc (suc i)) row) (the (suc i ≡ i + 1) (omega arith)))

  drop_one : drop (i + 1) row ≡ get_or row (i + 1) 0 ∷ drop (suc (suc i)) row
  drop_one = drop-cons row (i + 1) 0 (omega arith)
      ∙ ap {B = List ℕ} (λ (n : ℕ). get_or row (i + 1) 0 ∷ drop n row) (the (suc (i + 1) ≡ suc (suc i)) (omega arith))

  -- the longest repeat, from that at the next pixel
  run_equal : get_or row i 0 ≡ get_or row (i + 1) 0 → run (drop i row) ≡ min 127 (run (drop (i + 1) row) + 1)
  run_equal e = omega (arith, ap run drop_two, ap run drop_one, run_same (get_or row i 0) (get_or row (i + 1) 0) (drop (suc (suc i)) row) e)

  run_apart : (get_or row i 0 ≡ get_or row (i + 1) 0 → ⊥) → run (drop i row) ≡ 1
  run_apart e = omega (arith, ap run drop_two, run_other (get_or row i 0) (get_or row (i + 1) 0) (drop (suc (suc i)) row) e)

-- q is the longest repeat at pixel i, with the sum where it ends
pub record Longest (row : List ℕ) (i : ℕ) (q : Repeat) : Type 0 where
  pub run_is : q.run ≡ run (drop i row)
  pub sum_is : q.sum ≡ reach row (i + q.run)

-- The search after the pixels from i on
pub record Searching (row : List ℕ) (w : ℕ) (sums first far : List ℕ) (i : ℕ) (repeat : Repeat) (split : ℕ) (near : End) (here count : ℕ) : Type 0 where
  pub whole : w ≡ length row
  pub high : Wide w
  pub inside : i < w
  pub long : length sums ≡ max_width + 1
  pub long_first : length first ≡ w
  pub long_far : length far ≡ max_width + 1
  pub known : Known row sums first i
  pub here_is : here ≡ reach row i
  pub longest : Longest row i repeat
  pub window : Window (reach row) w (i + 1) split near far
  pub counted : count + 1 + i + split ≡ 2 * w
  pub aligned : split % 128 ≡ w % 128

pub searching_last : (row sums first far : List ℕ) (w i : ℕ) → w ≡ length row → Wide w → i + 1 ≡ w
    → length sums ≡ max_width + 1 → length first ≡ w → length far ≡ max_width + 1
    → Searching row w (set (set sums w w) i (w + 1)) (set first i 1) far i (record { run = 1; sum = w }) w (record { place = w; sum = w }) (w + 1) 0
searching_last row sums first far w i whole high last long long_first long_far = record {
  whole = whole;
  high = high;
  inside = omega arith;
  long = simp length-set (omega arith);
  long_first = simp length-set (omega arith);
  long_far = long_far;
  known =
      known_more row (set sums w w) first i (w + 1) 1 (simp length-set (omega arith)) (omega arith)
      (record {
        reached = λ j l h.
            let e : j ≡ w = omega arith in
            ap (λ (n : ℕ). get_or (set sums w w) n 0) e ∙ get_or-set_same sums w w 0 (omega arith)
            ∙ sym (ap (reach row) (e ∙ whole) ∙ reach_end row ∙ sym whole);
        firsts = λ j l h. absurd (omega arith);
      })
      sum_is (sym note.first);
  here_is = sum_is;
  longest = record { run_is = sym (run_last row i (last ∙ whole)); sum_is = sym (reach_last row i (last ∙ whole) ∙ last) };
  window = record {
    close = subst (λ (a : ℕ). LowestEnd (reach row) a w (record {
      place = w;
      sum = w;
    })) (sym last) (record { lowest = one (reach row) w; sum_is = sym (ap (reach row) whole ∙ reach_end row ∙ sym whole) });
    narrow = omega arith;
    inside = omega arith;
    whole = λ h. absurd (omega arith);
    away = λ h. absurd (omega arith);
  };
  counted = omega arith;
  aligned = refl;
}
  where
    note : Noted (drop i row) 2 1
    note = note_last row i (last ∙ whole)

    sum_is : w + 1 ≡ reach row i
    sum_is = omega (arith, reach_noted row i 2 1 note)

-- a pixel is left before pixel t
pub left_of : {row sums first far : List ℕ} {w t : ℕ} {repeat : Repeat} {split : ℕ} {near : End} {here count : ℕ} → 0 < t
    → Searching row w sums first far t repeat split near here count → Searching row w sums first far (t - 1 + 1) repeat split near here count
left_of {row} {sums} {first} {far} {w} {t} {repeat} {split} {near} {here} {count} h s =
    let e : t ≡ t - 1 + 1 = omega arith in subst (λ (n : ℕ). Searching row w sums first far n repeat split near here count) e s

module _ {row sums first far : List ℕ} {w : ℕ} {repeat : Repeat} {split : ℕ} {near : End} {here count : ℕ} (i : ℕ)
    (s : Searching row w sums first far (i + 1) repeat split near here count)
  where
    within : i + 1 < length row
    within = omega (arith, s.whole, s.inside)

    -- the repeat at the next pixel

    pub run_fits : (repeat.run ≤ 127) × (1 ≤ repeat.run) × (i + 1 + repeat.run ≤ w)
    run_fits =
        omega (
          arith,
          s.longest.run_is,
          run_bound (drop (i + 1) row),
          run_some row (i + 1) (omega (arith, s.whole, s.inside)),
          length-drop (i + 1) row,
          s.whole,
          s.inside,
        )

    shortened : (q : Repeat) → Shortened sums i repeat q → (q.run ≡ min 126 repeat.run) × (q.sum ≡ reach row (i + 1 + q.run))
    shortened q c =
        ⊎_elim {C = (q.run ≡ min 126 repeat.run) × (q.sum ≡ reach row (i + 1 + q.run))}
        (λ (h : 127 ≤ repeat.run).
        let e : q.run ≡ 126 = ap (λ (x : Repeat). x.run) (c.long h) in
        let p : i + 127 ≡ i + 1 + q.run = omega arith in (
          omega arith,
          ap (λ (x : Repeat). x.sum) (c.long h) ∙ s.known.reached (i + 127) (omega arith) (omega (arith, run_fits, s.whole)) ∙ ap (reach row) p,
        ))
        (λ (h : repeat.run < 127). rw (c.short h) (omega arith, s.longest.sum_is))
        (le_or_lt 127 repeat.run)

    -- with pixel i before it
    pub longest_more : (q r : Repeat) → Shortened sums i repeat q → Lengthened (get_or row i 0) (get_or row (i + 1) 0) here q r → Longest row i r
    longest_more q r c l = by_case (dec_eq (get_or row i 0) (get_or row (i + 1) 0))
      where
        by_case : Dec (get_or row i 0 ≡ get_or row (i + 1) 0) → Longest row i r
        by_case (yes e) =
            let p : i + 1 + q.run ≡ i + (q.run + 1) = omega arith in
            rw (l.same e)
            (record {
              run_is = omega (arith, (shortened q c).0, run_equal row i within e, s.longest.run_is, run_fits);
              sum_is = (shortened q c).1 ∙ ap (reach row) p;
            })
        by_case (no n) =
            rw (l.other n)
            (record {
              run_is = sym (run_apart row i within n);
              sum_is = s.here_is;
            })

    -- the window at the next pixel

    sums_next : (j : ℕ) → i + 1 ≤ j → j ≤ w → sum_at sums j ≡ reach row j
    sums_next j l h = s.known.reached j l (omega (arith, s.whole))

    module _ {q : Repeat} {end : End} (longest : Longest row i q) (lowest : LowestEnd (sum_at sums) (i + 1) (min (i + 1 + 127) w) end) where
      low : LowestEnd (reach row) (i + 1) (min (i + 128) (length row)) end
      low =
          subst (λ (b : ℕ). LowestEnd (reach row) (i + 1) b end) (the (min (i + 1 + 127) w ≡ min (i + 128) (length row)) (omega (arith, s.whole)))
          (end_agreed (sum_at sums) (reach row) (i + 1) (min (i + 1 + 127) w) end (λ j l h. sums_next j l (omega arith)) lowest)

      end_in : (i < end.place) × (end.place ≤ i + 128) × (end.place ≤ length row)
      end_in = omega (arith, low.lowest.low, low.lowest.high)

      run_in : (q.run ≤ 127) × (i + q.run ≤ length row)
      run_in = omega (arith, longest.run_is, run_bound (drop i row), length-drop i row, within)

      wide : Wide (length row)
      wide = omega (arith, s.whole, s.high)

      -- what the choice asks
      pub choose_fits : (q.run ≤ 127) × (q.run ≤ q.sum) × (q.sum < 65536) × (i < end.place) × (end.place ≤ i + 128) × (end.sum < 65536)
      choose_fits =
          omega (arith, run_in, end_in, longest.sum_is, low.sum_is, reach_bounds row (i + q.run) wide run_in.1, reach_bounds row end.place wide end_in.2)

      -- what is noted of the rest from pixel i on
      module _ {p : Choice} (chosen : Chosen i q end p) where
        from_run : from row (i + run (drop i row)) + (i + q.run) ≡ q.sum
        unfolding reach
        from_run = omega (arith, longest.sum_is, ap (λ (n : ℕ). from row (i + n)) longest.run_is)

        from_end : from row end.place + end.place ≡ end.sum
        unfolding reach
        from_end = omega (arith, low.sum_is)

        note : Noted (drop i row) (p.sum - i) p.code
        note =
            ⊎_elim {C = Noted (drop i row) (p.sum - i) p.code}
            (λ (h : 2 + q.sum - q.run ≤ 1 + end.sum).
            noted_as (drop i row) (repeat_best row i end.place (omega (arith, within)) low.lowest (omega (arith, from_run, from_end, end_in)))
            (omega (arith, from_run, ap (λ (x : Choice). x.sum) (chosen.repeats h)))
            (omega (arith, longest.run_is, ap (λ (x : Choice). x.code) (chosen.repeats h))))
            (λ (h : 1 + end.sum < 2 + q.sum - q.run).
            noted_as (drop i row) (copy_best row i end.place (omega (arith, within)) low.lowest (omega (arith, from_run, from_end, end_in)))
            (omega (arith, from_end, end_in, ap (λ (x : Choice). x.sum) (chosen.copies h)))
            (omega (arith, ap (λ (x : Choice). x.code) (chosen.copies h))))
            (le_or_lt (2 + q.sum - q.run) (1 + end.sum))

        after : i ≤ p.sum
        after =
            ⊎_elim {C = i ≤ p.sum}
            (λ (h : 2 + q.sum - q.run ≤ 1 + end.sum). omega (arith, from_run, ap (λ (x : Choice). x.sum) (chosen.repeats h)))
            (λ (h : 1 + end.sum < 2 + q.sum - q.run). omega (arith, from_end, end_in, ap (λ (x : Choice). x.sum) (chosen.copies h)))
            (le_or_lt (2 + q.sum - q.run) (1 + end.sum))

        sum_is : p.sum ≡ reach row i
        sum_is = omega (arith, reach_noted row i (p.sum - i) p.code note, after)

        pub sum_small : p.sum < 65536
        sum_small = omega (arith, sum_is, reach_bounds row i wide (omega (arith, within)))

        pub searching_more : {far' : List ℕ} {split' : ℕ} {near' : End} (count' : ℕ)
            → length far' ≡ max_width + 1 → count' + split' ≡ count + split → split' % 128 ≡ split % 128 → Window (sum_at sums) w (i + 1) split' near' far'
            → Searching row w (set sums i p.sum) (set first i p.code) far' i q split' near' p.sum (count' + 1)
        searching_more {far'} {split'} {near'} count' long_far turns-are aligned window = record {
          whole = s.whole;
          high = s.high;
          inside = omega (arith, s.inside);
          long = simp length-set s.long;
          long_first = simp length-set s.long_first;
          long_far = long_far;
          known = known_more row sums first i p.sum p.code (omega (arith, s.inside, s.high, s.long)) (omega (arith, s.inside, s.long_first))
              s.known sum_is (sym note.first);
          here_is = sum_is;
          longest = longest;
          window = window_agreed (sum_at sums) (reach row) w (i + 1) split' near' far' sums_next window;
          counted = omega (arith, s.counted);
          aligned = omega (arith, s.aligned);
        }

pub searching_done : {row sums first far : List ℕ} {w i : ℕ} {repeat : Repeat} {split : ℕ} {near : End} {here count : ℕ}
    → Searching row w sums first far i repeat split near here count → i ≡ 0 → Planned row first here count
unfolding turns reach from
searching_done {row} {count = count} s z = record {
  size_is = omega (arith, s.here_is, ap (reach row) z, house_size row);
  types_are = types_all _ row (s.long_first ∙ s.whole) (λ j h. s.known.firsts j (omega arith) h);
  count_is = counted;
  few = omega (arith, counted, turns_few (length row) (omega (arith, s.whole, s.inside)));
}
  where
    counted : count ≡ turns (length row)
    counted = omega (arith, s.counted, s.aligned, s.whole, s.window.narrow, s.window.close.lowest.low, s.window.close.lowest.high)
