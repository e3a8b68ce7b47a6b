-- What the packets of a row do to its pixels, with no bytes in it: they turn its units as they were into its units as they are to be.
-- A packet takes the first units of a stretch (`First`), the packets of a stretch take them all, and a gap stays as it is.
use mathlib.Core.Path.{◌≡◌, refl, sym, ap, ap₂, ◌∙◌, subst}
use mathlib.Core.List.{List, [], ◌∷◌, ◌++◌, append_assoc, map, flatten, flat_map}
use mathlib.Core.Bool.{true, false, cond}
use Prim.Native.Nat.{ℕ, zero, suc, ◌+◌, ◌-◌, ◌*◌, ◌≤◌, ◌<◌, min}
use native.Mathlib.Omega.{arith}
use native.Mathlib.Nat.{mul-le-mul, mul-div-le}
use lib.ListN.{length, take, drop, replicate, length-append, length-drop, length-map, take-append-drop}
use lib.Seq.{length-take-le, drop-drop}
use Rattle.words.specs.Words.{same}
use Rattle.words.proofs.Laws.{same_eq}
use Rattle.words.proofs.Tests.{by_test}
use Rattle.read_packets.specs.Packets.{repeated}
use Rattle.house_cells.specs.Cells.{Cell, cells, news, Stretch}
use Rattle.house_cells.proofs.CellLaws.{olds, Sized, sized_append, sized_take, sized_drop, olds_append, news_append, length_olds, length_news, sized_cells, olds_cells, news_cells, Split, rest, part, split}
use Rattle.house_packets.specs.Packets.{Packet, copy, repeat, units_of, equals, repeats, up_to_repeat, first_packet, unit_packets, shortenings, gap_packets, stretch_packets, row_packets}
use Rattle.house_packets.specs.Units.{Form}
use Rattle.house_packets.proofs.UnitLaws.{equals_itself, equals_le, until_some, until_le}
use Rattle.house_packets.proofs.PacketLaws.{packet_repeat, packet_copy, packets_next}

-- packets turn s into t: what lies in a gap stays, and a packet's pairs come in the place of as many
pub data Turns (unit : ℕ) : List Packet → List ℕ → List ℕ → Type 0 where
  done : {s t : List ℕ} → s ≡ t → Turns unit [] s t
  copied : {ps : List Packet} {s t : List ℕ} {k : ℕ} {vs : List (List ℕ)} (gap old s' t' : List ℕ) → length gap ≡ k → length vs ≤ 127 → 1 ≤ k + length old
      → length old ≡ unit * length vs → length (flatten vs) ≡ unit * length vs → s ≡ gap ++ (old ++ s') → t ≡ gap ++ (flatten vs ++ t')
      → Turns unit ps s' t' → Turns unit (copy k vs ∷ ps) s t
  again : {ps : List Packet} {s t : List ℕ} {k n : ℕ} {v : List ℕ} (gap old s' t' : List ℕ) → length gap ≡ k → 1 ≤ length old → n ≤ 127
      → length old ≡ unit * n → length v ≡ unit → s ≡ gap ++ (old ++ s') → t ≡ gap ++ (repeated n v ++ t')
      → Turns unit ps s' t' → Turns unit (repeat k n v ∷ ps) s t

-- each packet takes a pixel or more
pub turns_count : {unit : ℕ} {ps : List Packet} {s t : List ℕ} → Turns unit ps s t → length ps ≤ length s
turns_count (done e) = omega arith
turns_count (copied gap old s' t' g m some o n es et r) =
    omega (arith, turns_count r, ap length es, length-append gap (old ++ s'), length-append old s')
turns_count (again gap old s' t' g some m o n es et r) =
    omega (arith, turns_count r, ap length es, length-append gap (old ++ s'), length-append old s')

turns_as : {unit : ℕ} {ps ps' : List Packet} {s s' t t' : List ℕ} → ps ≡ ps' → s ≡ s' → t ≡ t' → Turns unit ps s t → Turns unit ps' s' t'
turns_as {unit} {ps} {ps'} {s} {s'} {t} {t'} e f g r =
    subst (λ (x : List Packet). Turns unit x s' t') e (subst (λ (x : List ℕ). Turns unit ps x t') f (subst (λ (x : List ℕ). Turns unit ps s x) g r))

-- the next pixels of cells

abbrev nexts : List Cell → List (List ℕ)
nexts = map (λ (c : Cell). c.new)

flat_nexts : (cs : List Cell) → flatten (nexts cs) ≡ news cs
unfolding flatten flat_map
flat_nexts [] = refl
flat_nexts (c ∷ cs) = ap (λ (l : List ℕ). c.new ++ l) (flat_nexts cs)

take_nexts : (n : ℕ) (cs : List Cell) → take n (nexts cs) ≡ nexts (take n cs)
take_nexts zero cs = refl
take_nexts (suc n) [] = refl
take_nexts (suc n) (c ∷ cs) = ap (λ (l : List (List ℕ)). c.new ∷ l) (take_nexts n cs)

drop_nexts : (n : ℕ) (cs : List Cell) → drop n (nexts cs) ≡ nexts (drop n cs)
drop_nexts zero cs = refl
drop_nexts (suc n) [] = refl
drop_nexts (suc n) (c ∷ cs) = drop_nexts n cs

-- as many as are equal
equals_repeated : (n : ℕ) (v : List ℕ) (cs : List Cell) → n ≤ equals v (nexts cs) → news (take n cs) ≡ repeated n v
unfolding equals repeated flat_map
equals_repeated zero v cs h = refl
equals_repeated (suc n) v [] h = absurd (omega arith)
equals_repeated (suc n) v (c ∷ cs) h =
    let ih = equals_repeated n v cs in
    by_test (λ b. suc n ≤ cond b (suc (equals v (nexts cs))) 0 → c.new ++ news (take n cs) ≡ v ++ repeated n v) (same v c.new)
    (λ e k. ap₂ (λ (a b : List ℕ). a ++ b) (sym (same_eq v c.new e)) (ih (omega arith)))
    (λ e k. absurd (omega arith)) h

module _ (unit least longest : ℕ) (form : Form unit least longest) where
  -- the first packet of a stretch

  -- p takes the first n cells, after a gap
  record First (p : Packet) (gap : List ℕ) (cs : List Cell) : Type 0 where
    n : ℕ
    some : 1 ≤ n
    inside : n ≤ length cs
    is_units : units_of p ≡ n
    turns : {ps : List Packet} {s t : List ℕ} → Turns unit ps s t → Turns unit (p ∷ ps) (gap ++ (olds (take n cs) ++ s)) (gap ++ (news (take n cs) ++ t))

  -- a unit or more is a pixel or more
  some_pixels : (n l : ℕ) → 1 ≤ n → l ≡ unit * n → 1 ≤ l
  some_pixels n l h e = omega (arith, mul-le-mul {n₁ = 1} {m₁ = 1} {n₂ = unit} {m₂ = n} form.some_unit h)

  module _ (gap : List ℕ) (k : ℕ) (c : Cell) (cs : List Cell) (z : Sized unit (c ∷ cs)) (g : length gap ≡ k) where
    -- a repeat
    first_repeat : repeats least (nexts (c ∷ cs)) ≡ true → First (first_packet least k (nexts (c ∷ cs))) gap (c ∷ cs)
    first_repeat e =
        let all = c ∷ cs in
        let v = c.new in
        let n = min 127 (equals v (nexts all)) in
        let some : 1 ≤ n = omega (arith, equals_itself v (nexts cs)) in
        let inside : n ≤ length all = omega (arith, equals_le v (nexts all), length-map all (λ (c : Cell). c.new)) in
        let like : news (take n all) ≡ repeated n v = equals_repeated n v all (omega arith) in
        let lo : length (olds (take n all)) ≡ unit * n = length_olds unit (take n all) (sized_take unit n all z)
        ∙ ap (λ (j : ℕ). unit * j) (length-take-le n all inside) in
        subst (λ (p : Packet). First p gap all) (sym (packet_repeat least k (nexts all) e))
        (record {
          n = n;
          some = some;
          inside = inside;
          is_units = refl;
          turns = λ {ps} {s} {t} r.
              again gap (olds (take n all)) s t g (some_pixels n (length (olds (take n all))) some lo) (omega arith) lo z.1 refl
              (ap (λ (l : List ℕ). gap ++ (l ++ t)) like) r;
        })

    -- a copy
    first_copy : repeats least (nexts (c ∷ cs)) ≡ false → First (first_packet least k (nexts (c ∷ cs))) gap (c ∷ cs)
    first_copy e =
        let all = c ∷ cs in
        let n = min 127 (up_to_repeat least (nexts all)) in
        let some : 1 ≤ n = omega (arith, until_some least c.new (nexts cs) e) in
        let lm = length-map all (λ (c : Cell). c.new) in
        let inside : n ≤ length all = omega (arith, until_le least (nexts all)) in
        let vs = take n (nexts all) in
        let long : length vs ≡ n = length-take-le n (nexts all) (omega arith) in
        let flat : flatten vs ≡ news (take n all) = ap flatten (take_nexts n all) ∙ flat_nexts (take n all) in
        let lt : length (take n all) ≡ n = length-take-le n all inside in
        let as_many : unit * length (take n all) ≡ unit * length vs = ap (λ (j : ℕ). unit * j) (lt ∙ sym long) in
        let lo : length (olds (take n all)) ≡ unit * length vs = length_olds unit (take n all) (sized_take unit n all z) ∙ as_many in
        let ln : length (news (take n all)) ≡ unit * length vs = length_news unit (take n all) (sized_take unit n all z) ∙ as_many in
        subst (λ (p : Packet). First p gap all) (sym (packet_copy least k (nexts all) e))
        (record {
          n = n;
          some = some;
          inside = inside;
          is_units = long;
          turns = λ {ps} {s} {t} r.
              copied {vs = vs} gap (olds (take n all)) s t g (omega arith)
              (omega (arith, some_pixels (length vs) (length (olds (take n all))) (omega arith) lo)) lo (ap length flat ∙ ln)
              refl (ap (λ (l : List ℕ). gap ++ (l ++ t)) (sym flat)) r;
        })

    first : First (first_packet least k (nexts (c ∷ cs))) gap (c ∷ cs)
    first = by_test (λ _. First (first_packet least k (nexts (c ∷ cs))) gap (c ∷ cs)) (repeats least (nexts (c ∷ cs))) first_repeat first_copy

  -- the packets of a stretch, and what follows

  olds_parts : (n : ℕ) (cs : List Cell) (s : List ℕ) → olds (take n cs) ++ (olds (drop n cs) ++ s) ≡ olds cs ++ s
  olds_parts n cs s =
      sym (append_assoc (olds (take n cs)) (olds (drop n cs)) s)
      ∙ ap (λ (l : List ℕ). l ++ s) (sym (olds_append (take n cs) (drop n cs)) ∙ ap olds (take-append-drop n cs))

  news_parts : (n : ℕ) (cs : List Cell) (s : List ℕ) → news (take n cs) ++ (news (drop n cs) ++ s) ≡ news cs ++ s
  news_parts n cs s =
      sym (append_assoc (news (take n cs)) (news (drop n cs)) s)
      ∙ ap (λ (l : List ℕ). l ++ s) (sym (news_append (take n cs) (drop n cs)) ∙ ap news (take-append-drop n cs))

  module _ {ps : List Packet} {s t : List ℕ} (r : Turns unit ps s t) where
    joined : (gap : List ℕ) (k : ℕ) (c : Cell) (cs : List Cell) (f : First (first_packet least k (nexts (c ∷ cs))) gap (c ∷ cs))
        → Turns unit (unit_packets least 0 0 (nexts (drop f.n (c ∷ cs))) ++ ps) (olds (drop f.n (c ∷ cs)) ++ s) (news (drop f.n (c ∷ cs)) ++ t)
        → Turns unit (unit_packets least k 0 (nexts (c ∷ cs)) ++ ps) (gap ++ (olds (c ∷ cs) ++ s)) (gap ++ (news (c ∷ cs) ++ t))
    joined gap k c cs f q =
        turns_as
        (ap (λ (l : List Packet). l ++ ps)
        (sym (packets_next least k f.n c.new (nexts cs) f.some f.is_units
        ∙ ap (λ (us : List (List ℕ)). first_packet least k (nexts (c ∷ cs)) ∷ unit_packets least 0 0 us) (drop_nexts f.n (c ∷ cs)))))
        (ap (λ (l : List ℕ). gap ++ l) (olds_parts f.n (c ∷ cs) s))
        (ap (λ (l : List ℕ). gap ++ l) (news_parts f.n (c ∷ cs) t))
        (f.turns q)

    rest_of : (m : ℕ) (cs : List Cell) → length cs ≤ m → Sized unit cs
        → ((d : Cell) (ds : List Cell) → length ds < m → Sized unit (d ∷ ds)
        → Turns unit (unit_packets least 0 0 (nexts (d ∷ ds)) ++ ps) (olds (d ∷ ds) ++ s) (news (d ∷ ds) ++ t))
        → Turns unit (unit_packets least 0 0 (nexts cs) ++ ps) (olds cs ++ s) (news cs ++ t)
    unfolding unit_packets flat_map
    rest_of m [] h z ih = r
    rest_of m (d ∷ ds) h z ih = ih d ds h z

    units_turn : (m : ℕ) (gap : List ℕ) (k : ℕ) (c : Cell) (cs : List Cell) → length cs ≤ m → Sized unit (c ∷ cs) → length gap ≡ k
        → Turns unit (unit_packets least k 0 (nexts (c ∷ cs)) ++ ps) (gap ++ (olds (c ∷ cs) ++ s)) (gap ++ (news (c ∷ cs) ++ t))
    units_turn zero gap k c cs h z g =
        let f = first gap k c cs z g in
        joined gap k c cs f
        (rest_of 0 (drop f.n (c ∷ cs)) (omega (arith, length-drop f.n (c ∷ cs), f.some)) (sized_drop unit f.n (c ∷ cs) z)
        (λ d ds (l : length ds < 0) y. absurd (omega arith)))
    units_turn (suc m) gap k c cs h z g =
        let f = first gap k c cs z g in
        joined gap k c cs f
        (rest_of (suc m) (drop f.n (c ∷ cs)) (omega (arith, length-drop f.n (c ∷ cs), f.some)) (sized_drop unit f.n (c ∷ cs) z)
        (λ d ds (l : length ds < suc m) y. units_turn m [] 0 d ds (omega arith) y refl))

  -- a gap that is shortened m times
  shortened : (m : ℕ) (gap : List ℕ) → longest * m ≤ length gap → {ps : List Packet} (s t : List ℕ)
      → Turns unit ps (drop (longest * m) gap ++ s) (drop (longest * m) gap ++ t) → Turns unit (replicate m (copy longest []) ++ ps) (gap ++ s) (gap ++ t)
  unfolding flatten
  shortened zero gap h s t r =
      let none : drop (longest * 0) gap ≡ gap = ap (λ (j : ℕ). drop j gap) no_times in
      turns_as refl (ap (λ (l : List ℕ). l ++ s) none) (ap (λ (l : List ℕ). l ++ t) none) r
    where
      no_times : longest * 0 ≡ 0
      no_times = omega arith
  shortened (suc m) gap h s t r =
      let here : take longest gap ++ drop longest gap ≡ gap = take-append-drop longest gap in
      let further : drop (longest * suc m) gap ≡ drop (longest * m) (drop longest gap) =
      ap (λ (j : ℕ). drop j gap) (one_more m) ∙ sym (drop-drop (longest * m) longest gap) in
      copied {vs = []} (take longest gap) [] (drop longest gap ++ s) (drop longest gap ++ t)
      (length-take-le longest gap (omega arith)) (omega arith) (omega (arith, form.some_longest)) (omega arith) (omega arith)
      (ap (λ (l : List ℕ). l ++ s) (sym here) ∙ append_assoc (take longest gap) (drop longest gap) s)
      (ap (λ (l : List ℕ). l ++ t) (sym here) ∙ append_assoc (take longest gap) (drop longest gap) t)
      (shortened m (drop longest gap) (omega (arith, length-drop longest gap)) s t
      (turns_as refl (ap (λ (l : List ℕ). l ++ s) further) (ap (λ (l : List ℕ). l ++ t) further) r))
    where
      one_more : (m : ℕ) → longest * suc m ≡ longest + longest * m
      one_more m = omega arith

  shortenings_le : (g : ℕ) → longest * shortenings longest g ≤ g
  unfolding shortenings
  shortenings_le g = omega (arith, mul-div-le (g - 1) longest)

  -- the packets of a row
  pub packets_turn : {ss : List Stretch} {cs : List Cell} → Split ss cs → Sized unit cs
      → Turns unit (flat_map (stretch_packets unit least longest) ss) (olds cs) (news cs)
  unfolding flat_map stretch_packets gap_packets
  packets_turn (rest e) z = done e
  packets_turn (part {ss} still cs more c e m) z =
      let zs = sized_append unit still ((c ∷ cs) ++ more) z in
      let zc = sized_append unit (c ∷ cs) more zs.1 in
      let g = length_olds unit still zs.0 in
      let n = shortenings longest (unit * length still) in
      let short = shortenings_le (unit * length still) in
      turns_as (sym (append_assoc (replicate n (copy longest [])) (unit_packets least (unit * length still - longest * n) 0 (nexts (c ∷ cs)))
      (flat_map (stretch_packets unit least longest) ss)))
      (sym (olds_append still ((c ∷ cs) ++ more) ∙ ap (λ (l : List ℕ). olds still ++ l) (olds_append (c ∷ cs) more)))
      (sym (news_append still ((c ∷ cs) ++ more) ∙ ap₂ (λ (a b : List ℕ). a ++ b) (sym e) (news_append (c ∷ cs) more)))
      (shortened n (olds still) (omega (arith, g)) (olds (c ∷ cs) ++ olds more) (news (c ∷ cs) ++ news more)
      (units_turn (packets_turn m zc.1) (length cs) (drop (longest * n) (olds still)) (unit * length still - longest * n) c cs (omega arith) zc.0
      (omega (arith, length-drop (longest * n) (olds still), g))))

  -- a row of n units
  pub row_turns : (n : ℕ) (a b : List ℕ) → n * unit ≤ length a → n * unit ≤ length b
      → Turns unit (row_packets unit least longest n a b) (take (n * unit) a) (take (n * unit) b)
  unfolding row_packets
  row_turns n a b la lb =
      rw (← olds_cells unit n a b, ← news_cells unit n a b) (packets_turn (split (cells unit n a b)) (sized_cells unit n a b la lb))
