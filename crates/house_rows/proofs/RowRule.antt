-- The row rule (document 01, "House form of a frame"), for every row of every width: the house row decodes to the row; no encoding of the row has fewer bytes;
-- among first packets that begin a least encoding it has a repeat before a copy, then the longest, packet after packet; and no other packets do.
-- The idea: the encodings of a row are the bytes of the ways through it by packets (`way_encodes`, `encodes_way`), a way costs as many bytes as it has
-- (`bytes_size`), and the packets that may come first stand in the order of preference; so the laws of the least way hold of them.
use mathlib.Core.Path.{◌≡◌, refl, sym, ap, ap₂, ◌∙◌, subst}
use mathlib.Core.List.{List, [], ◌∷◌, ◌++◌}
use Prim.Native.Nat.{ℕ, zero, suc, ◌-◌, ◌≤◌}
use native.Mathlib.Omega.{arith}
use lib.ListN.{length, get_or, drop, take, replicate, length-append, length-take, length-replicate, take-append-drop}
use lib.Seq.{drop_at, take_at}
use Rattle.house_least.specs.Least.{sum, stop, go, Preferred, best}
use Rattle.house_least.proofs.Laws as laws
use Rattle.house_rows.specs.Row.{RowPacket, repeat, copy, span, size, allowed, house, bytes, house_bytes, Encodes, none, repeated, copied, Before}
use Rattle.house_rows.specs.RowRule.{Through, RowRule}
use Rattle.house_rows.proofs.Packets.{repeat_of, copy_of, repeat_mem, copy_mem, fits, some_packet, sorted, antisym}

-- packets and bytes

pub way_encodes : {s : List ℕ} {ps : List RowPacket} → Through s ps → Encodes (bytes ps s) s
unfolding bytes
way_encodes stop = none
way_encodes (go {s = s} {m = repeat n} {ms = ps} i w) =
    let r = repeat_of n s i in
    subst (λ (x : List ℕ). Encodes (n ∷ (get_or s 0 0 ∷ bytes ps (drop n s))) x)
    (ap (λ (x : List ℕ). x ++ drop n s) (sym r.all) ∙ take-append-drop n s)
    (repeated n (get_or s 0 0) r.low r.high (way_encodes w))
way_encodes (go {s = s} {m = copy n} {ms = ps} i w) =
    let c = copy_of n s i in
    let m : length (take n s) ≡ n = length-take n s ∙ omega arith in
    subst (λ (x : List ℕ). Encodes ((256 - n) ∷ (take n s ++ bytes ps (drop n s))) x)
    (take-append-drop n s)
    (subst (λ (k : ℕ). Encodes ((256 - k) ∷ (take n s ++ bytes ps (drop n s))) (take n s ++ drop n s)) m
    (copied (take n s) (omega arith) (omega arith) (way_encodes w)))

pub bytes_size : {s : List ℕ} {ps : List RowPacket} → Through s ps → length (bytes ps s) ≡ sum size ps
unfolding bytes sum
bytes_size stop = refl
bytes_size (go {s = s} {m = repeat n} {ms = ps} i w) = omega (arith, bytes_size w)
bytes_size (go {s = s} {m = copy n} {ms = ps} i w) =
    let c = copy_of n s i in
    omega (arith, length-append (take n s) (bytes ps (drop n s)), length-take n s, bytes_size w)

first_of : (n v : ℕ) (s : List ℕ) → 1 ≤ n → get_or (replicate n v ++ s) 0 0 ≡ v
first_of zero v s l = absurd (omega arith)
first_of (suc n) v s l = refl

pub encodes_way : {bs s : List ℕ} → Encodes bs s → (ps : List RowPacket) × Through s ps × (bs ≡ bytes ps s)
unfolding bytes
encodes_way none = ([], stop, refl)
encodes_way (repeated {bs} {s} n v l h e) =
    let (ps, w, p) = encodes_way e in
    let d = drop_at (replicate n v) s n (length-replicate n v) in (
      repeat n ∷ ps,
      go (repeat_mem n v s l h) (subst (λ (r : List ℕ). Through r ps) (sym d) w),
      ap₂ (λ (x : ℕ) (r : List ℕ). n ∷ (x ∷ r)) (sym (first_of n v s l)) (p ∙ ap (bytes ps) (sym d)),
    )
encodes_way (copied {bs} {s} vs l h e) =
    let (ps, w, p) = encodes_way e in
    let d = drop_at vs s (length vs) refl in (
      copy (length vs) ∷ ps,
      go (copy_mem (vs ++ s) (length vs) l h (simp length-append (omega arith))) (subst (λ (r : List ℕ). Through r ps) (sym d) w),
      ap₂ (λ (x r : List ℕ). (256 - length vs) ∷ (x ++ r)) (sym (take_at vs s (length vs) refl)) (p ∙ ap (bytes ps) (sym d)),
    )

-- the house row

-- the least size of an encoding of s
unfoldable pub least_size : List ℕ → ℕ
least_size s = (best span size allowed s).total

pub house_way : (s : List ℕ) → Through s (house s)
unfolding house
house_way s = laws.is_way span size allowed fits some_packet s

pub house_size : (s : List ℕ) → length (house_bytes s) ≡ least_size s
unfolding house_bytes house least_size
house_size s = bytes_size (house_way s) ∙ laws.best_cost span size allowed fits some_packet s

pub house_encodes : (s : List ℕ) → Encodes (house_bytes s) s
unfolding house_bytes
house_encodes s = way_encodes (house_way s)

pub house_least : (bs s : List ℕ) → Encodes bs s → length (house_bytes s) ≤ length bs
unfolding least_size
house_least bs s e =
    let (ps, w, p) = encodes_way e in
    omega (arith, house_size s, laws.way_cost span size allowed fits some_packet w, bytes_size w, ap length p)

pub house_ties : (s : List ℕ) → Preferred span size allowed Before s (house s)
unfolding house
house_ties s = laws.is_house span size allowed fits some_packet Before sorted antisym s

pub house_only : (s : List ℕ) (ps : List RowPacket) → Preferred span size allowed Before s ps → ps ≡ house s
house_only s ps h = laws.one_house span size allowed fits some_packet Before sorted antisym h (house_ties s)

pub row_rule : (s : List ℕ) → RowRule s
row_rule s =
    record {
      through = λ ps w. (way_encodes w, bytes_size w);
      encodings = λ bs e. encodes_way e;
      decodes = house_encodes s;
      least = λ bs e. house_least bs s e;
      ties = house_ties s;
      only = house_only s;
    }
