-- Laws of the definitions in specs/ that the proofs of the readers cite.
use mathlib.Core.Path.{◌≡◌, ap, ◌∙◌, sym, refl, subst, ap₂}
use mathlib.Core.List.{List, [], ◌∷◌, map}
use mathlib.Core.Bool.{Bool, true, false, cond}
use Prim.Native.Nat.{ℕ, suc, zero, ◌≤◌, ◌<◌, ◌+◌, ◌-◌, ◌*◌}
use native.Mathlib.Nat.{le_of_suc-le-suc, not-suc-le-zero}
use native.Mathlib.Numerals.{sub-one}
use native.Mathlib.Omega.{arith}
use borrow.Author.Tests.{le-leb, lt-leb, leb-true}
use lib.ListN.{length, drop, take, get_or, length-map, length-drop}
use lib.Seq.{length-take-le}
use lib.Dec.{leb}
use Rattle.std.specs.Prelude.{Ok, Err}
use Rattle.words.specs.Words.{require◌else◌then◌, u16_at, Bytes}
use Rattle.words.proofs.Laws.{bytes_take, bytes_drop}
use Rattle.words.proofs.Runs.{map_same}
use Rattle.words.proofs.Tests.{by_test, both_true}
use Rattle.format.specs.Format.{max_level, raised}
use Rattle.format.proofs.Laws.{raised_byte}
use Rattle.walk.proofs.Sound.{Sound, sound_ends, sound_fault, sound_then}
use Rattle.walk.specs.Walk.{Walk, ends, fault, and_then, stored}
use Rattle.walk.specs.declared.Pass.{Pass}
use Rattle.walk.proofs.Laws.{seen, seen_then}
use Rattle.read_colour.specs.Colour.{level, low_levels, levels_ok, count_of, packets, packet_of, packet_at, after_packet, colour, colours_at, ColourStep}
use Rattle.answer.specs.declared.Refusal.{Refusal}
use Rattle.answer.specs.declared.Refusal.TheVariants.{BodyEnds, PastPalette, OverLevel}
use Rattle.read_colour.specs.declared.Colours.{Colours}
use Rattle.read_colour.specs.declared.Levels.{Levels}
use Rattle.read_colour.specs.declared.Levels.TheVariants.{Of64, Of256}

-- a count that is not 0 is itself
pub count_pos : (x : ℕ) → (x ≡ 0 → ⊥) → x ≡ count_of x
unfolding count_of
count_pos zero h = absurd (h refl)
count_pos (suc x) h = refl

-- levels

pub level_small : (xs : List ℕ) (i : ℕ) → low_levels xs ≡ true → i < length xs → get_or xs i 0 ≤ max_level
unfolding low_levels
level_small [] i h k = absurd (not-suc-le-zero k)
level_small (x ∷ xs) zero h k = leb-true x max_level (both_true (leb x max_level) (low_levels xs) h).0
level_small (x ∷ xs) (suc i) h k = level_small xs i (both_true (leb x max_level) (low_levels xs) h).1 (le_of_suc-le-suc k)

-- what is shown of components in range, of bytes, are bytes
raised_bytes : (xs : List ℕ) → low_levels xs ≡ true → Bytes (map raised xs)
unfolding low_levels
raised_bytes [] h = tt
raised_bytes (x ∷ xs) h =
    let p = both_true (leb x max_level) (low_levels xs) h in
    (raised_byte x (leb-true x max_level p.0), raised_bytes xs p.1)

level_bytes : (levels : Levels) (xs : List ℕ) → levels_ok levels xs ≡ true → Bytes xs → Bytes (map (level levels) xs)
unfolding level levels_ok
level_bytes Of64 xs h k = raised_bytes xs h
level_bytes Of256 xs h k = subst Bytes (sym (map_same (level Of256) (λ x. refl) xs)) k

-- a packet

-- the packet at at, where its two bytes give j and m
pub packet_at_lem : (levels : Levels) (b : List ℕ) (at i j m : ℕ) → at + 2 ≤ length b → j ≡ i + get_or b at 0 → m ≡ count_of (get_or b (at + 1) 0)
    → packet_of levels b at j m ≡ packet_at levels b at i
unfolding packet_at
packet_at_lem levels b at i j m h ej em = simp (le-leb (at + 2) (length b) h) (ap₂ (λ (x y : ℕ). packet_of levels b at x y) ej em)

pub packet_cut : (levels : Levels) (b : List ℕ) (at i : ℕ) → length b < at + 2 → packet_at levels b at i ≡ Err BodyEnds
unfolding packet_at
packet_cut levels b at i h = simp (lt-leb (at + 2) (length b) h)

module _ (levels : Levels) (b : List ℕ) (at j m : ℕ) where
  pub packet_past : 256 < j + m → packet_of levels b at j m ≡ Err PastPalette
  unfolding packet_of
  packet_past k = simp (lt-leb (j + m) 256 k)

  pub packet_short : j + m ≤ 256 → length b < at + 2 + 3 * m → packet_of levels b at j m ≡ Err BodyEnds
  unfolding packet_of
  packet_short k l = simp (le-leb (j + m) 256 k, lt-leb (at + 2 + 3 * m) (length b) l)

  pub packet_level : at + 2 + 3 * m ≤ length b → j + m ≤ 256 → levels_ok levels (take (3 * m) (drop (at + 2) b)) ≡ false
      → packet_of levels b at j m ≡ Err OverLevel
  unfolding packet_of
  packet_level h k e = simp (le-leb (j + m) 256 k, le-leb (at + 2 + 3 * m) (length b) h, e)

  pub packet_whole : at + 2 + 3 * m ≤ length b → j + m ≤ 256 → levels_ok levels (take (3 * m) (drop (at + 2) b)) ≡ true
      → packet_of levels b at j m ≡ Ok (colours_at (at + 2) (3 * j) (3 * m) (j + m))
  unfolding packet_of
  packet_whole h k e = simp (le-leb (j + m) 256 k, le-leb (at + 2 + 3 * m) (length b) h, e)

-- its bounds: it lies in the body and in the palette, and its components are in range

abbrev pub PacketIn : Levels → List ℕ → ColourStep → Type 0
PacketIn levels b (Err e) = Unit {0}
PacketIn levels b (Ok p) =
    (p.from + p.len ≤ length b) × (p.to + p.len ≤ 768) × (p.next ≤ 256) × (levels_ok levels (take p.len (drop p.from b)) ≡ true)

pub packet_in : (levels : Levels) (b : List ℕ) (at i : ℕ) (p : ColourStep) → packet_at levels b at i ≡ p → PacketIn levels b p
unfolding packet_at packet_of
packet_in levels b at i p e =
    subst (PacketIn levels b) e
    (go (leb (at + 2) (length b)) (leb (j + m) 256) (leb (at + 2 + 3 * m) (length b)) (levels_ok levels (take (3 * m) (drop (at + 2) b))) refl refl refl)
  where
    j : ℕ
    j = i + get_or b at 0

    m : ℕ
    m = count_of (get_or b (at + 1) 0)

    go : (a k l v : Bool) → leb (j + m) 256 ≡ k → leb (at + 2 + 3 * m) (length b) ≡ l → levels_ok levels (take (3 * m) (drop (at + 2) b)) ≡ v
        → PacketIn levels b (cond a
        (cond k (cond l (cond v (Ok (colours_at (at + 2) (3 * j) (3 * m) (j + m))) (Err OverLevel)) (Err BodyEnds)) (Err PastPalette)) (Err BodyEnds))
    go false k l v p q r = tt
    go true false l v p q r = tt
    go true true false v p q r = tt
    go true true true false p q r = tt
    go true true true true p q r =
        let h = leb-true (j + m) 256 p in
        (leb-true (at + 2 + 3 * m) (length b) q, omega arith, h, r)

-- packets

module _ (levels : Levels) (b : List ℕ) where
  packets_step : (n at i : ℕ) → 0 < n → packets levels b n at i ≡ after_packet levels b (packet_at levels b at i) (λ at' i'. packets levels b (n - 1) at' i')
  unfolding packets
  packets_step zero at i h = absurd (not-suc-le-zero h)
  packets_step (suc n) at i h = ap (λ (k : ℕ). after_packet levels b (packet_at levels b at i) (λ at' i'. packets levels b k at' i')) (sym (sub-one (suc n)))

  pub packets_none : (n at i : ℕ) → n ≤ 0 → packets levels b n at i ≡ ends at
  unfolding packets
  packets_none zero at i h = refl
  packets_none (suc n) at i h = absurd (not-suc-le-zero h)

  pub packets_stop : (n at i : ℕ) → 0 < n → (e : Refusal) → Err e ≡ packet_at levels b at i → packets levels b n at i ≡ fault e
  packets_stop n at i h e q = packets_step n at i h ∙ ap (λ (p : ColourStep). after_packet levels b p (λ at' i'. packets levels b (n - 1) at' i')) (sym q)

  pub packets_more : (n at i : ℕ) → 0 < n → (from to len next : ℕ) → Ok (colours_at from to len next) ≡ packet_at levels b at i
      → packets levels b n at i ≡ and_then to (map (level levels) (take len (drop from b))) (packets levels b (n - 1) (from + len) next)
  packets_more n at i h from to len next q = packets_step n at i h
      ∙ ap (λ (p : ColourStep). after_packet levels b p (λ at' i'. packets levels b (n - 1) at' i')) (sym q)

  -- a whole packet after k of n, which leaves e of d, and then the packets after it
  pub packets_on : (p : Pass) (d e : List ℕ) (n k at i : ℕ) → k < n → (c : Colours) → Ok c ≡ packet_at levels b at i
      → e ≡ stored p d c.to (map (level levels) (take c.len (drop c.from b)))
      → seen p (packets levels b (n - k) at i) d ≡ seen p (packets levels b (n - (k + 1)) (c.from + c.len) c.next) e
  packets_on p d e n k at i h c q s =
      let v = map (level levels) (take c.len (drop c.from b)) in
      let less : n - k - 1 ≡ n - (k + 1) = omega arith in
      ap (λ (w : Walk). seen p w d)
      (packets_more (n - k) at i (omega arith) _ _ _ _ q ∙ ap (λ (m : ℕ). and_then c.to v (packets levels b m (c.from + c.len) c.next)) less)
      ∙ seen_then p c.to v d (packets levels b (n - (k + 1)) (c.from + c.len) c.next)
      ∙ ap (seen p (packets levels b (n - (k + 1)) (c.from + c.len) c.next)) (sym s)

  pub colours_open : (n : ℕ) → 2 ≤ length b → n ≡ u16_at b 0 → colour levels b ≡ packets levels b n 2 0
  unfolding colour
  colours_open n h e = simp (le-leb 2 (length b) h) (ap (λ (k : ℕ). packets levels b k 2 0) (sym e))

  pub colours_cut : length b < 2 → colour levels b ≡ fault BodyEnds
  unfolding colour
  colours_cut h = simp (lt-leb 2 (length b) h)

-- the levels of each kind

pub level_64 : (xs : List ℕ) → map raised xs ≡ map (level Of64) xs
unfolding level
level_64 xs = refl

pub level_256 : (xs : List ℕ) → map (level Of256) xs ≡ xs
unfolding level
level_256 xs = map_same (level Of256) (λ x. refl) xs

pub levels_64 : (xs : List ℕ) → levels_ok Of64 xs ≡ low_levels xs
unfolding levels_ok
levels_64 xs = refl

pub levels_256 : (xs : List ℕ) → levels_ok Of256 xs ≡ true
unfolding levels_ok
levels_256 xs = refl

-- the whole body: its data ends within it, and it writes bytes, within the palette

packets_sound : (levels : Levels) (b : List ℕ) (n at i : ℕ) → at ≤ length b → Sound b 768 (packets levels b n at i)
unfolding packets
packets_sound levels b zero at i h = sound_ends b 768 at h
packets_sound levels b (suc n) at i h = go (packet_at levels b at i) (packet_in levels b at i _ refl) (λ at' i' k. packets_sound levels b n at' i' k)
  where
    go : (p : ColourStep) → PacketIn levels b p → ((at' i' : ℕ) → at' ≤ length b → Sound b 768 (packets levels b n at' i'))
        → Sound b 768 (after_packet levels b p (λ at' i'. packets levels b n at' i'))
    go (Err e) k ih = sound_fault b 768 e
    go (Ok p) k ih =
        let v = take p.len (drop p.from b) in
        sound_then b 768 p.to (map (level levels) v) (packets levels b n (p.from + p.len) p.next)
        (omega (arith, length-map v (level levels), length-take-le p.len (drop p.from b) (simp length-drop (omega (arith, k.0))), k.1))
        (λ j. level_bytes levels v k.3 (bytes_take p.len (drop p.from b) (bytes_drop p.from b j))) (ih (p.from + p.len) p.next k.0)

pub colour_sound : (levels : Levels) (b : List ℕ) → Sound b 768 (colour levels b)
unfolding colour
colour_sound levels b =
    by_test (λ t. Sound b 768 (require t else fault BodyEnds then packets levels b (u16_at b 0) 2 0)) (leb 2 (length b))
    (λ e. packets_sound levels b (u16_at b 0) 2 0 (leb-true 2 (length b) e)) (λ e. sound_fault b 768 BodyEnds)
