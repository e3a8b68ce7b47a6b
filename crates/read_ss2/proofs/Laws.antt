-- Laws of kind 7, SS2: what a word says, what a line says and does, what lines and a body come to.
use mathlib.Core.Path.{◌≡◌, ap, ap₂, ◌∙◌, sym, refl, subst}
use mathlib.Core.List.{List, [], ◌∷◌}
use mathlib.Core.Bool.{Bool, true, false, cond}
use Prim.Native.Nat.{ℕ, suc, zero, ◌≤◌, ◌<◌, ◌+◌, ◌-◌, ◌*◌, ◌/◌, ◌%◌}
use native.Mathlib.Nat.{not-suc-le-zero, le_of_suc-le-suc}
use native.Mathlib.Numerals.{sub-one}
use native.Mathlib.Omega.{arith}
use borrow.Author.Tests.{le-leb, lt-leb, leb-true, leb-false, ltb-true}
use lib.Dec.{leb, ltb}
use lib.ListN.{length, get_or}
use Rattle.std.specs.Prelude.{Ok, Err, Some, None}
use Rattle.words.specs.Words.{require◌else◌then◌, u16_at}
use Rattle.words.proofs.Tests.{by_test}
use Rattle.words.proofs.Laws.{row_in}
use Rattle.answer.specs.declared.Refusal.{Refusal}
use Rattle.answer.specs.declared.Refusal.TheVariants.{BodyEnds, PastHeight}
use Rattle.walk.specs.declared.Pass.{Pass}
use Rattle.walk.specs.Walk.{Walk, ends, fault, onward, wrote, Verdict}
use Rattle.walk.proofs.Laws.{VerdictIn, wrote_none, wrote_one, wrote_then, seen, seen_onward, seen_stopped}
use Rattle.walk.proofs.Sound.{Sound, sound_ends, sound_fault, sound_then, sound_onward}
use Rattle.read_packets.specs.Packets.{packets}
use Rattle.read_packets.proofs.Laws.{packets_sound}
use Rattle.read_ss2.specs.Ss2.{LastPixel, LineStep, by_high, word_of, count_after, last_at, line_of, line_at, last_first, line_walk, after_line, lines, ss2}
use Rattle.read_ss2.specs.declared.Word.{Word}
use Rattle.read_ss2.specs.declared.Word.TheVariants.{Count, Bad, Last, Skip}
use Rattle.read_ss2.specs.declared.Line.TheVariants.{Down, Row}

-- a word

-- how far a skip goes
pub word_skip : (w k : ℕ) → word_of w ≡ Skip k → k ≡ 65536 - w
unfolding word_of
word_skip w k e = go (w / 16384) e
  where
    go : (q : ℕ) → by_high q w ≡ Skip k → k ≡ 65536 - w
    go zero e = let z : ◌≡◌ {A = ℕ} 0 1 = cc in absurd (omega arith)
    go (suc zero) e = let z : ◌≡◌ {A = ℕ} 0 1 = cc in absurd (omega arith)
    go (suc (suc zero)) e = let z : ◌≡◌ {A = ℕ} 0 1 = cc in absurd (omega arith)
    go (suc (suc (suc n))) e = cc

-- a last pixel is the low byte of its word
word_last : (w v : ℕ) → word_of w ≡ Last v → v < 256
unfolding word_of
word_last w v e = go (w / 16384) e
  where
    go : (q : ℕ) → by_high q w ≡ Last v → v < 256
    go zero e = let z : ◌≡◌ {A = ℕ} 0 1 = cc in absurd (omega arith)
    go (suc zero) e = let z : ◌≡◌ {A = ℕ} 0 1 = cc in absurd (omega arith)
    go (suc (suc zero)) e = let z : w % 256 ≡ v = cc in omega arith
    go (suc (suc (suc n))) e = let z : ◌≡◌ {A = ℕ} 0 1 = cc in absurd (omega arith)

-- the packet count after a last-pixel word

module _ (b : List ℕ) (at v : ℕ) where
  pub last_cut : length b < at + 2 → last_at b at v ≡ Err BodyEnds
  unfolding last_at
  last_cut h = simp (lt-leb (at + 2) (length b) h)

  pub last_there : (u : Word) → at + 2 ≤ length b → u ≡ word_of (u16_at b at) → last_at b at v ≡ count_after (at + 2) v u
  unfolding last_at
  last_there u h e = simp (le-leb (at + 2) (length b) h) (ap (count_after (at + 2) v) (sym e))

-- a line by its first word

module _ (h : ℕ) (b : List ℕ) (at row : ℕ) where
  pub line_cut : length b < at + 2 → line_at h b at row ≡ Err BodyEnds
  unfolding line_at
  line_cut k = simp (lt-leb (at + 2) (length b) k)

  pub line_there : (u : Word) → at + 2 ≤ length b → u ≡ word_of (u16_at b at) → line_at h b at row ≡ line_of h b (at + 2) row u
  unfolding line_at
  line_there u k e = simp (le-leb (at + 2) (length b) k) (ap (line_of h b (at + 2) row) (sym e))

-- the last pixel, if a line sets it, is a byte
abbrev pub PixelByte : LastPixel → Type 0
PixelByte None = Unit {0}
PixelByte (Some v) = v < 256

-- what holds of a line on row row, at offset at: its packets begin within the body, a skip goes to a row above the height
abbrev pub LineIn : ℕ → List ℕ → ℕ → ℕ → LineStep → Type 0
LineIn h b at row (Err e) = Unit {0}
LineIn h b at row (Ok (Down k)) = (at + 2 ≤ length b) × (row + k < h) × (k ≡ 65536 - u16_at b at)
LineIn h b at row (Ok (Row last n from)) = (from ≤ length b) × (row < h) × PixelByte last

-- of the line that a last-pixel word and the word after it make
last_in : (h : ℕ) (b : List ℕ) (at to v row : ℕ) → row < h → v < 256 → LineIn h b at row (last_at b to v)
last_in h b at to v row k p = go (leb (to + 2) (length b)) refl
  where
    word : (u : Word) → to + 2 ≤ length b → LineIn h b at row (count_after (to + 2) v u)
    word (Count n) i = (i, k, p)
    word Bad i = tt
    word (Last v') i = tt
    word (Skip n) i = tt

    go : (c : Bool) → leb (to + 2) (length b) ≡ c → LineIn h b at row (last_at b to v)
    go false e = rw (last_cut b to v (leb-false _ _ e)) tt
    go true e =
        let i = leb-true (to + 2) (length b) e in
        rw (last_there b to v (word_of (u16_at b to)) i refl) (word (word_of (u16_at b to)) i)

-- of a line that stands only where row m lies above the height
above_in : (h : ℕ) (b : List ℕ) (at row m : ℕ) (l : LineStep) → (m < h → LineIn h b at row l) → LineIn h b at row (cond (ltb m h) l (Err PastHeight))
above_in h b at row m l f =
    by_test (λ c. LineIn h b at row (cond c l (Err PastHeight))) (ltb m h)
    (λ e. f (ltb-true m h e))
    (λ e. tt)

line_there_in : (h : ℕ) (b : List ℕ) (at row : ℕ) → LineIn h b at row (line_at h b at row)
line_there_in h b at row = go (leb (at + 2) (length b)) refl
  where
    word : (u : Word) → u ≡ word_of (u16_at b at) → at + 2 ≤ length b → LineIn h b at row (line_of h b (at + 2) row u)
    word (Count n) e k = above_in h b at row row (Ok (Row None n (at + 2))) (λ l. (k, l, tt))
    word Bad e k = tt
    word (Last v) e k = above_in h b at row row (last_at b (at + 2) v) (λ l. last_in h b at (at + 2) v row l (word_last (u16_at b at) v (sym e)))
    word (Skip m) e k = above_in h b at row (row + m) (Ok (Down m)) (λ l. (k, l, word_skip (u16_at b at) m (sym e)))

    go : (c : Bool) → leb (at + 2) (length b) ≡ c → LineIn h b at row (line_at h b at row)
    go false e = rw (line_cut h b at row (leb-false _ _ e)) tt
    go true e =
        let k = leb-true (at + 2) (length b) e in
        rw (line_there h b at row (word_of (u16_at b at)) k refl) (word (word_of (u16_at b at)) refl k)

module _ (h : ℕ) (b : List ℕ) (at row : ℕ) where
  pub line_in : (l : LineStep) → line_at h b at row ≡ l → LineIn h b at row l
  line_in l e = subst (LineIn h b at row) e (line_there_in h b at row)

  -- in a body of bytes a skip goes down
  pub line_down : (k : ℕ) → line_at h b at row ≡ Ok (Down k) → ((i : ℕ) → get_or b i 0 < 256) → 0 < k
  unfolding u16_at
  line_down k e small = omega (arith, (line_in (Ok (Down k)) e).2, small at, small (at + 1))

-- a line's last pixel and packets

module _ (w : ℕ) (b : List ℕ) (row : ℕ) where
  -- it writes its last pixel, and then what its packets write
  pub line_wrote : (p : Pass) (last : LastPixel) (count from : ℕ) (d : List ℕ)
      → wrote p (line_walk w b row last count from).writes d
      ≡ wrote p (packets 2 w b count row from 0).writes (wrote p (last_first w row last (ends 0)).writes d)
  unfolding line_walk
  line_wrote p None count from d = ap (wrote p (packets 2 w b count row from 0).writes) (sym (wrote_none p d))
  line_wrote p (Some v) count from d =
      wrote_then p (row * w + (w - 1)) (v ∷ []) d (packets 2 w b count row from 0)
      ∙ ap (wrote p (packets 2 w b count row from 0).writes) (sym (wrote_one p (row * w + (w - 1)) (v ∷ []) d))

  -- it comes out as its packets do
  pub line_packets_lem : (last : LastPixel) (count from : ℕ) → (line_walk w b row last count from).verdict ≡ (packets 2 w b count row from 0).verdict
  unfolding line_walk
  line_packets_lem None count from = refl
  line_packets_lem (Some v) count from = refl

  -- its data ends within the body, also where there is no column
  pub line_ends : (last : LastPixel) (count from : ℕ) → from ≤ length b → VerdictIn b (line_walk w b row last count from).verdict
  line_ends last count from k = subst (VerdictIn b) (sym (line_packets_lem last count from))
      (packets_sound 2 w b (row + 1) count row from 0 k (omega arith)).ends_in

  -- it writes bytes of the body, within a picture of h rows
  pub line_sound : (h : ℕ) (last : LastPixel) (count from : ℕ) → PixelByte last → from ≤ length b → 1 ≤ w → row < h
      → Sound b (w * h) (line_walk w b row last count from)
  unfolding line_walk
  line_sound h None count from p i k l = packets_sound 2 w b h count row from 0 i l
  line_sound h (Some v) count from p i k l =
      sound_then b (w * h) (row * w + (w - 1)) (v ∷ []) (packets 2 w b count row from 0) (omega (arith, row_in w h row l)) (λ j. (p, tt))
      (packets_sound 2 w b h count row from 0 i l)

-- lines

-- n lines from offset at on, standing on row row
abbrev pub lines_from : ℕ → ℕ → List ℕ → ℕ → ℕ → ℕ → Walk
lines_from w h b n row at = lines w h b (suc (h - row)) 0 n row at

module _ (w h : ℕ) (b : List ℕ) where
  lines_at : (n at r r' row row' : ℕ) → r ≡ r' → row ≡ row' → lines w h b r 0 n row at ≡ lines w h b r' 0 n row' at
  lines_at n at r r' row row' p q = ap₂ (λ (x y : ℕ). lines w h b x 0 n y at) p q

  lines_skip : (r k n row at : ℕ) → k ≤ r → lines w h b r k n row at ≡ lines w h b (r - k) 0 n (row + k) at
  unfolding lines
  lines_skip r zero n row at i = lines_at n at r (r - 0) row (row + 0) (omega arith) (omega arith)
  lines_skip zero (suc k) n row at i = absurd (not-suc-le-zero i)
  lines_skip (suc r) (suc k) n row at i =
      lines_skip r k n (row + 1) at (le_of_suc-le-suc i) ∙ lines_at n at (r - k) (suc r - suc k) (row + 1 + k) (row + suc k) (omega arith) (omega arith)

  pub lines_none : (n row at : ℕ) → n ≤ 0 → lines_from w h b n row at ≡ ends at
  unfolding lines
  lines_none zero row at i = refl
  lines_none (suc n) row at i = absurd (not-suc-le-zero i)

  -- lines of which the first says l
  lines_as : (n row at : ℕ) → 0 < n → (l : LineStep) → line_at h b at row ≡ l
      → lines_from w h b n row at
      ≡ after_line w h b row l (λ end. lines w h b (h - row) 0 (n - 1) (row + 1) end) (λ k. lines w h b (h - row) (k - 1) n (row + 1) (at + 2))
  unfolding lines
  lines_as zero row at i l e = absurd (not-suc-le-zero i)
  lines_as (suc n) row at i l e =
      ap₂ (λ (x : LineStep) (m : ℕ). after_line w h b row x (λ end. lines w h b (h - row) 0 m (row + 1) end)
      (λ k. lines w h b (h - row) (k - 1) (suc n) (row + 1) (at + 2)))
      e (sym (sub-one (suc n)))

  module _ (n row at : ℕ) (some : 0 < n) where
    pub lines_stop : (e : Refusal) → line_at h b at row ≡ Err e → lines_from w h b n row at ≡ fault e
    lines_stop e q = lines_as n row at some (Err e) q

    pub lines_down : (k : ℕ) → line_at h b at row ≡ Ok (Down k) → 0 < k → row + k < h → lines_from w h b n row at ≡ lines_from w h b n (row + k) (at + 2)
    lines_down k q far fits =
        let r : h - row - (k - 1) ≡ suc (h - (row + k)) = omega arith in
        let s : row + 1 + (k - 1) ≡ row + k = omega arith in
        lines_as n row at some (Ok (Down k)) q ∙ lines_skip (h - row) (k - 1) n (row + 1) (at + 2) (omega arith) ∙ lines_at n (at + 2) _ _ _ _ r s

    module _ (last : LastPixel) (count from : ℕ) (q : line_at h b at row ≡ Ok (Row last count from)) (fits : row < h) where
      -- the first line has packets, and comes out as v
      pub lines_row : (v : Verdict) → (line_walk w b row last count from).verdict ≡ v
          → lines_from w h b n row at ≡ onward (line_walk w b row last count from).writes v (λ end. lines_from w h b (n - 1) (row + 1) end)
      lines_row v e =
          let r : h - row ≡ suc (h - (row + 1)) = omega arith in
          lines_as n row at some (Ok (Row last count from)) q
          ∙ ap₂ (λ (x : Verdict) (y : ℕ). onward (line_walk w b row last count from).writes x (λ end. lines w h b y 0 (n - 1) (row + 1) end)) e r

      -- a pass over the first line leaves e of d: where it ended, and the lines after it; where it met a fault
      module _ (p : Pass) (d e : List ℕ) (left : e ≡ wrote p (line_walk w b row last count from).writes d) where
        pub lines_on : (end : ℕ) → (line_walk w b row last count from).verdict ≡ Ok end
            → seen p (lines_from w h b n row at) d ≡ seen p (lines_from w h b (n - 1) (row + 1) end) e
        lines_on end v =
            ap (λ (k : Walk). seen p k d) (lines_row _ refl)
            ∙ seen_onward p (line_walk w b row last count from) (λ end. lines_from w h b (n - 1) (row + 1) end) d e left end v

        pub lines_stopped : (f : Refusal) → (line_walk w b row last count from).verdict ≡ Err f
            → seen p (lines_from w h b n row at) d ≡ (Err f, e)
        lines_stopped f v =
            ap (λ (k : Walk). seen p k d) (lines_row _ refl)
            ∙ seen_stopped p (line_walk w b row last count from) (λ end. lines_from w h b (n - 1) (row + 1) end) d e left f v

  -- their data ends within the body, and they write bytes of it, within the picture
  pub lines_sound : (r skip n row at : ℕ) → at ≤ length b → 1 ≤ w → Sound b (w * h) (lines w h b r skip n row at)
  unfolding lines
  lines_sound zero skip n row at i k = sound_fault b (w * h) PastHeight
  lines_sound (suc r) (suc skip) n row at i k = lines_sound r skip n (row + 1) at i k
  lines_sound (suc r) zero zero row at i k = sound_ends b (w * h) at i
  lines_sound (suc r) zero (suc n) row at i k =
      go (line_at h b at row) (line_there_in h b at row) (λ end j. lines_sound r 0 n (row + 1) end j k)
      (λ m j. lines_sound r (m - 1) (suc n) (row + 1) (at + 2) j k)
    where
      go : (l : LineStep) → LineIn h b at row l
          → ((end : ℕ) → end ≤ length b → Sound b (w * h) (lines w h b r 0 n (row + 1) end))
          → ((m : ℕ) → at + 2 ≤ length b → Sound b (w * h) (lines w h b r (m - 1) (suc n) (row + 1) (at + 2)))
          → Sound b (w * h) (after_line w h b row l (λ end. lines w h b r 0 n (row + 1) end) (λ m. lines w h b r (m - 1) (suc n) (row + 1) (at + 2)))
      go (Err e) i f g = sound_fault b (w * h) e
      go (Ok (Down m)) i f g = g m i.0
      go (Ok (Row last count from)) i f g =
          sound_onward b (w * h) (line_walk w b row last count from).writes (line_walk w b row last count from).verdict (λ end. lines w h b r 0 n (row + 1) end)
          (line_sound w b row h last count from i.2 i.0 k i.1) f

-- a body

module _ (w h : ℕ) (b : List ℕ) where
  pub ss2_cut : length b < 2 → ss2 w h b ≡ fault BodyEnds
  unfolding ss2
  ss2_cut k = simp (lt-leb 2 (length b) k)

  pub ss2_open : (n : ℕ) → 2 ≤ length b → n ≡ u16_at b 0 → ss2 w h b ≡ lines_from w h b n 0 2
  unfolding ss2
  ss2_open n k e =
      let z : h ≡ h - 0 = omega arith in
      simp (le-leb 2 (length b) k) (ap₂ (λ (x y : ℕ). lines w h b (suc y) 0 x 0 2) (sym e) z)

  -- its data ends within it, and it writes bytes of it, within the picture
  pub ss2_sound : 1 ≤ w → Sound b (w * h) (ss2 w h b)
  unfolding ss2
  ss2_sound k =
      by_test (λ t. Sound b (w * h) (require t else fault BodyEnds then lines w h b (suc h) 0 (u16_at b 0) 0 2)) (leb 2 (length b))
      (λ e. lines_sound w h b (suc h) 0 (u16_at b 0) 0 2 (leb-true _ _ e) k) (λ e. sound_fault b (w * h) BodyEnds)
