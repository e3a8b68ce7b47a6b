-- Lists that begin alike: their words and their file headers are the same.
use mathlib.Core.Path.{◌≡◌, refl, sym, ap, ap₂, ◌∙◌}
use mathlib.Core.List.{List}
use mathlib.Core.Bool.{true}
use Prim.Native.Nat.{ℕ, ◌+◌, ◌*◌, ◌≤◌, ◌<◌}
use native.Mathlib.Omega.{arith}
use borrow.Author.Tests.{le-leb}
use lib.ListN.{length, take, get_or}
use lib.Seq.{get_or-take}
use Rattle.std.specs.Prelude.{Ok, Err}
use Rattle.words.specs.Words.{u16_at, u32_at}
use Rattle.format.specs.declared.Format.{Format}
use Rattle.format.specs.declared.Format.TheVariants.{Flc, Fli}
use Rattle.format.specs.declared.Size.{Size}
use Rattle.delay.specs.declared.Milliseconds.{Milliseconds}
use Rattle.chunks.specs.Spans.{HEADER_BYTES}
use Rattle.reel_header.specs.Head.{SIZE_AT, MAGIC_AT, FRAMES_AT, WIDTH_AT, HEIGHT_AT, DEPTH_AT, FLAGS_AT, SPEED_AT, delay_in, delay_at, format_at, size_at, head_of, head_with, Headed}
use Rattle.reel_header.specs.declared.Takes.{Takes}
use Rattle.reel_header.proofs.Laws.{ReelIn, Gives, head_is, head_by, head_in}

-- words

module _ (b c : List ℕ) (n : ℕ) (e : take n c ≡ take n b) where
  front_byte : (i : ℕ) → i < n → get_or c i 0 ≡ get_or b i 0
  front_byte i h = sym (get_or-take n c i 0 h) ∙ ap (λ (x : List ℕ). get_or x i 0) e ∙ get_or-take n b i 0 h

  pub front_word : (i : ℕ) → i + 2 ≤ n → u16_at c i ≡ u16_at b i
  unfolding u16_at
  front_word i h = ap₂ (λ (x y : ℕ). x + 256 * y) (front_byte i (omega arith)) (front_byte (i + 1) (omega arith))

  pub front_word32 : (i : ℕ) → i + 4 ≤ n → u32_at c i ≡ u32_at b i
  unfolding u32_at
  front_word32 i h = ap₂ (λ (x y : ℕ). x + 65536 * y) (front_word i (omega arith)) (front_word (i + 2) (omega arith))

-- the file header

-- its size is the first word
abbrev SizeIs : ℕ → Headed → Type 0
SizeIs s (Err e) = Unit {0}
SizeIs s (Ok h) = s ≡ h.size

module _ (takes : Takes) (b : List ℕ) (z : Size) (frames size : ℕ) (speed : Milliseconds) (k : head_of takes b ≡ Ok (head_with z frames size speed)) where
  pub head_word : u32_at b SIZE_AT ≡ size
  head_word = head_by takes b (SizeIs (u32_at b SIZE_AT)) (λ e. tt) (λ p. refl) (Ok (head_with z frames size speed)) k

  pub head_front : (c : List ℕ) → take size c ≡ take size b → size ≤ length c → head_of takes c ≡ Ok (head_with z frames size speed)
  head_front c e l = head_by takes b (Gives takes c) (λ e. tt) (λ p.
      sym (head_is takes c _ _ (size_at b) _ _ _ (delay_at (format_at b) b) true true true true true true
      (word MAGIC_AT (omega arith)) (word32 SIZE_AT (omega arith)) (rw (word MAGIC_AT (omega arith), word WIDTH_AT (omega arith), word HEIGHT_AT (omega arith)))
      (word FRAMES_AT (omega arith)) (word DEPTH_AT (omega arith)) (word FLAGS_AT (omega arith)) (delay (format_at b))
      (le-leb HEADER_BYTES (length c) (omega (arith, inside.least))) p.magic p.least
      (le-leb (u32_at b SIZE_AT) (length c) (omega (arith, head_word))) p.sized p.form))
      (Ok (head_with z frames size speed)) k
    where
      inside : ReelIn b z frames size
      inside = head_in takes b _ k

      word : (i : ℕ) → i + 2 ≤ HEADER_BYTES → u16_at b i ≡ u16_at c i
      word i h = sym (front_word b c size e i (omega (arith, inside.least)))

      word32 : (i : ℕ) → i + 4 ≤ HEADER_BYTES → u32_at b i ≡ u32_at c i
      word32 i h = sym (front_word32 b c size e i (omega (arith, inside.least)))

      delay : (f : Format) → delay_at f b ≡ delay_at f c
      delay Flc = ap (delay_in Flc) (word32 SPEED_AT (omega arith))
      delay Fli = ap (delay_in Fli) (word SPEED_AT (omega arith))
