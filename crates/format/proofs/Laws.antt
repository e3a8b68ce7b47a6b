-- Laws of the limits and of levels.
use mathlib.Core.Path.{◌≡◌, refl}
use mathlib.Core.Bool.{true, ◌&&◌}
use Prim.Native.Nat.{ℕ, zero, suc, ◌≤◌, ◌<◌}
use native.Mathlib.Omega.{arith}
use native.Mathlib.Nat.{mul-le-mul}
use borrow.Author.Tests.{leb-true, eqb-true}
use lib.Dec.{leb, eqb}
use Rattle.words.proofs.Tests.{both_true}
use Rattle.format.specs.Format.{max_level, raised}
use Rattle.format.specs.Limits.{max_width, max_height, size_ok, size_in, size_fits, format_from, Sized}
use Rattle.format.specs.declared.Format.{Format}
use Rattle.format.specs.declared.Format.TheVariants.{Flc, Fli}
use Rattle.format.specs.declared.Size.{Size}

-- a size that was found to be in range
pub size_ok_in : (w h : ℕ) → size_ok w h ≡ true → Sized w h
size_ok_in w h e =
    let p = both_true (leb 1 w) (leb w max_width && (leb 1 h && leb h max_height)) e in
    let q = both_true (leb w max_width) (leb 1 h && leb h max_height) p.1 in
    let r = both_true (leb 1 h) (leb h max_height) q.1 in
    let wide = leb-true w max_width q.0 in
    let high = leb-true h max_height r.1 in
    record { some_wide = leb-true 1 w p.0; wide = wide; some_high = leb-true 1 h r.0; high = high; area = mul-le-mul wide high }

-- the one size of an FLI is in range
fli_in : (w h : ℕ) → eqb w 320 && eqb h 200 ≡ true → Sized w h
fli_in w h e =
    let p = both_true (eqb w 320) (eqb h 200) e in
    let wide = eqb-true w 320 p.0 in
    let high = eqb-true h 200 p.1 in
    let low : w ≤ max_width = omega arith in
    let tall : h ≤ max_height = omega arith in
    record { some_wide = omega arith; wide = low; some_high = omega arith; high = tall; area = mul-le-mul low tall }

-- the same of a size by its format
pub size_in_lem : (z : Size) → size_fits z ≡ true → Sized z.width z.height
size_in_lem z e = go z.format e
  where
    go : (f : Format) → size_in f z.width z.height ≡ true → Sized z.width z.height
    go Flc e = size_ok_in z.width z.height e
    go Fli e = fli_in z.width z.height e

-- a number other than 0 is an FLI's
pub from_some : (n : ℕ) → (n ≡ 0 → ⊥) → Fli ≡ format_from n
from_some zero h = absurd (h refl)
from_some (suc n) h = refl

-- a level that was raised is a byte
pub raised_byte : (x : ℕ) → x ≤ max_level → raised x < 256
unfolding raised
raised_byte x h = omega arith
