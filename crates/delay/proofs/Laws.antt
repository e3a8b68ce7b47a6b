-- "so jiffies to milliseconds and back is unchanged" (document 02, Req 06), of all that a header's two bytes can hold.
use mathlib.Core.Path.{◌≡◌, ap}
use Prim.Native.Nat.{ℕ, ◌+◌, ◌*◌, ◌/◌}
use native.Mathlib.Omega.{arith}
use borrow.Author.Tests.{le-leb}
use Rattle.std.specs.Prelude.{Ok}
use Rattle.delay.specs.Delay.{jiffies}
use Rattle.delay.specs.Kept.{JiffiesKept}

same : (n : ℕ) → (70 * (1000 * n / 70) + 999) / 1000 ≡ n
same n = omega arith

pub jiffies_kept : JiffiesKept
jiffies_kept n i = let e = same n in rw (le-leb ((70 * (1000 * n / 70) + 999) / 1000) 65535 (omega arith)) (ap (λ (k : ℕ). Ok (jiffies k)) e)
