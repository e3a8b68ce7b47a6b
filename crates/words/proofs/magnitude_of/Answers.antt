-- `magnitude_of` meets its contract: below 128 the byte is its own value, from 128 on it lies that far below 256.
use mathlib.Core.Path.{sym, ap, ◌∙◌}
use native.Mathlib.Omega.{arith}
use Prim.Native.Nat.{ℕ, ◌-◌}
use Rattle.words.proofs.Laws.{magnitude_plus, magnitude_minus}
use Rattle.words.proofs.magnitude_of.Goals as goal

pub returns-then-x-lt128 : goal.returns-then-x-lt128
returns-then-x-lt128 c = (c.from.ensures ∙ sym (magnitude_plus _ c.if-x-lt128.true), omega (arith, c.from.ensures))

pub returns-else-x-lt128 : goal.returns-else-x-lt128
returns-else-x-lt128 c = (
  ap (λ (n : ℕ). 256 - n) c.from-else-x-lt128.ensures ∙ sym (magnitude_minus _ c.if-x-lt128.false),
  omega (arith, c.from-else-x-lt128.ensures),
)
