-- A test by its two cases, each with its equation.
use mathlib.Core.Path.{◌≡◌, refl}
use mathlib.Core.Bool.{Bool, true, false, ◌&&◌, cond}
use Prim.Native.Nat.{ℕ}
use native.Mathlib.Omega.{arith}

pub by_test : (C : Bool → Type 0) (t : Bool) → (t ≡ true → C true) → (t ≡ false → C false) → C t
by_test C true f g = f refl
by_test C false f g = g refl

-- what holds of both values holds of the one chosen
pub cond_holds : {X : Type 0} (P : X → Type 0) (t : Bool) (x y : X) → P x → P y → P (cond t x y)
cond_holds P true x y p q = p
cond_holds P false x y p q = q

-- two tests at once
pub both_true : (a b : Bool) → (a && b) ≡ true → (a ≡ true) × (b ≡ true)
both_true true b h = (refl, h)
both_true false b h = absurd (let z : ◌≡◌ {A = ℕ} 0 1 = cc in omega arith)
