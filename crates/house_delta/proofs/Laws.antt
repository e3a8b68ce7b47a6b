-- Laws of the delta by the format.
use mathlib.Core.Path.{◌≡◌, ap}
use mathlib.Core.List.{List}
use Prim.Native.Nat.{ℕ, ◌+◌, ◌≤◌}
use native.Mathlib.Omega.{arith}
use lib.ListN.{length}
use Rattle.format.specs.Limits.{Wide, High, area}
use Rattle.format.specs.declared.Format.{Format}
use Rattle.format.specs.declared.Format.TheVariants.{Flc, Fli}
use Rattle.format.specs.declared.Size.{Size}
use Rattle.state.specs.State.{Picture}
use Rattle.house_delta.specs.Delta.{delta_kind, body_in, delta_body}

-- its kind lies between that of a colour chunk and those of full chunks
pub kind_between : (f : Format) → (7 ≤ delta_kind f) × (delta_kind f ≤ 12)
kind_between Flc = (omega arith, omega arith)
kind_between Fli = (omega arith, omega arith)

module _ (z : Size) (p q : List ℕ) {f : Format} (e : z.format ≡ f) where
  -- its body is that of its format
  pub body_by : delta_body z p q ≡ body_in f z.width z.height p q
  unfolding delta_body
  body_by = ap (λ (f : Format). body_in f z.width z.height p q) e

  -- what writing it in its format asks for
  pub asked : Picture z.width z.height p → Picture z.width z.height q → (at n : ℕ) → at + length (delta_body z p q) ≤ n
      → (1 ≤ z.width) × Wide z.width × High z.height × (length p ≡ area z) × (length q ≡ area z) × (at + length (body_in f z.width z.height p q) ≤ n)
  asked x y at n room = (x.size.some_wide, x.size.wide, x.size.high, x.pixels, y.pixels, omega (arith, room, ap length body_by))
