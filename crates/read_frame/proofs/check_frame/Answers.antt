-- A dry pass needs no room.
use Rattle.walk.specs.declared.Pass.TheVariants.{Dry, Wet}
use native.Mathlib.Omega.{arith}
use mathlib.Core.Path.{◌≡◌}
use Prim.Native.Nat.{ℕ}
use Rattle.read_frame.proofs.check_frame.Goals as goal

dry-not-wet : {C : Type 0} → Dry ≡ Wet → C
dry-not-wet e = let z : ◌≡◌ {A = ℕ} 0 1 = cc in absurd (omega arith)

pub walk_frame-requires : goal.walk_frame-requires
walk_frame-requires c = (c.requires, dry-not-wet, dry-not-wet)
