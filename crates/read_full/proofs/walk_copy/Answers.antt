-- `walk_copy` meets its contract: the first n pixels come back as the body's; a body too short, and a dry pass, write nothing.
use mathlib.Core.Path.{◌≡◌, ap, ◌∙◌}
use Prim.Native.Nat.{ℕ, ◌-◌}
use lib.ListN.{take}
use lib.Seq.{length-take-le}
use native.Mathlib.Omega.{arith}
use Rattle.walk.proofs.Laws.{seen_gives, seen_none}
use Rattle.read_full.proofs.Laws.{copied_whole, copied_short, front_dry, front_wet}
use Rattle.read_full.proofs.walk_copy.Goals as goal

pub returns-then-body-n : goal.returns-then-body-n
returns-then-body-n c =
    let a = c.args in
    seen_gives _ _ _ _ _ (seen_none a.pass _ a.picture.now _ (copied_short a.n a.body.now c.if-body-n.true))

pub returns-in-Dry : goal.returns-in-Dry
returns-in-Dry c =
    let a = c.args in
    front_dry (copied_whole a.n a.body.now c.if-body-n.false) a.pass a.picture.now c.in-Dry.is

pub returns-in-Wet : goal.returns-in-Wet
returns-in-Wet c =
    let a = c.args in
    let n = a.n in
    let k = c.if-body-n.false in
    let z : n - 0 ≡ n = omega arith in
    front_wet (copied_whole n a.body.now k) a.pass a.picture.now c.in-Wet.is c.copy.new.dst n
    (c.copy.ensures ∙ ap (λ (m : ℕ). take m a.body.now) z) (length-take-le n a.body.now k)
