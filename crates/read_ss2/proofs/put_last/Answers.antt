-- A dry pass stores nothing, nor does a line without a last pixel; else the one byte is stored.
use mathlib.Core.Path.{ap, ◌∙◌, sym}
use mathlib.Core.List.{[], ◌∷◌}
use Prim.Native.Nat.{◌+◌, ◌-◌, ◌*◌}
use native.Mathlib.Omega.{arith}
use native.Mathlib.Nat.{mul-le-mul}
use Rattle.words.proofs.Laws.{put_one}
use Rattle.walk.proofs.Laws.{stored_wet, wrote_none, wrote_one}
use Rattle.walk.specs.Walk.{ends, wrote}
use Rattle.read_ss2.specs.Ss2.{LastPixel, last_first}
use Rattle.read_ss2.proofs.put_last.Goals as goal

pub overflow_mul-place : goal.overflow_mul-place
overflow_mul-place c = omega (arith, mul-le-mul c.requires.2 c.requires.1)

pub overflow_add-place : goal.overflow_add-place
overflow_add-place c = omega (arith, mul-le-mul c.requires.2 c.requires.1)

pub bounds-picture-place : goal.bounds-picture-place
bounds-picture-place c = omega (arith, c.requires.3 c.in-Wet.is)

pub returns-in_default : goal.returns-in_default
returns-in_default c =
    let a = c.args in
    sym (ap (λ (l : LastPixel). wrote a.pass (last_first a.width a.row l (ends 0)).writes a.picture.now) c.in_default.is ∙ wrote_none a.pass a.picture.now)

pub returns-in-Some : goal.returns-in-Some
returns-in-Some c =
    let a = c.args in
    let at = a.row * a.width + (a.width - 1) in
    let wet = c.in-Wet.is in
    put_one a.picture.now at _ (omega (arith, c.requires.3 wet))
    ∙ stored_wet a.pass a.picture.now at _ wet
    ∙ sym (ap (λ (l : LastPixel). wrote a.pass (last_first a.width a.row l (ends 0)).writes a.picture.now) c.in-Some.is
    ∙ wrote_one a.pass at (c.in-Some.pixel ∷ []) a.picture.now)
