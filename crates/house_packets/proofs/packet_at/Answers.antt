-- A packet takes 127 units at most: 127 units decide how long a repeat is, and these and least - 1 more where a copy ends.
use Rattle.house_packets.proofs.PacketLaws.{repeat_at, copy_at}
use Rattle.house_packets.specs.Packets.{equals, up_to_repeat}
use Rattle.house_packets.specs.Units.{unit_at, units_at}
use native.Mathlib.Omega.{arith}
use Prim.Native.Nat.{ℕ, ◌+◌, min}
use mathlib.Core.Path.{◌≡◌, ap, sym, ◌∙◌}
use Rattle.house_packets.proofs.packet_at.Goals as goal

pub returns-then-repeats_at : goal.returns-then-repeats_at
returns-then-repeats_at c =
    let a = c.args in
    let b = a.b.now in
    let f = a.form in
    let most : c.min.result ≡ min 127 a.m = omega (arith, c.min.ensures) in
    repeat_at f.unit f.least f.fits.some_unit f.fits.small_unit b a.x a.m c.requires.0 c.requires.1 c.equals_of-n.result
    (sym c.repeats_at.ensures ∙ c.if-repeats_at.true)
    (c.equals_of-n.ensures.0 ∙ ap (λ (j : ℕ). equals (unit_at f.unit b a.x) (units_at f.unit b a.x j)) most)

pub returns : goal.returns
returns c =
    let a = c.args in
    let b = a.b.now in
    let f = a.form in
    let most : c.min-2.result ≡ min (126 + f.least) a.m = omega (arith, c.min-2.ensures) in
    copy_at f.unit f.least f.fits.some_unit f.fits.small_unit b a.x a.m c.requires.0 c.requires.1 c.min-n.result c.up_to_repeat.result f.fits.some_least
    (sym c.repeats_at.ensures ∙ c.if-repeats_at.false)
    (c.up_to_repeat.ensures ∙ ap (λ (j : ℕ). up_to_repeat f.least (units_at f.unit b a.x j)) most) (omega (arith, c.min-n.ensures))
