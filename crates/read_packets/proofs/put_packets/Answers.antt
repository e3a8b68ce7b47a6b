-- The invariant: the packets that are left, from here on, on the picture as it is now, give what the whole row gives on the picture as it was. A
-- packet of one pair is one of type 1.
use mathlib.Core.Path.{ap, ap₂, ◌∙◌, sym, refl}
use mathlib.Core.List.{List}
use Prim.Native.Nat.{ℕ, ◌+◌, ◌-◌, ◌*◌}
use native.Mathlib.Nat.{mul-le-mul}
use native.Mathlib.Omega.{arith}
use Rattle.walk.specs.Walk.{stored}
use Rattle.walk.specs.declared.Pass.TheVariants.{Wet}
use Rattle.walk.proofs.Laws.{seen_gives, seen_none}
use Rattle.read_packets.proofs.Laws.{pair_in, pair_whole, pair_pixels, packet_in, seen_refused, packets_stop, packets_on, packets_none}
use Rattle.read_packets.proofs.put_packets.Goals.{then-pair_at, else-pair_at+in_ok-packet}
use Rattle.read_packets.proofs.put_packets.Goals as goal

pub overflow_mul-place : goal.overflow_mul-place
overflow_mul-place g c = omega (arith, mul-le-mul c.requires.2 c.requires.1)

pub bounds-body-at : goal.bounds-body-at
bounds-body-at g c = omega (arith, (pair_in _ _ _ _ _ (sym c.pair_at.ensures ∙ c.if-pair_at.true)).in_body)

pub overflow_add-place : goal.overflow_add-place
overflow_add-place g c =
    let pre = c.requires in
    omega (arith, (pair_in _ _ _ _ _ (sym c.pair_at.ensures ∙ c.if-pair_at.true)).in_row, c.from.ensures, mul-le-mul pre.2 pre.1)

pub put_pair-requires : goal.put_pair-requires
put_pair-requires g c =
    let p = pair_in _ _ _ _ _ (sym c.pair_at.ensures ∙ c.if-pair_at.true) in
    (omega (arith, p.in_body), omega (arith, p.in_row, c.from.ensures, c.loop.auto.picture, c.requires.5))

pub returns-in_err-packet : goal.returns-in_err-packet
returns-in_err-packet g c =
    let l = c.loop in
    seen_refused Wet _ _ l.picture c.from_residual.ensures.1
    (l.invariant.2 ∙ seen_none Wet _ l.picture _
    (packets_stop _ _ _ (c.args.count - l.counter) _ l.at l.x (omega arith) _ (sym c.in_err-packet.ensures)))

pub overflow_add-place-else-pair_at : goal.overflow_add-place-else-pair_at
overflow_add-place-else-pair_at g c =
    let i = packet_in _ _ _ _ _ _ (sym c.in_ok-packet.ensures) in
    let pre = c.requires in
    omega (arith, i.columns, i.in_row, mul-le-mul pre.2 pre.1)

pub put_pixels-requires : goal.put_pixels-requires
put_pixels-requires g c =
    let i = packet_in _ _ _ _ _ _ (sym c.in_ok-packet.ensures) in
    let pre = c.requires in
    (omega (arith, i.bytes, i.in_body), omega (arith, i.columns, i.in_row, c.loop.auto.picture, pre.5), pre.3, pre.4)

pub loop-preserved : goal.loop-preserved
loop-preserved g c =
    let a = c.args in
    let l = c.loop in
    elim c.if-pair_at.branch [
      | then-pair_at w ↦
          let p = pair_in _ _ _ _ _ (sym c.pair_at.ensures ∙ w.if-pair_at.true) in
          let skip = w.from.ensures in (
            omega (arith, p.in_body, w.at-is),
            omega (arith, p.in_row, w.x-is, skip, c.requires.1),
            l.invariant.2 ∙ packets_on _ _ _ a.count l.counter a.row l.at l.x _ _ c.loop-test.true _ (pair_whole _ _ _ _ _ p) w.at-is
                (w.x-is ∙ ap (λ (n : ℕ). l.x + n + 2) skip) Wet l.picture _
                (w.picture-is ∙ w.put_pair.ensures ∙ ap₂ (λ (n : ℕ) (v : List ℕ). stored Wet l.picture (a.row * a.width + (l.x + n)) v) skip
                (sym (pair_pixels _ a.body.now (l.at + 2) _ p.pairs refl))),
          )
      | else-pair_at+in_ok-packet w ↦
          let q = sym w.in_ok-packet.ensures in
          let i = packet_in _ _ _ _ _ _ q in (
            omega (arith, i.in_body, w.at-is),
            omega (arith, i.in_row, w.x-is, c.requires.1),
            l.invariant.2 ∙ packets_on _ _ _ a.count l.counter a.row l.at l.x _ _ c.loop-test.true _ q w.at-is w.x-is Wet l.picture _
                (w.picture-is ∙ w.put_pixels.ensures),
          )
    ]

pub returns : goal.returns
returns g c =
    let l = c.loop in
    seen_gives Wet _ _ _ _
    (l.invariant.2 ∙ seen_none Wet _ l.picture _ (packets_none _ _ _ (c.args.count - l.counter) _ _ _ (omega (arith, c.loop-test.false))))
