-- The invariant: the packets that are left, from here on, come out as the whole row does. A packet of one pair is one of type 1.
use mathlib.Core.Path.{ap, ◌∙◌, sym}
use Prim.Native.Nat.{ℕ, ◌+◌, ◌-◌}
use native.Mathlib.Omega.{arith}
use Rattle.answer.proofs.Laws.{handed_on}
use Rattle.walk.specs.Walk.{Walk}
use Rattle.read_packets.proofs.Laws.{pair_in, pair_whole, packet_in, packets_stop, packets_verdict, packets_none}
use Rattle.read_packets.proofs.check_packets.Goals.{then-pair_at, else-pair_at+in_ok-packet}
use Rattle.read_packets.proofs.check_packets.Goals as goal

pub bounds-body-at : goal.bounds-body-at
bounds-body-at g c = omega (arith, (pair_in _ _ _ _ _ (sym c.pair_at.ensures ∙ c.if-pair_at.true)).in_body)

pub returns-in_err-packet : goal.returns-in_err-packet
returns-in_err-packet g c =
    let l = c.loop in
    handed_on c.from_residual.ensures.1
    ∙ sym (l.invariant.2 ∙ ap (λ (k : Walk). k.verdict)
    (packets_stop _ _ _ (c.args.count - l.counter) 0 l.at l.x (omega arith) _ (sym c.in_err-packet.ensures)))

pub loop-preserved : goal.loop-preserved
loop-preserved g c =
    let a = c.args in
    let l = c.loop in
    elim c.if-pair_at.branch [
      | then-pair_at w ↦
          let p = pair_in _ _ _ _ _ (sym c.pair_at.ensures ∙ w.if-pair_at.true) in (
            omega (arith, p.in_body, w.at-is),
            omega (arith, p.in_row, w.x-is, w.from.ensures, c.requires.1),
            l.invariant.2 ∙ packets_verdict _ _ _ a.count l.counter 0 l.at l.x _ _ c.loop-test.true _ (pair_whole _ _ _ _ _ p) w.at-is
                (w.x-is ∙ ap (λ (n : ℕ). l.x + n + 2) w.from.ensures),
          )
      | else-pair_at+in_ok-packet w ↦
          let q = sym w.in_ok-packet.ensures in
          let i = packet_in _ _ _ _ _ _ q in (
            omega (arith, i.in_body, w.at-is),
            omega (arith, i.in_row, w.x-is, c.requires.1),
            l.invariant.2 ∙ packets_verdict _ _ _ a.count l.counter 0 l.at l.x _ _ c.loop-test.true _ q w.at-is w.x-is,
          )
    ]

pub returns : goal.returns
returns g c =
    let l = c.loop in
    sym (l.invariant.2 ∙ ap (λ (k : Walk). k.verdict) (packets_none _ _ _ (c.args.count - l.counter) _ _ _ (omega (arith, c.loop-test.false))))
