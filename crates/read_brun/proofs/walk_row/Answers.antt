-- `walk_row` meets its contract. The invariant: the packets left, from here on the picture as it is, give what the row gives from its place on the
-- picture as found.
use Rattle.read_brun.proofs.Laws.{packet_in, row_cut, row_open, packets_stop, packets_none, packets_on, shown, shown_gives, shown_none}
use Rattle.read_brun.specs.Brun.{Run}
use Rattle.answer.proofs.Laws.{handed_on}
use Rattle.walk.specs.Walk.{Verdict}
use native.Mathlib.Omega.{arith}
use mathlib.Core.Path.{ap, ◌∙◌, sym, refl}
use Rattle.read_brun.proofs.walk_row.Goals as goal

pub returns-then-body-from-lt1 : goal.returns-then-body-from-lt1
returns-then-body-from-lt1 c =
    let a = c.args in
    shown_gives _ _ _ _ _ _ (shown_none a.pass _ a.picture.now a.place _ (row_cut a.width a.body.now a.from (omega arith)))

pub loop-left-init : goal.loop-left-init
loop-left-init c =
    let a = c.args in
    (omega arith, refl, refl, ap (λ (r : Run). shown a.pass r a.picture.now a.place) (row_open a.width a.body.now a.from (omega arith)))

pub returns-in_err-packet : goal.returns-in_err-packet
returns-in_err-packet c =
    let a = c.args in
    let l = c.loop-left in
    shown_gives _ _ _ _ _ _
    (l.invariant.3
    ∙ shown_none a.pass _ l.picture l.to _ (packets_stop a.body.now l.left l.at c.loop-left-test.true _ (sym c.packet_at.ensures ∙ c.in_err-packet.was))
    ∙ ap (λ (v : Verdict). (v, l.picture)) (sym (handed_on c.from_residual.ensures.1)))

pub overflow_add-at-in-loop-left : goal.overflow_add-at-in-loop-left
overflow_add-at-in-loop-left c = omega
    (arith, (packet_in _ _ _ _ (sym c.packet_at.ensures ∙ c.in_ok-packet.was)).3, (packet_in _ _ _ _ (sym c.packet_at.ensures ∙ c.in_ok-packet.was)).4)

pub put_packet-requires : goal.put_packet-requires
put_packet-requires c =
    let i = packet_in _ _ _ _ (sym c.packet_at.ensures ∙ c.in_ok-packet.was) in
    let l = c.loop-left in
    (omega (arith, i.3, i.4), λ wet. omega (arith, i.1, i.2, c.requires.3 wet, l.invariant.1, l.invariant.2))

pub overflow_add-to : goal.overflow_add-to
overflow_add-to c = let l = c.loop-left in
    omega (arith, (packet_in _ _ _ _ (sym c.packet_at.ensures ∙ c.in_ok-packet.was)).1, l.invariant.1, c.requires.1, c.requires.2)

pub overflow_sub-left : goal.overflow_sub-left
overflow_sub-left c = (packet_in _ _ _ _ (sym c.packet_at.ensures ∙ c.in_ok-packet.was)).1

pub loop-left-smaller : goal.loop-left-smaller
loop-left-smaller c = omega
    (arith, (packet_in _ _ _ _ (sym c.packet_at.ensures ∙ c.in_ok-packet.was)).0, (packet_in _ _ _ _ (sym c.packet_at.ensures ∙ c.in_ok-packet.was)).1)

pub loop-left-preserved : goal.loop-left-preserved
loop-left-preserved c =
    let a = c.args in
    let l = c.loop-left in
    let i = packet_in _ _ _ _ (sym c.packet_at.ensures ∙ c.in_ok-packet.was) in (
      i.4,
      omega (arith, l.invariant.1, i.1),
      c.put_packet.auto.picture ∙ l.invariant.2,
      l.invariant.3
          ∙ packets_on a.pass a.body.now l.picture c.put_packet.new.picture l.to l.left l.at c.loop-left-test.true _ _ _
          (sym c.packet_at.ensures ∙ c.in_ok-packet.was)
          (λ wet. omega (arith, c.requires.3 wet, l.invariant.1, l.invariant.2)) c.put_packet.ensures,
    )

pub returns : goal.returns
returns c =
    let a = c.args in
    let l = c.loop-left in
    shown_gives _ _ _ _ _ _ (l.invariant.3 ∙ shown_none a.pass _ l.picture l.to _ (packets_none a.body.now l.left l.at c.loop-left-test.false))
