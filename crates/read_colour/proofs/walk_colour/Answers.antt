-- `walk_colour` meets its contract. The invariant: the packets left, on the palette as it is, come out as the body does on the palette as found.
use Rattle.read_colour.proofs.Laws.{packet_in, packets_stop, packets_none, packets_on, colours_open, colours_cut}
use Rattle.walk.proofs.Laws.{seen, seen_gives, seen_none}
use Rattle.walk.specs.Walk.{Walk, Verdict}
use Rattle.answer.proofs.Laws.{handed_on}
use Rattle.words.specs.Words.{u16_at}
use Prim.Native.Nat.{◌-◌}
use native.Mathlib.Omega.{arith}
use mathlib.Core.Path.{ap, ◌∙◌, sym, refl}
use borrow.Author.Rules.{rules}
use Rattle.read_colour.proofs.walk_colour.Goals as goal

pub returns-then-body-lt2 : goal.returns-then-body-lt2
returns-then-body-lt2 c =
    let a = c.args in
    seen_gives _ _ _ _ _ (seen_none a.pass _ a.palette.now _ (colours_cut a.levels a.body.now c.if-body-lt2.true))

pub loop-init : goal.loop-init
loop-init c =
    let a = c.args in (
      search rules,
      search rules,
      refl,
      ap (λ (k : Walk). seen a.pass k a.palette.now) (colours_open a.levels a.body.now _ (omega arith) (omega arith)),
    )

pub returns-in_err-packet : goal.returns-in_err-packet
returns-in_err-packet c =
    let a = c.args in
    let l = c.loop in
    seen_gives _ _ _ _ _
    (l.invariant.3
    ∙ seen_none a.pass _ l.palette _ (packets_stop a.levels a.body.now _ l.at l.index (omega arith) _ (sym c.in_err-packet.was ∙ c.packet_at.ensures))
    ∙ ap (λ (v : Verdict). (v, l.palette)) (sym (handed_on c.from_residual.ensures.1)))

pub put_colours-requires : goal.put_colours-requires
put_colours-requires c =
    let k = packet_in _ _ _ _ _ (sym c.packet_at.ensures ∙ c.in_ok-packet.was) in (k.0, λ wet. omega (arith, k.1, c.requires wet, c.loop.invariant.2), k.3)

pub overflow_add-at : goal.overflow_add-at
overflow_add-at c = omega (arith, (packet_in _ _ _ _ _ (sym c.packet_at.ensures ∙ c.in_ok-packet.was)).0)

pub loop-preserved : goal.loop-preserved
loop-preserved c =
    let a = c.args in
    let l = c.loop in
    let k = packet_in _ _ _ _ _ (sym c.packet_at.ensures ∙ c.in_ok-packet.was) in (
      k.0,
      k.2,
      c.put_colours.auto.palette ∙ l.invariant.2,
      l.invariant.3
          ∙ packets_on a.levels a.body.now a.pass l.palette c.put_colours.new.palette (u16_at a.body.now 0) l.counter l.at l.index
          (omega arith) _ (sym c.in_ok-packet.was ∙ c.packet_at.ensures) c.put_colours.ensures,
    )

pub returns : goal.returns
returns c =
    let a = c.args in
    let l = c.loop in
    seen_gives _ _ _ _ _
    (l.invariant.3 ∙ seen_none a.pass _ l.palette _ (packets_none a.levels a.body.now (u16_at a.body.now 0 - l.counter) l.at l.index (omega arith)))
