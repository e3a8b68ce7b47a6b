-- The invariant: the lines that are left, from this row and offset on, on the picture as it is now, give what the body gives on the picture as it
-- was. A skip goes down at least one row, a line counts one less: the measure is lines and rows left.
use mathlib.Core.Path.{ap, ◌∙◌, sym, subst}
use native.Mathlib.Omega.{arith}
use Rattle.std.specs.Prelude.{Ok}
use Rattle.words.proofs.Laws.{row_in}
use Rattle.walk.specs.Walk.{Walk}
use Rattle.walk.proofs.Laws.{VerdictIn, seen, seen_gives, seen_none}
use Rattle.read_packets.proofs.Laws.{seen_refused}
use Rattle.read_ss2.proofs.Laws.{line_in, line_down, line_ends, lines_none, lines_stop, lines_down, lines_on, lines_stopped, ss2_cut, ss2_open}
use Rattle.read_ss2.proofs.walk_ss2.Goals as goal

pub returns-then-body-lt2 : goal.returns-then-body-lt2
returns-then-body-lt2 c =
    let a = c.args in
    seen_gives _ _ _ _ _ (seen_none a.pass _ a.picture.now _ (ss2_cut a.width a.height a.body.now c.if-body-lt2.true))

pub loop-left-init : goal.loop-left-init
loop-left-init c =
    let a = c.args in (
      c.if-body-lt2.false,
      omega arith,
      ap (λ (k : Walk). seen a.pass k a.picture.now) (ss2_open a.width a.height a.body.now _ c.if-body-lt2.false c.u16_at-left.ensures.value),
    )

pub returns-in_err-rows : goal.returns-in_err-rows
returns-in_err-rows c =
    let a = c.args in
    let l = c.loop-left in
    seen_refused a.pass _ _ _ c.from_residual.ensures.1
    (l.invariant.2 ∙ seen_none a.pass _ l.picture _ (lines_stop a.width _ _ _ _ _ c.loop-left-test.true _ (sym c.in_err-rows.ensures)))

pub overflow_add-row : goal.overflow_add-row
overflow_add-row c = omega (arith, (line_in _ _ _ _ _ (sym c.in_ok-rows.ensures ∙ ap Ok c.in-Down.is)).1)

pub loop-left-smaller-in-Down : goal.loop-left-smaller-in-Down
loop-left-smaller-in-Down c =
    let q = sym c.in_ok-rows.ensures ∙ ap Ok c.in-Down.is in
    omega (arith, (line_in _ _ _ _ _ q).1, line_down _ _ _ _ _ q (λ i. omega (arith, c.type_inv.body i)))

pub loop-left-preserved-in-Down : goal.loop-left-preserved-in-Down
loop-left-preserved-in-Down c =
    let a = c.args in
    let l = c.loop-left in
    let q = sym c.in_ok-rows.ensures ∙ ap Ok c.in-Down.is in
    let i = line_in _ _ _ _ _ q in (
      i.0,
      omega (arith, i.1),
      l.invariant.2
          ∙ ap (λ (k : Walk). seen a.pass k l.picture)
          (lines_down a.width _ _ _ _ _ c.loop-left-test.true _ q (line_down _ _ _ _ _ q (λ i. omega (arith, c.type_inv.body i))) i.1),
    )

pub walk_line-requires : goal.walk_line-requires
walk_line-requires c =
    let a = c.args in
    let p = c.requires in
    let l = c.loop-left in
    let i = line_in _ _ _ _ _ (sym c.in_ok-rows.ensures ∙ ap Ok c.in-Row.is) in
    (i.0, p.0, p.1, omega (arith, i.1, p.2), λ e. omega (arith, row_in a.width a.height l.row i.1, l.auto.picture, p.3 e))

pub returns-in_err-at-in-Row : goal.returns-in_err-at-in-Row
returns-in_err-at-in-Row c =
    let a = c.args in
    let l = c.loop-left in
    let q = sym c.in_ok-rows.ensures ∙ ap Ok c.in-Row.is in
    let out = c.walk_line in
    seen_refused a.pass _ _ _ c.from_residual-in_err-at-in-Row.ensures.1
    (l.invariant.2 ∙ lines_stopped a.width a.height a.body.now l.left l.row l.at c.loop-left-test.true _ _ _ q (line_in _ _ _ _ _ q).1 a.pass
    l.picture out.new.picture out.ensures.writes _ (sym c.in_err-at-in-Row.ensures.verdict))

pub loop-left-preserved : goal.loop-left-preserved
loop-left-preserved c =
    let a = c.args in
    let l = c.loop-left in
    let q = sym c.in_ok-rows.ensures ∙ ap Ok c.in-Row.is in
    let i = line_in _ _ _ _ _ q in
    let out = c.walk_line in
    let v = sym c.in_ok-at-in-Row.ensures.verdict in (
      subst (VerdictIn a.body.now) v (line_ends _ _ _ _ _ _ i.0),
      omega (arith, i.1),
      l.invariant.2 ∙ lines_on a.width a.height a.body.now l.left l.row l.at c.loop-left-test.true _ _ _ q i.1 a.pass l.picture out.new.picture
          out.ensures.writes _ v,
    )

pub returns : goal.returns
returns c =
    let a = c.args in
    let l = c.loop-left in
    seen_gives _ _ _ _ _ (l.invariant.2 ∙ seen_none a.pass _ l.picture _ (lines_none a.width a.height a.body.now l.left l.row l.at c.loop-left-test.false))
