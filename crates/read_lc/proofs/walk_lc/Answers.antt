-- The invariant: the rows that are left, on the picture as it is now, give what the body gives on the picture as it was.
use Rattle.read_lc.proofs.Laws.{lc_cut, lc_past, lc_open, rows_none, rows_on, rows_stopped, row_sound}
use Rattle.read_lc.specs.Lc.{rows}
use Rattle.read_packets.proofs.Laws.{seen_refused}
use Rattle.walk.proofs.Laws.{VerdictIn, seen, seen_gives, seen_none}
use Rattle.walk.specs.Walk.{Walk}
use Rattle.words.proofs.Laws.{row_in}
use native.Mathlib.Omega.{arith}
use Prim.Native.Nat.{ℕ, ◌+◌, ◌-◌}
use mathlib.Core.Path.{◌≡◌, ap, ◌∙◌, sym, subst}
use Rattle.read_lc.proofs.walk_lc.Goals as goal

pub returns-then-body-lt4 : goal.returns-then-body-lt4
returns-then-body-lt4 c =
    let a = c.args in
    seen_gives _ _ _ _ _ (seen_none a.pass _ a.picture.now _ (lc_cut a.width a.height a.body.now c.if-body-lt4.true))

pub returns-then-height-end : goal.returns-then-height-end
returns-then-height-end c =
    let a = c.args in
    seen_gives _ _ _ _ _
    (seen_none a.pass _ a.picture.now _
    (lc_past a.width a.height a.body.now _ _ c.if-body-lt4.false c.u16_at-first.ensures.value c.u16_at.ensures.value c.if-height-end.true))

pub loop-row-init : goal.loop-row-init
loop-row-init c =
    let a = c.args in
    let k = lc_open a.width a.height a.body.now _ _ c.if-body-lt4.false c.u16_at-first.ensures.value c.u16_at.ensures.value c.if-height-end.false in
    let n : c.u16_at.result ≡ c.u16_at-first.result + c.u16_at.result - c.u16_at-first.result = omega arith in
    (c.if-body-lt4.false, ap (λ (i : Walk). seen a.pass i a.picture.now) (k ∙ ap (λ (n : ℕ). rows a.width a.body.now n c.u16_at-first.result 4) n))

pub walk_row-requires : goal.walk_row-requires
walk_row-requires c =
    let a = c.args in
    let l = c.loop-row in
    let p = c.requires in
    let r = row_in a.width a.height l.row (omega (arith, c.loop-row-test.true, c.if-height-end.false)) in
    (l.invariant.0, p.0, omega (arith, c.loop-row-test.true, c.if-height-end.false, p.1), λ wet. omega (arith, r, p.2 wet, l.auto.picture))

pub returns-in_err-at : goal.returns-in_err-at
returns-in_err-at c =
    let a = c.args in
    let l = c.loop-row in
    seen_refused a.pass _ _ _ c.from_residual.ensures.1
    (l.invariant.1 ∙ rows_stopped a.width a.body.now a.pass l.picture c.walk_row.new.picture _ l.row l.at c.loop-row-test.true
    c.walk_row.ensures.writes _ (sym c.in_err-at.ensures.verdict))

pub loop-row-preserved : goal.loop-row-preserved
loop-row-preserved c =
    let a = c.args in
    let l = c.loop-row in
    let end = sym c.in_ok-at.ensures.verdict in (
      subst (VerdictIn a.body.now) end (row_sound a.width a.body.now (l.row + 1) l.row l.at (omega arith)).ends_in,
      l.invariant.1 ∙ rows_on a.width a.body.now a.pass l.picture c.walk_row.new.picture _ l.row l.at c.loop-row-test.true c.walk_row.ensures.writes _ end,
    )

pub returns : goal.returns
returns c =
    let a = c.args in
    let l = c.loop-row in
    seen_gives _ _ _ _ _ (l.invariant.1 ∙ seen_none a.pass _ l.picture _ (rows_none a.width a.body.now _ l.row l.at (omega (arith, c.loop-row-test.false))))
