-- `walk_brun` meets its contract. The invariant: the rows left, from this row on the picture as it is, give what the body gives on the picture as found.
use Rattle.read_brun.proofs.Laws.{shown, shown_none, brun_seen, row_sound, rows_none, rows_on, rows_stopped}
use Rattle.read_brun.specs.Brun.{rows}
use Rattle.walk.proofs.Laws.{VerdictIn, seen_gives}
use Rattle.words.proofs.Laws.{row_in}
use Rattle.answer.proofs.Laws.{handed_on}
use Rattle.walk.specs.Walk.{Verdict}
use native.Mathlib.Omega.{arith}
use Prim.Native.Nat.{ℕ, ◌-◌, ◌*◌}
use mathlib.Core.Path.{◌≡◌, ap, ap₂, ◌∙◌, sym, refl, subst}
use Rattle.read_brun.proofs.walk_brun.Goals as goal

pub loop-row-init : goal.loop-row-init
loop-row-init c =
    let a = c.args in
    let z : 0 ≡ 0 * a.width = omega arith in
    let y : a.height ≡ a.height - 0 = omega arith in (
      omega arith,
      refl,
      brun_seen a.pass a.width a.height a.body.now a.picture.now
          ∙ ap₂ (λ (n to : ℕ). shown a.pass (rows a.width a.body.now n 0) a.picture.now to) y z,
    )

pub overflow_mul-row : goal.overflow_mul-row
overflow_mul-row c = omega (arith, row_in c.args.width c.args.height c.loop-row.row (omega arith), c.requires.0.area)

pub walk_row-requires : goal.walk_row-requires
walk_row-requires c =
    let in_picture = row_in c.args.width c.args.height c.loop-row.row (omega arith) in (
      c.loop-row.invariant.0,
      omega (arith, in_picture, c.requires.0.area),
      c.requires.0.wide,
      λ wet. omega (arith, in_picture, c.requires.1 wet, c.loop-row.invariant.1),
    )

pub returns-in_err-at : goal.returns-in_err-at
returns-in_err-at c =
    let a = c.args in
    let l = c.loop-row in
    seen_gives _ _ _ _ _
    (l.invariant.2
    ∙ rows_stopped a.pass a.width a.height a.body.now l.picture c.walk_row.new.picture l.row l.at (omega arith)
    c.walk_row.ensures.writes _ (sym c.walk_row.ensures.verdict ∙ c.in_err-at.was)
    ∙ ap (λ (v : Verdict). (v, c.walk_row.new.picture)) (sym (handed_on c.from_residual.ensures.1)))

pub loop-row-preserved : goal.loop-row-preserved
loop-row-preserved c =
    let a = c.args in
    let l = c.loop-row in
    let end = sym c.walk_row.ensures.verdict ∙ c.in_ok-at.was in (
      subst (VerdictIn a.body.now) end (row_sound a.width a.body.now l.at).ends_in,
      c.walk_row.auto.picture ∙ l.invariant.1,
      l.invariant.2
          ∙ rows_on a.pass a.width a.height a.body.now l.picture c.walk_row.new.picture l.row l.at (omega arith) c.walk_row.ensures.writes _ end
          (λ wet. omega (arith, c.requires.1 wet, l.invariant.1)),
    )

pub returns : goal.returns
returns c =
    let a = c.args in
    let l = c.loop-row in
    seen_gives _ _ _ _ _
    (l.invariant.2 ∙ shown_none a.pass _ l.picture (l.row * a.width) _
    (rows_none a.width a.body.now (a.height - l.row) l.at (omega arith)))
