-- `measure_full` meets its contract: the tests are the definition's, a black chunk being no longer than any; rows are planned unless the picture is all 0.
use mathlib.Core.Path.{sym, ◌∙◌}
use native.Mathlib.Omega.{arith}
use Rattle.house_full.proofs.Laws.{black_taken, brun_taken, copy_taken, taken_size, plan_kept, plan_made}
use Rattle.house_full.proofs.measure_full.Goals as goal

pub returns-then-all_zero : goal.returns-then-all_zero
returns-then-all_zero c =
    let a = c.args in
    let z = sym c.all_zero.ensures ∙ c.if-all_zero.true in
    let t = black_taken a.width a.height a.picture.now z in
    (sym t.kind, sym (taken_size t), plan_kept a.width a.height a.picture.now a.plan.now z)

pub returns-then-size-picture : goal.returns-then-size-picture
returns-then-size-picture c =
    let a = c.args in
    let z = sym c.all_zero.ensures ∙ c.if-all_zero.false in
    let t = brun_taken a.width a.height a.picture.now z (omega (arith, c.brun_size-size.ensures.0)) in
    (sym t.kind, omega (arith, taken_size t, c.brun_size-size.ensures.0), plan_made a.width a.height a.picture.now a.plan.now z c.brun_size-size.ensures.1)

pub returns : goal.returns
returns c =
    let a = c.args in
    let z = sym c.all_zero.ensures ∙ c.if-all_zero.false in
    let t = copy_taken a.width a.height a.picture.now z (omega (arith, c.brun_size-size.ensures.0)) in
    (sym t.kind, sym (taken_size t), plan_made a.width a.height a.picture.now a.plan.now z c.brun_size-size.ensures.1)
