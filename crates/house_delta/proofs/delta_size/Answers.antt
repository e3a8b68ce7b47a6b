-- `delta_size` meets its contract: in each format the body is that of its delta.
use mathlib.Core.Path.{sym, ap, ◌∙◌}
use native.Mathlib.Omega.{arith}
use lib.ListN.{length}
use Rattle.house_delta.proofs.Laws.{body_by}
use Rattle.house_delta.proofs.delta_size.Goals as goal

pub returns-in-Flc : goal.returns-in-Flc
returns-in-Flc c =
    let a = c.args in
    (c.delta_size.ensures.0 ∙ ap length (sym (body_by a.size a.previous.now a.next.now c.in-Flc.is)), omega (arith, c.delta_size.ensures.1))

pub returns-in-Fli : goal.returns-in-Fli
returns-in-Fli c =
    let a = c.args in
    (c.delta_size-in-Fli.ensures.0 ∙ ap length (sym (body_by a.size a.previous.now a.next.now c.in-Fli.is)), omega (arith, c.delta_size-in-Fli.ensures.1))
