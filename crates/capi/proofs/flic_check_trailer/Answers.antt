-- `flic_check_trailer` meets its contract: it hands on what `check_trailer` answers.
use mathlib.Core.Path.{subst}
use Rattle.answer.specs.Answer.{Said}
use Rattle.capi.specs.Capi.{Told}
use Rattle.capi.proofs.flic_check_trailer.Goals as goal

pub returns : goal.returns
returns c = subst (λ (s : Said). Told c.from.result.number c.from.result.place s) c.check_trailer-a.ensures c.from.ensures
