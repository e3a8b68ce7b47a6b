-- `flic_check_reel` meets its contract: it hands on what `check_reel` answers.
use Rattle.capi.proofs.Laws.{held}
use Rattle.capi.proofs.flic_check_reel.Goals as goal

pub returns : goal.returns
returns c = held c.from.ensures c.check_reel-a.ensures
