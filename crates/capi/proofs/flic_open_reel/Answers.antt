-- `flic_open_reel` meets its contract: it hands on what `open_reel` answers.
use Rattle.capi.proofs.Laws.{held_opened}
use Rattle.capi.proofs.flic_open_reel.Goals as goal

pub returns : goal.returns
returns c = held_opened _ _ _ c.built_for_c.ensures.0 c.open_reel-a.ensures c.built_for_c.ensures.1 c.no_record.ensures
