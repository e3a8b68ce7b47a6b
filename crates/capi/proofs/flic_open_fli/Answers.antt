-- `flic_open_fli` meets its contract: it hands on what `open_fli` answers.
use Rattle.capi.proofs.Laws.{held_opened}
use Rattle.capi.proofs.flic_open_fli.Goals as goal

pub returns : goal.returns
returns c = held_opened _ _ _ c.built_for_c.ensures.0 c.open_fli-a.ensures c.built_for_c.ensures.1 c.no_record.ensures
