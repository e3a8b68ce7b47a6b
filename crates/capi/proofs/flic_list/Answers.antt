-- `flic_list` meets its contract: it hands on what `list_into` answers.
use Rattle.capi.proofs.Laws.{held_length}
use Rattle.capi.proofs.flic_list.Goals as goal

pub returns : goal.returns
returns c = held_length c.from.ensures.0 c.list_into-a.ensures c.from.ensures.1
