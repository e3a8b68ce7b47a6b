-- `flic_write_trailer` meets its contract: it hands on what `write_trailer` answers.
use Rattle.capi.proofs.Laws.{held_length}
use Rattle.capi.proofs.flic_write_trailer.Goals as goal

pub returns : goal.returns
returns c = held_length c.from.ensures.0 c.write_trailer-a.ensures c.from.ensures.1
