-- `flic_replay` meets its contract: it hands on what `replay` answers.
use Rattle.capi.proofs.Laws.{held_length}
use Rattle.capi.proofs.flic_replay.Goals as goal

pub returns : goal.returns
returns c = held_length c.from.ensures.0 c.replay-a.ensures c.from.ensures.1
