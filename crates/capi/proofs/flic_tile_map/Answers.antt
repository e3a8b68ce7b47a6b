-- `flic_tile_map` meets its contract: it hands on what `tile_map` answers.
use Rattle.capi.proofs.Laws.{held_length}
use Rattle.capi.proofs.flic_tile_map.Goals as goal

pub returns : goal.returns
returns c = held_length c.from.ensures.0 c.tile_map-a.ensures c.from.ensures.1
