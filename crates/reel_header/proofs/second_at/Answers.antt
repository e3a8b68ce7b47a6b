-- `second_at` meets its contract: frame 1 begins at 128, and its size field says how long it is.
use Rattle.reel_header.proofs.Laws.{second_is}
use Rattle.reel_header.proofs.second_at.Goals as goal

pub returns : goal.returns
returns c = second_is c.args.bytes.now _ c.u32_at.ensures.value
