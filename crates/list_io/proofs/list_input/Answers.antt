-- `list_input` meets its contract: the input is the part of its room that was read, which holds bytes.
use Rattle.std.proofs.Common.{arith}
use Rattle.list_chunks.proofs.Short.{list_most_lem}
use Rattle.list_io.proofs.Laws.{printed}
use Rattle.list_io.proofs.list_input.Goals as goal

pub list_text-count-requires : goal.list_text-count-requires
list_text-count-requires c = omega (arith, list_most_lem)

pub returns : goal.returns
returns c =
    printed c.read_full.new.room c.in_ok-n.n c.read_full.ensures.bytes (omega (arith, c.read_full.auto.room))
    (omega (arith, c.in_ok-n.ensures.within)) c.list_text-count.ensures
