-- `list_into` meets its contract: the text stands at the front of the buffer, and the part of the output that is as long becomes the text.
use Rattle.std.proofs.Common.{refl, ◌∙◌, arith}
use Rattle.list_chunks.proofs.Laws.{list_none, list_whole}
use Rattle.list_chunks.proofs.Short.{list_most_lem}
use Rattle.list_text.proofs.Resumes.{stored_whole, stored_front}
use Rattle.list_chunks.proofs.list_into.Goals as goal

pub list_text-n-requires : goal.list_text-n-requires
list_text-n-requires c = omega (arith, list_most_lem)

pub returns-then-out-n : goal.returns-then-out-n
returns-then-out-n c = list_none c.args.bytes.now c.args.out.now c.list_text-n.result (stored_whole c.list_text-n.ensures) c.if-out-n.true

pub returns : goal.returns
returns c =
    let a = c.args in
    let n = c.list_text-n.result in
    list_whole a.bytes.now a.out.now n (stored_whole c.list_text-n.ensures) c.if-out-n.false c.copy.new.dst
    (c.copy.ensures ∙ stored_front c.list_text-n.ensures n refl)
