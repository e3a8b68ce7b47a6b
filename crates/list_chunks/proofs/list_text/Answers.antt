-- `list_text` meets its contract: each test is the definition's, in its order; what the walk refuses has its place within the reel, so that its line is short.
use Rattle.std.proofs.Common.{sym, ◌∙◌, arith}
use lib.Seq.{length-take-le}
use Rattle.answer.specs.declared.Refusal.TheVariants.{NoRoom}
use Rattle.chunks.specs.Spans.{HEADER_BYTES}
use Rattle.chunks.proofs.Spans.{extent_in, extent_refused}
use Rattle.reel_header.proofs.Laws.{head_in}
use Rattle.list_chunks.proofs.Laws.{listing_long, listing_head, listing_walk}
use Rattle.list_chunks.proofs.Short.{listed_in, refusal_short}
use Rattle.list_chunks.proofs.list_text.Goals as goal

pub put_refused-requires : goal.put_refused-requires
put_refused-requires c = omega (arith, refusal_short NoRoom 0 (omega arith), c.requires)

pub returns-then-bytes-gt-LIST_INPUT : goal.returns-then-bytes-gt-LIST_INPUT
returns-then-bytes-gt-LIST_INPUT c = rw (listing_long c.args.bytes.now (omega arith)) c.put_refused.ensures

pub put_refused-requires-in-Err : goal.put_refused-requires-in-Err
put_refused-requires-in-Err c = omega (arith, refusal_short c.in-Err.e 0 (omega arith), c.requires)

pub slice_bounds-walk_frames-end : goal.slice_bounds-walk_frames-end
slice_bounds-walk_frames-end c = sym (length-take-le _ _ (head_in _ c.args.bytes.now _ (sym c.head_of.ensures ∙ c.in-Ok.is)).most)

pub overflow_add-head : goal.overflow_add-head
overflow_add-head c = omega (arith, (head_in _ c.args.bytes.now _ (sym c.head_of.ensures ∙ c.in-Ok.is)).few_frames)

pub put_refused-requires-in-Err-walk_frames : goal.put_refused-requires-in-Err-walk_frames
put_refused-requires-in-Err-walk_frames c =
    let l = listed_in c.args.bytes.now (omega arith) c.in-Ok.head (head_in _ _ _ (sym c.head_of.ensures ∙ c.in-Ok.is)) in
    let r = c.in-Err-walk_frames.field-0 in
    let i = extent_refused _ _ HEADER_BYTES l.long r (sym c.walk_frames.ensures ∙ c.in-Err-walk_frames.is) in
    omega (arith, refusal_short r.0 r.1 (omega (arith, i, l.short)), c.requires)

pub slice_bounds-list_reel-end : goal.slice_bounds-list_reel-end
slice_bounds-list_reel-end c = sym (length-take-le _ _ (head_in _ c.args.bytes.now _ (sym c.head_of.ensures ∙ c.in-Ok.is)).most)

pub list_reel-requires : goal.list_reel-requires
list_reel-requires c =
    let l = listed_in c.args.bytes.now (omega arith) c.in-Ok.head (head_in _ _ _ (sym c.head_of.ensures ∙ c.in-Ok.is)) in
    let i = extent_in _ _ HEADER_BYTES l.long _ (sym c.walk_frames.ensures ∙ c.in-Ok-walk_frames.is) in
    (l, i.0, i.1, c.requires)

pub returns-in-Err : goal.returns-in-Err
returns-in-Err c = rw (listing_head c.args.bytes.now (omega arith) _ (sym c.head_of.ensures ∙ c.in-Err.is)) c.put_refused-in-Err.ensures

pub returns-in-Err-walk_frames : goal.returns-in-Err-walk_frames
returns-in-Err-walk_frames c =
    rw (listing_walk c.args.bytes.now (omega arith) c.in-Ok.head (sym c.head_of.ensures ∙ c.in-Ok.is) _ (sym c.walk_frames.ensures ∙ c.in-Err-walk_frames.is))
    c.put_refused-in-Err-walk_frames.ensures

pub returns-in-Ok-walk_frames : goal.returns-in-Ok-walk_frames
returns-in-Ok-walk_frames c =
    rw (listing_walk c.args.bytes.now (omega arith) c.in-Ok.head (sym c.head_of.ensures ∙ c.in-Ok.is) _ (sym c.walk_frames.ensures ∙ c.in-Ok-walk_frames.is))
    c.list_reel.ensures
