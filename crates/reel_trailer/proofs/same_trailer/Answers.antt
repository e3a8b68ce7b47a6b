-- `same_trailer` meets its contract: where the lengths differ the bytes do, and else the front of the buffer is the trailer.
use mathlib.Core.Path.{◌∙◌, sym, ap}
use Prim.Native.Nat.{◌+◌, ◌*◌}
use Rattle.words.specs.Words.{same}
use Rattle.words.proofs.Laws.{same_other}
use Rattle.chunks.specs.Spans.{HEADER_BYTES, top_frames}
use Rattle.reel_trailer.specs.Trailer.{trailer_of}
use Rattle.reel_trailer.proofs.Laws.{trailer_many, padded_front}
use Rattle.reel_trailer.proofs.same_trailer.Goals as goal

pub returns-then-rest-n : goal.returns-then-rest-n
returns-then-rest-n c =
    let a = c.args in
    sym (same_other a.rest.now (trailer_of (top_frames a.b.now a.count HEADER_BYTES).offsets)
    (λ e. c.if-rest-n.true (e ∙ trailer_many a.b.now a.count c.requires.met)))

pub returns : goal.returns
returns c =
    let a = c.args in
    c.same_bytes.ensures ∙ ap (same a.rest.now)
    (padded_front (trailer_of (top_frames a.b.now a.count HEADER_BYTES).offsets) c.trailer_of-trailer.result (4 * a.count + 8)
    c.trailer_of-trailer.ensures (trailer_many a.b.now a.count c.requires.met))
