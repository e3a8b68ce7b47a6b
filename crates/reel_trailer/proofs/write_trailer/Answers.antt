-- `write_trailer` meets its contract: the header and the frame chunks are walked first, room is asked for last, and the part behind the size comes
-- back as the trailer.
use mathlib.Core.Path.{◌∙◌, sym, refl, ap}
use Prim.Native.Nat.{◌+◌, ◌*◌}
use native.Mathlib.Omega.{arith}
use Rattle.answer.specs.Answer.{Written, told_written}
use Rattle.answer.proofs.Laws.{handed_on}
use Rattle.state.specs.Outcome.{lent_bytes, leaves}
use Rattle.reel_trailer.proofs.Laws.{trailer_many, wrote_refused, wrote_short, wrote_back}
use Rattle.reel_trailer.proofs.write_trailer.Goals as goal

pub returns-in_err-reel : goal.returns-in_err-reel
returns-in_err-reel c =
    ap (λ (y : Written). leaves (told_written y) (lent_bytes c.args.bytes.now)) (handed_on c.from_residual.ensures.1)
    ∙ sym (wrote_refused _ _ _ c.in_err-reel.ensures)

pub returns-then-bytes-reel : goal.returns-then-bytes-reel
returns-then-bytes-reel c =
    let met = c.in_ok-reel.ensures in
    sym (wrote_short _ _ _ met.walk _ (trailer_many _ _ met.walked.met) (omega (arith, met.inside, c.if-bytes-reel.true)))

pub returns : goal.returns
returns c =
    let met = c.in_ok-reel.ensures in
    let n = 4 * c.in_ok-reel.reel.count + 8 in
    wrote_back _ _ _ met.walk n (trailer_many _ _ met.walked.met) (omega (arith, met.inside, c.if-bytes-reel.false)) c.copy.new.dst
    c.trailer_of-trailer.result n refl c.trailer_of-trailer.ensures c.copy.ensures
