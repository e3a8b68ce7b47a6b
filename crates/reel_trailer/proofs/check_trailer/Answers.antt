-- `check_trailer` meets its contract: the header and the frame chunks are walked first, and only where all frames were met is what follows the size compared.
use mathlib.Core.Path.{◌∙◌, sym, ap}
use mathlib.Core.Bool.{true, false}
use native.Mathlib.Omega.{arith}
use Rattle.answer.specs.Answer.{told}
use Rattle.answer.proofs.Laws.{handed_on}
use Rattle.reel_trailer.proofs.Laws.{checked_refused, checked_bare, checked_compared}
use Rattle.reel_trailer.proofs.check_trailer.Goals as goal
use Rattle.reel_trailer.proofs.check_trailer.Goals.{then-bytes-reel-via-then-bytes-reel, then-bytes-reel-via-else-bytes-reel+then-same_trailer}

pub returns-in_err-reel : goal.returns-in_err-reel
returns-in_err-reel c = ap told (handed_on c.from_residual.ensures.1) ∙ sym (checked_refused _ _ _ c.in_err-reel.ensures)

pub returns-then-bytes-reel : goal.returns-then-bytes-reel
returns-then-bytes-reel c =
    let met = c.in_ok-reel.ensures in
    elim c.then-bytes-reel.branch [
      | then-bytes-reel-via-then-bytes-reel w ↦ sym (checked_bare _ _ _ met.walk w.if-bytes-reel.true)
      | then-bytes-reel-via-else-bytes-reel+then-same_trailer w ↦
          sym (checked_compared _ _ _ met.walk (omega (arith, met.inside, w.if-bytes-reel.false)) _ true w.same_trailer.ensures w.if-same_trailer.true)
    ]

pub returns : goal.returns
returns c =
    let met = c.in_ok-reel.ensures in
    sym (checked_compared _ _ _ met.walk (omega (arith, met.inside, c.if-bytes-reel.false)) _ false c.same_trailer.ensures c.if-same_trailer.false)
