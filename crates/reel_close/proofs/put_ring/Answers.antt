-- `put_ring` meets its contract: the ring is appended, and the header closed where that was done.
use mathlib.Core.Path.{◌∙◌, ap}
use Rattle.answer.proofs.Laws.{handed_on}
use Rattle.state.specs.Outcome.{lent_bytes}
use Rattle.state.specs.State.{shown}
use Rattle.house_frame.specs.House.{house_frame}
use Rattle.reel_build.specs.Record.{Built, built}
use Rattle.reel_close.proofs.Laws.{ring_done, ring_refused}
use Rattle.reel_close.proofs.put_ring.Goals as goal

pub returns-in_err-end : goal.returns-in_err-end
returns-in_err-end c =
    let a = c.args in
    let lent_one = shown a.one in
    let lent_last = shown a.last in
    let p = c.append in
    ap (λ (y : Built). built a.reel y (lent_bytes p.new.bytes)) (handed_on c.from_residual.ensures.1)
    ∙ ring_refused a.reel (house_frame a.reel.size lent_last lent_one) a.bytes.now p.result p.new.bytes p.ensures _ c.in_err-end.was

pub returns : goal.returns
returns c =
    let a = c.args in
    let lent_one = shown a.one in
    let lent_last = shown a.last in
    let p = c.append in
    ring_done a.reel (house_frame a.reel.size lent_last lent_one) a.bytes.now p.result p.new.bytes p.ensures _ c.in_ok-end.was c.second_at-second.result
    _ c.second_at-second.ensures c.close_header.ensures
