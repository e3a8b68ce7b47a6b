-- `check_frames` meets its contract: a run that stopped gives its refusal; one that didn't is decided by comparing the pairs, which hold the ring's
-- state and frame 1's.
use mathlib.Core.Path.{◌∙◌, sym}
use Rattle.answer.proofs.Laws.{handed_on}
use Rattle.chunks.specs.declared.Layout.TheVariants.{Loose}
use Rattle.state.specs.State.{state}
use Rattle.reel_play.specs.Play.{shown, play_all}
use Rattle.reel_check.proofs.Laws.{ring_stopped, ring_compared, ring_told}
use Rattle.reel_check.proofs.check_frames.Goals as goal

pub returns-in_err-ring : goal.returns-in_err-ring
returns-in_err-ring c =
    let a = c.args in
    let p = c.play_all in
    let x = shown p.result (state p.new.picture p.new.palette) (state p.new.picture2 p.new.palette2) in
    ring_told x (play_all Loose a.count a.size a.b.now) p.ensures _ (ring_stopped x _ c.in_err-ring.was ∙ sym (handed_on c.from_residual.ensures.1))

pub returns-then-same_state : goal.returns-then-same_state
returns-then-same_state c =
    let a = c.args in
    let p = c.play_all in
    let x = shown p.result (state p.new.picture p.new.palette) (state p.new.picture2 p.new.palette2) in
    ring_told x (play_all Loose a.count a.size a.b.now) p.ensures _
    (ring_compared x _ _ c.in_ok-ring.was _ _ c.same_state.ensures c.if-same_state.true)

pub returns : goal.returns
returns c =
    let a = c.args in
    let p = c.play_all in
    let x = shown p.result (state p.new.picture p.new.palette) (state p.new.picture2 p.new.palette2) in
    ring_told x (play_all Loose a.count a.size a.b.now) p.ensures _
    (ring_compared x _ _ c.in_ok-ring.was _ _ c.same_state.ensures c.if-same_state.false)
