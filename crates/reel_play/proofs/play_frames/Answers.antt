-- `play_frames` meets its contract. The invariant: all frames from the start on the state as found come to what the frames left come to on the state as it is.
use mathlib.Core.Path.{◌≡◌, ap, ◌∙◌, sym}
use Prim.Native.Nat.{ℕ, ◌+◌, ◌-◌}
use native.Mathlib.Omega.{arith}
use Rattle.answer.proofs.Laws.{handed_on}
use Rattle.state.specs.State.{state}
use Rattle.reel_play.specs.Play.{Ran, Progress, ran, frames}
use Rattle.reel_play.proofs.Laws.{exact_kept, one_ran, one_in, frames_none, frames_stopped, frames_more}
use Rattle.reel_play.proofs.play_frames.Goals as goal

pub returns-in_err-last : goal.returns-in_err-last
returns-in_err-last c =
    let a = c.args in
    let l = c.loop in
    let p = c.one_frame in
    let s = state l.picture l.palette in
    let t = state p.new.picture p.new.palette in
    ap (λ (r : Ran). ran r t) (handed_on c.from_residual.ensures.1)
    ∙ sym (l.invariant.2 ∙ frames_stopped a.layout a.size a.b.now (a.count - l.counter) l.last.from l.last.end s (omega arith) t _
    (one_ran a.layout a.size a.b.now l.last.end s p.result _ t p.ensures c.in_err-last.was))

pub loop-preserved : goal.loop-preserved
loop-preserved c =
    let a = c.args in
    let l = c.loop in
    let p = c.one_frame in
    let s = state l.picture l.palette in
    let t = state p.new.picture p.new.palette in
    let last = c.in_ok-last.last in
    let one : a.count - l.counter - 1 ≡ a.count - (l.counter + 1) = omega arith in (
      (one_in a.layout a.size a.b.now l.last.end s l.invariant.0 _ (ap (λ (x : Progress). x.result) (sym p.ensures) ∙ c.in_ok-last.was)).2,
      exact_kept a.size s l.invariant.1 _ _ p.auto.picture p.auto.palette,
      l.invariant.2
          ∙ frames_more a.layout a.size a.b.now (a.count - l.counter) l.last.from l.last.end s (omega arith) t _ _
          (one_ran a.layout a.size a.b.now l.last.end s p.result _ t p.ensures c.in_ok-last.was)
          ∙ ap (λ (n : ℕ). frames a.layout a.size a.b.now n last.from last.end t) one,
    )

pub returns : goal.returns
returns c =
    let a = c.args in
    let l = c.loop in
    sym (l.invariant.2 ∙ frames_none a.layout a.size a.b.now (a.count - l.counter) l.last.from l.last.end (state l.picture l.palette) (omega arith))
