-- `play_all` meets its contract: where frame 1 was accepted, the further frames go on from its end and its state; the second pair is not touched again.
use mathlib.Core.Path.{ap, ap₂, ◌∙◌, sym}
use mathlib.Core.List.{List}
use Prim.Native.Nat.{ℕ}
use Rattle.std.specs.Prelude.{Err}
use Rattle.answer.proofs.Laws.{handed_on}
use Rattle.state.specs.State.{blank, state}
use Rattle.reel_play.specs.Play.{Ran, Progress, shown}
use Rattle.reel_play.proofs.Laws.{exact_kept, one_ran, one_in, all_stopped, all_more}
use Rattle.format.specs.Limits.{area}
use Rattle.reel_play.proofs.play_all.Goals as goal

pub returns-in_err-first : goal.returns-in_err-first
returns-in_err-first c =
    let a = c.args in
    let p = c.play_first in
    let t = state p.new.picture p.new.palette in
    ap (λ (r : Ran). shown r t (state p.new.picture2 p.new.palette2)) (handed_on c.from_residual.ensures.1)
    ∙ ap₂ (λ (x y : List ℕ). shown (Err c.in_err-first.field-0.0) t (state x y)) p.ensures.picture p.ensures.palette
    ∙ sym (all_stopped a.layout a.more a.size a.b.now t _
    (one_ran a.layout a.size a.b.now 128 (blank (area a.size)) p.result _ t p.ensures.first c.in_err-first.was))

pub play_frames-requires : goal.play_frames-requires
play_frames-requires c =
    let a = c.args in
    let p = c.play_first in (
      (one_in a.layout a.size a.b.now 128 (blank (area a.size)) c.requires.0 _
          (ap (λ (x : Progress). x.result) (sym p.ensures.first) ∙ c.in_ok-first.was)).2,
      exact_kept a.size (state a.picture.now a.palette.now) c.requires.1 _ _ p.auto.picture p.auto.palette,
    )

pub returns : goal.returns
returns c =
    let a = c.args in
    let p = c.play_first in
    let f = c.play_frames in
    ap₂ (λ (x y : List ℕ). shown f.result (state f.new.picture f.new.palette) (state x y)) p.ensures.picture p.ensures.palette
    ∙ sym (all_more a.layout a.more a.size a.b.now (state p.new.picture p.new.palette) _ _
    (one_ran a.layout a.size a.b.now 128 (blank (area a.size)) p.result _ (state p.new.picture p.new.palette) p.ensures.first c.in_ok-first.was) _ f.ensures)
