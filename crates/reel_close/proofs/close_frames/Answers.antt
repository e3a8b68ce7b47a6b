-- `close_frames` meets its contract: the pairs hold what the close's own playing showed, and the ring is written from them.
use mathlib.Core.Path.{refl, ap, ap₂, sym, ◌∙◌}
use Prim.Native.Nat.{◌-◌}
use native.Mathlib.Omega.{arith}
use lib.Seq.{length-take-le}
use lib.ListN.{length, take}
use Rattle.std.specs.Prelude.{Err}
use Rattle.answer.specs.Answer.{refused_at}
use Rattle.answer.specs.declared.Refusal.TheVariants.{Cut}
use Rattle.answer.proofs.Laws.{handed_on}
use Rattle.state.specs.Outcome.{lent_bytes}
use Rattle.state.specs.State.{State, state}
use Rattle.chunks.specs.declared.Layout.TheVariants.{Packed}
use Rattle.reel_play.specs.Play.{Shown, shown}
use Rattle.reel_play.proofs.Laws.{exact_kept}
use Rattle.reel_build.specs.Record.{Built, built}
use Rattle.reel_build.proofs.Laws.{end_in}
use Rattle.reel_close.proofs.Laws.{all_long, own_record, own_played, own_told, frames_stopped, frames_early, frames_ringed}
use Rattle.reel_close.proofs.close_frames.Goals as goal

pub returns-then-not-end_ok : goal.returns-then-not-end_ok
returns-then-not-end_ok c =
    let a = c.args in
    own_told a.reel a.bytes.now
    (shown (Err (refused_at Cut 0)) (state c.clear.new.picture c.clear.new.palette)
    (state c.clear-then-not-end_ok.new.picture c.clear-then-not-end_ok.new.palette))
    (own_record a.reel a.bytes.now (sym c.end_ok.ensures ∙ c.if-not-end_ok.true)
    ∙ ap₂ (λ (s t : State). shown (Err (refused_at Cut 0)) s t) (sym c.clear.ensures) (sym c.clear-then-not-end_ok.ensures)) _ refl

pub slice_bounds-play_all-end : goal.slice_bounds-play_all-end
slice_bounds-play_all-end c = (end_in c.args.reel.end (length c.args.bytes.now) (sym c.end_ok.ensures ∙ c.if-not-end_ok.false)).1

pub play_all-requires : goal.play_all-requires
play_all-requires c =
    let a = c.args in
    let i = end_in a.reel.end (length a.bytes.now) (sym c.end_ok.ensures ∙ c.if-not-end_ok.false) in
    (omega (arith, i.0, length-take-le a.reel.end a.bytes.now i.1), c.requires.2, c.requires.3)

pub returns-in_err-last : goal.returns-in_err-last
returns-in_err-last c =
    let a = c.args in
    let p = c.play_all in
    let s = state p.new.picture p.new.palette in
    let t = state p.new.picture2 p.new.palette2 in
    own_told a.reel a.bytes.now (shown p.result s t)
    (own_played a.reel a.bytes.now (sym c.end_ok.ensures ∙ c.if-not-end_ok.false) a.reel.end refl _ p.ensures)
    _ (ap (λ (y : Built). built a.reel y (lent_bytes a.bytes.now)) (handed_on c.from_residual.ensures.1)
    ∙ frames_stopped a.reel a.bytes.now p.result s t _ c.in_err-last.was)

pub returns-then-last-reel : goal.returns-then-last-reel
returns-then-last-reel c =
    let a = c.args in
    let p = c.play_all in
    let s = state p.new.picture p.new.palette in
    let t = state p.new.picture2 p.new.palette2 in
    own_told a.reel a.bytes.now (shown p.result s t)
    (own_played a.reel a.bytes.now (sym c.end_ok.ensures ∙ c.if-not-end_ok.false) a.reel.end refl _ p.ensures)
    _ (frames_early a.reel a.bytes.now p.result s t _ _ c.in_ok-last.was
    (omega (arith, (end_in a.reel.end (length a.bytes.now) (sym c.end_ok.ensures ∙ c.if-not-end_ok.false)).0)))

pub put_ring-requires : goal.put_ring-requires
put_ring-requires c =
    let a = c.args in
    let p = c.play_all in
    let i = end_in a.reel.end (length a.bytes.now) (sym c.end_ok.ensures ∙ c.if-not-end_ok.false) in
    let l = length-take-le a.reel.end a.bytes.now i.1 in
    let long = all_long Packed (a.reel.frames - 1) a.reel.size (take a.reel.end a.bytes.now) _ _ (omega (arith, i.0, l))
    (ap (λ (x : Shown). x.result) (sym p.ensures) ∙ c.in_ok-last.was) in (
      omega (arith, long, l),
      i.1,
      c.requires.1,
      exact_kept a.reel.size (state a.picture.now a.palette.now) c.requires.2 _ _ p.auto.picture p.auto.palette,
      exact_kept a.reel.size (state a.picture2.now a.palette2.now) c.requires.3 _ _ p.auto.picture2 p.auto.palette2,
    )

pub returns : goal.returns
returns c =
    let a = c.args in
    let p = c.play_all in
    let s = state p.new.picture p.new.palette in
    let t = state p.new.picture2 p.new.palette2 in
    own_told a.reel a.bytes.now (shown p.result s t)
    (own_played a.reel a.bytes.now (sym c.end_ok.ensures ∙ c.if-not-end_ok.false) a.reel.end refl _ p.ensures)
    _ (c.put_ring.ensures ∙ frames_ringed a.reel a.bytes.now p.result s t _ _ c.in_ok-last.was c.if-last-reel.false)
