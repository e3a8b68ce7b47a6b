-- `read_frame` meets its contract: the checks stand in the paper's order, and playing begins only where all of them held.
use mathlib.Core.Path.{refl, ap, ◌∙◌, sym}
use native.Mathlib.Omega.{arith}
use lib.Seq.{length-take-le}
use Rattle.format.specs.Limits.{area}
use Rattle.format.proofs.Laws.{size_in_lem}
use Rattle.answer.specs.Answer.{told}
use Rattle.state.specs.State.{State, state, refilled}
use Rattle.state.specs.Outcome.{lent_pair, leaves}
use Rattle.state.proofs.Laws.{enough_in, front_exact}
use Rattle.read_frame.specs.Frame.{frame}
use Rattle.read_frame.proofs.Laws.{read_size, read_short, read_by_lem, read_settled}
use Rattle.read_frame.proofs.read_frame.Goals as goal

pub returns-then-not-size_fits : goal.returns-then-not-size_fits
returns-then-not-size_fits c =
    let a = c.args in
    sym (read_size a.bytes.now a.size (state a.picture.now a.palette.now) (sym c.size_fits.ensures ∙ c.if-not-size_fits.true))

pub overflow_mul-n : goal.overflow_mul-n
overflow_mul-n c = let z = c.args.size in omega (arith, (size_in_lem z (sym c.size_fits.ensures ∙ c.if-not-size_fits.false)).area)

pub returns-then-not-holds : goal.returns-then-not-holds
returns-then-not-holds c =
    let a = c.args in
    sym (read_short a.bytes.now a.size (state a.picture.now a.palette.now) (sym c.size_fits.ensures ∙ c.if-not-size_fits.false)
    (sym c.holds.ensures ∙ c.if-not-holds.true))

pub slice_bounds-play_frame-end : goal.slice_bounds-play_frame-end
slice_bounds-play_frame-end c = (let a = c.args in enough_in (area a.size) (state a.picture.now a.palette.now) (sym c.holds.ensures ∙ c.if-not-holds.false)).0

pub slice_bounds-play_frame-end-2 : goal.slice_bounds-play_frame-end-2
slice_bounds-play_frame-end-2 c = sym
    (length-take-le _ _ (let a = c.args in enough_in (area a.size) (state a.picture.now a.palette.now) (sym c.holds.ensures ∙ c.if-not-holds.false)).0)

pub slice_bounds-play_frame-end-3 : goal.slice_bounds-play_frame-end-3
slice_bounds-play_frame-end-3 c = (let a = c.args in enough_in (area a.size) (state a.picture.now a.palette.now) (sym c.holds.ensures ∙ c.if-not-holds.false)).1

pub slice_bounds-play_frame-end-4 : goal.slice_bounds-play_frame-end-4
slice_bounds-play_frame-end-4 c = sym
    (length-take-le 768 c.args.palette.now
    (let a = c.args in enough_in (area a.size) (state a.picture.now a.palette.now) (sym c.holds.ensures ∙ c.if-not-holds.false)).1)

pub play_frame-requires : goal.play_frame-requires
play_frame-requires c =
    let a = c.args in
    front_exact a.size (state a.picture.now a.palette.now) (sym c.size_fits.ensures ∙ c.if-not-size_fits.false) (area a.size) refl
    (sym c.holds.ensures ∙ c.if-not-holds.false)

pub returns : goal.returns
returns c =
    let a = c.args in
    let lent = state a.picture.now a.palette.now in
    let x = c.play_frame in
    ap (λ (s : State). leaves (told x.result) (lent_pair (refilled (area a.size) s lent))) x.ensures.state
    ∙ read_settled (area a.size) (frame a.size a.bytes.now) x.result lent
    ∙ sym (read_by_lem a.bytes.now a.size lent (sym c.size_fits.ensures ∙ c.if-not-size_fits.false) (sym c.holds.ensures ∙ c.if-not-holds.false)
    x.result (sym x.ensures.answer))
