-- `rewrite_frame` meets its contract: the checks stand in the paper's order, and the working pair is touched only where all of them held.
use mathlib.Core.Path.{◌≡◌, refl, sym, ap, ◌∙◌}
use mathlib.Core.Bool.{true}
use mathlib.Core.List.{List}
use Prim.Native.Nat.{ℕ}
use Rattle.format.specs.declared.Size.{Size}
use native.Mathlib.Omega.{arith}
use Rattle.format.specs.Limits.{area, size_fits}
use Rattle.format.proofs.Laws.{size_in_lem}
use Rattle.answer.specs.Answer.{Written, told_written}
use Rattle.answer.proofs.Laws.{handed_on}
use Rattle.state.specs.Outcome.{leaves, lent_bytes_pair, fitted}
use Rattle.house_frame.specs.House.{house_frame}
use Rattle.state.specs.State.{State, state, shown, enough, front, Exact}
use Rattle.state.proofs.Laws.{enough_in, front_exact}
use Rattle.read_frame.specs.Frame.{frame}
use Rattle.read_frame.specs.Reading.{played}
use Rattle.house_rewrite.proofs.Laws.{rewrote_from, rewrite_size, rewrite_short, rewrite_work_short, rewrite_read}
use Rattle.house_rewrite.proofs.rewrite_frame.Goals as goal

-- the state at the front of a pair
exact : (z : Size) (p q : List ℕ) → size_fits z ≡ true → enough (area z) (state p q) ≡ true → Exact z (front (area z) (state p q))
exact z p q e h = front_exact z (state p q) e (area z) refl h

pub returns-then-not-size_fits : goal.returns-then-not-size_fits
returns-then-not-size_fits c =
    let a = c.args in
    sym (rewrite_size a.bytes.now a.size (shown a.previous) (state a.work_picture.now a.work_palette.now)
    a.out.now (sym c.size_fits.ensures ∙ c.if-not-size_fits.true))

pub overflow_mul-n : goal.overflow_mul-n
overflow_mul-n c = let z = c.args.size in omega (arith, (size_in_lem z (sym c.size_fits.ensures ∙ c.if-not-size_fits.false)).area)

pub returns-then-not-holds : goal.returns-then-not-holds
returns-then-not-holds c =
    let a = c.args in
    sym (rewrite_short a.bytes.now a.size (shown a.previous) (state a.work_picture.now a.work_palette.now)
    a.out.now (sym c.size_fits.ensures ∙ c.if-not-size_fits.false) (sym c.holds.ensures ∙ c.if-not-holds.true))

pub returns-then-not-holds-2 : goal.returns-then-not-holds-2
returns-then-not-holds-2 c =
    let a = c.args in
    sym (rewrite_work_short a.bytes.now a.size (shown a.previous) (state a.work_picture.now a.work_palette.now)
    a.out.now (sym c.size_fits.ensures ∙ c.if-not-size_fits.false) (sym c.holds.ensures ∙ c.if-not-holds.false)
    (sym c.holds-2.ensures ∙ c.if-not-holds-2.true))

pub check_frame-requires : goal.check_frame-requires
check_frame-requires c =
    let a = c.args in
    (exact a.size a.previous.picture.now a.previous.palette.now (sym c.size_fits.ensures ∙ c.if-not-size_fits.false)
    (sym c.holds.ensures ∙ c.if-not-holds.false)).picture.size

pub returns-in_err-check_frame : goal.returns-in_err-check_frame
returns-in_err-check_frame c =
    let a = c.args in
    ap (λ (x : Written). leaves (told_written x) (lent_bytes_pair a.out.now (state a.work_picture.now a.work_palette.now)))
    (handed_on c.from_residual.ensures.1)
    ∙ sym (rewrite_read a.bytes.now a.size (shown a.previous) (state a.work_picture.now a.work_palette.now)
    a.out.now (sym c.size_fits.ensures ∙ c.if-not-size_fits.false) (sym c.holds.ensures ∙ c.if-not-holds.false)
    (sym c.holds-2.ensures ∙ c.if-not-holds-2.false) _ (sym c.check_frame.ensures ∙ c.in_err-check_frame.was))

pub slice_bounds-rewrite_accepted-end : goal.slice_bounds-rewrite_accepted-end
slice_bounds-rewrite_accepted-end c = let a = c.args in
    (enough_in (area a.size) (state a.work_picture.now a.work_palette.now) (sym c.holds-2.ensures ∙ c.if-not-holds-2.false)).0

pub slice_bounds-rewrite_accepted-end-2 : goal.slice_bounds-rewrite_accepted-end-2
slice_bounds-rewrite_accepted-end-2 c =
    let a = c.args in
    sym (exact a.size a.work_picture.now a.work_palette.now (sym c.size_fits.ensures ∙ c.if-not-size_fits.false)
    (sym c.holds-2.ensures ∙ c.if-not-holds-2.false)).picture.pixels

pub slice_bounds-rewrite_accepted-end-3 : goal.slice_bounds-rewrite_accepted-end-3
slice_bounds-rewrite_accepted-end-3 c = let a = c.args in
    (enough_in (area a.size) (state a.work_picture.now a.work_palette.now) (sym c.holds-2.ensures ∙ c.if-not-holds-2.false)).1

pub slice_bounds-rewrite_accepted-end-4 : goal.slice_bounds-rewrite_accepted-end-4
slice_bounds-rewrite_accepted-end-4 c =
    let a = c.args in
    sym (exact a.size a.work_picture.now a.work_palette.now (sym c.size_fits.ensures ∙ c.if-not-size_fits.false)
    (sym c.holds-2.ensures ∙ c.if-not-holds-2.false)).colours

pub front-requires : goal.front-requires
front-requires c = sym c.holds.ensures ∙ c.if-not-holds.false

pub rewrite_accepted-requires : goal.rewrite_accepted-requires
rewrite_accepted-requires c =
    let a = c.args in (
      exact a.size a.work_picture.now a.work_palette.now (sym c.size_fits.ensures ∙ c.if-not-size_fits.false) (sym c.holds-2.ensures ∙ c.if-not-holds-2.false),
      rw c.front.ensures (exact a.size a.previous.picture.now a.previous.palette.now (sym c.size_fits.ensures ∙ c.if-not-size_fits.false)
          (sym c.holds.ensures ∙ c.if-not-holds.false)),
    )

pub returns : goal.returns
returns c =
    let a = c.args in
    let e = c.front.ensures in
    let s = front (area a.size) (shown a.previous) in
    let r = c.rewrite_accepted in
    rewrote_from a.size s (played (frame a.size a.bytes.now) s) r.result _ _ (state a.work_picture.now a.work_palette.now) a.out.now _
    (r.ensures.picture ∙ ap (λ (t : State). (played (frame a.size a.bytes.now) t).picture) e)
    (r.ensures.palette ∙ ap (λ (t : State). (played (frame a.size a.bytes.now) t).palette) e)
    (r.ensures.output ∙ ap (λ (t : State). fitted (house_frame a.size t (played (frame a.size a.bytes.now) t)) a.out.now) e)
    ∙ sym (rewrite_read a.bytes.now a.size (shown a.previous) (state a.work_picture.now a.work_palette.now)
    a.out.now (sym c.size_fits.ensures ∙ c.if-not-size_fits.false) (sym c.holds.ensures ∙ c.if-not-holds.false)
    (sym c.holds-2.ensures ∙ c.if-not-holds-2.false) _ (sym c.check_frame.ensures ∙ c.in_ok-check_frame.was))
