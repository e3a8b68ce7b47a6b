-- `check_reel` meets its contract: the checks stand in the order of the paper, and the pairs are lent on, cut to their exact lengths, only where all
-- of them held.
use mathlib.Core.Path.{◌∙◌, sym, refl, ap, ap₂}
use mathlib.Core.Bool.{Bool, ◌&&◌}
use native.Mathlib.Omega.{arith}
use lib.Seq.{length-take-le}
use Rattle.answer.specs.Answer.{Answer, placed, told}
use Rattle.answer.proofs.Laws.{handed_on, placed_ok}
use Rattle.format.specs.Limits.{area}
use Rattle.format.proofs.Laws.{size_in_lem}
use Rattle.state.specs.State.{state, enough}
use Rattle.state.specs.Outcome.{lent_pairs, leaves}
use Rattle.state.proofs.Laws.{enough_in, front_exact}
use Rattle.reel_header.specs.Head.{Headed}
use Rattle.reel_header.proofs.Laws.{head_in}
use Rattle.reel_check.proofs.Laws.{check_fault, check_short, check_laid}
use Rattle.reel_check.proofs.check_reel.Goals as goal
use Rattle.reel_check.proofs.check_reel.Goals.{then-not-holds-via-then-not-holds, then-not-holds-via-else-not-holds+then-not-holds-2}

pub returns-in_err-head : goal.returns-in_err-head
returns-in_err-head c =
    let a = c.args in
    let first = state a.first_picture.now a.first_palette.now in
    let second = state a.second_picture.now a.second_palette.now in
    ap (λ (x : Answer). leaves (told x) (lent_pairs first second)) (handed_on c.from_residual.ensures.1)
    ∙ sym (check_fault a.bytes.now first second _ (ap (λ (x : Headed). placed 0 x) (sym c.head_of.ensures) ∙ sym c.placed.ensures ∙ c.in_err-head.was))

pub overflow_mul-n : goal.overflow_mul-n
overflow_mul-n c =
    let headed = sym c.head_of.ensures ∙ placed_ok _ _ (sym c.placed.ensures ∙ c.in_ok-head.was) in
    omega (arith, (size_in_lem c.in_ok-head.head.picture (head_in _ _ _ headed).sized).area)

pub returns-then-not-holds : goal.returns-then-not-holds
returns-then-not-holds c =
    let a = c.args in
    let first = state a.first_picture.now a.first_palette.now in
    let second = state a.second_picture.now a.second_palette.now in
    let n = area c.in_ok-head.head.picture in
    let short = check_short a.bytes.now first second _ _ _ _ (sym c.head_of.ensures ∙ placed_ok _ _ (sym c.placed.ensures ∙ c.in_ok-head.was)) in
    elim c.then-not-holds.branch [
      | then-not-holds-via-then-not-holds w ↦ sym (short (ap (λ (t : Bool). t && enough n second) (sym c.holds.ensures ∙ w.if-not-holds.true)))
      | then-not-holds-via-else-not-holds+then-not-holds-2 w ↦
          sym (short (ap₂ (λ (t u : Bool). t && u) (sym c.holds.ensures ∙ w.if-not-holds.false) (sym w.holds-else-not-holds.ensures ∙ w.if-not-holds-2.true)))
    ]

pub slice_bounds-check_frames-end-4 : goal.slice_bounds-check_frames-end-4
slice_bounds-check_frames-end-4 c =
    let a = c.args in
    let room = enough_in (area c.in_ok-head.head.picture) (state a.first_picture.now a.first_palette.now) (sym c.holds.ensures ∙ c.if-not-holds.false) in
    sym (length-take-le 768 a.first_palette.now room.1)

pub slice_bounds-check_frames-end-8 : goal.slice_bounds-check_frames-end-8
slice_bounds-check_frames-end-8 c =
    let a = c.args in
    let room = enough_in (area c.in_ok-head.head.picture) (state a.second_picture.now a.second_palette.now)
    (sym c.holds-else-not-holds.ensures ∙ c.if-not-holds-2.false) in
    sym (length-take-le 768 a.second_palette.now room.1)

pub slice_bounds-check_frames-end-9 : goal.slice_bounds-check_frames-end-9
slice_bounds-check_frames-end-9 c =
    let headed = sym c.head_of.ensures ∙ placed_ok _ _ (sym c.placed.ensures ∙ c.in_ok-head.was) in
    sym (length-take-le c.in_ok-head.head.size c.args.bytes.now (head_in _ _ _ headed).most)

pub check_frames-requires : goal.check_frames-requires
check_frames-requires c =
    let a = c.args in
    let h = c.in_ok-head.head in
    let i = head_in _ _ _ (sym c.head_of.ensures ∙ placed_ok _ _ (sym c.placed.ensures ∙ c.in_ok-head.was)) in
    let n = area h.picture in (
      omega (arith, i.least, length-take-le h.size a.bytes.now i.most),
      front_exact h.picture (state a.first_picture.now a.first_palette.now) i.sized n refl (sym c.holds.ensures ∙ c.if-not-holds.false),
      front_exact h.picture (state a.second_picture.now a.second_palette.now) i.sized n refl
          (sym c.holds-else-not-holds.ensures ∙ c.if-not-holds-2.false),
    )

pub returns : goal.returns
returns c =
    let a = c.args in
    let h = c.in_ok-head.head in
    let f = c.check_frames in
    check_laid a.bytes.now (state a.first_picture.now a.first_palette.now) (state a.second_picture.now a.second_palette.now) h.picture h.frames h.size h.speed
    (sym c.head_of.ensures ∙ placed_ok _ _ (sym c.placed.ensures ∙ c.in_ok-head.was)) (sym c.holds.ensures ∙ c.if-not-holds.false)
    (sym c.holds-else-not-holds.ensures ∙ c.if-not-holds-2.false) (area h.picture) h.size refl refl f.result _ _
    f.ensures.answer f.ensures.first f.ensures.second
