-- `write_frame` meets its contract: the checks stand in the paper's order, and where all hold the frame is written from the front of each slice.
use mathlib.Core.Path.{refl, sym, ap₂, ◌∙◌}
use native.Mathlib.Omega.{arith}
use Rattle.format.specs.Limits.{area}
use Rattle.format.proofs.Laws.{size_in_lem}
use Rattle.state.specs.State.{State, shown}
use Rattle.state.proofs.Laws.{front_exact}
use Rattle.state.specs.Outcome.{fitted}
use Rattle.house_frame.specs.House.{house_frame}
use Rattle.house_frame.proofs.Laws.{write_size, write_previous, write_next, write_fitted}
use Rattle.house_frame.proofs.write_frame.Goals as goal

pub returns-then-not-size_fits : goal.returns-then-not-size_fits
returns-then-not-size_fits c =
    let a = c.args in
    write_size a.size (shown a.previous) (shown a.next) a.out.now
    (sym c.size_fits.ensures ∙ c.if-not-size_fits.true)

pub overflow_mul-n : goal.overflow_mul-n
overflow_mul-n c = let z = c.args.size in omega (arith, (size_in_lem z (sym c.size_fits.ensures ∙ c.if-not-size_fits.false)).area)

pub returns-then-not-holds : goal.returns-then-not-holds
returns-then-not-holds c =
    let a = c.args in
    write_previous a.size (shown a.previous) (shown a.next) a.out.now
    (sym c.size_fits.ensures ∙ c.if-not-size_fits.false) (sym c.holds.ensures ∙ c.if-not-holds.true)

pub returns-then-not-holds-2 : goal.returns-then-not-holds-2
returns-then-not-holds-2 c =
    let a = c.args in
    write_next a.size (shown a.previous) (shown a.next) a.out.now
    (sym c.size_fits.ensures ∙ c.if-not-size_fits.false) (sym c.holds.ensures ∙ c.if-not-holds.false) (sym c.holds-2.ensures ∙ c.if-not-holds-2.true)

pub front-requires : goal.front-requires
front-requires c = sym c.holds.ensures ∙ c.if-not-holds.false

pub front-requires-2 : goal.front-requires-2
front-requires-2 c = sym c.holds-2.ensures ∙ c.if-not-holds-2.false

pub write_house-requires : goal.write_house-requires
write_house-requires c =
    let z = c.args.size in
    let fits = sym c.size_fits.ensures ∙ c.if-not-size_fits.false in (
      rw c.front.ensures (front_exact z (shown c.args.previous) fits (area z) refl (sym c.holds.ensures ∙ c.if-not-holds.false)),
      rw c.front-2.ensures (front_exact z (shown c.args.next) fits (area z) refl (sym c.holds-2.ensures ∙ c.if-not-holds-2.false)),
    )

pub returns : goal.returns
returns c =
    let a = c.args in
    c.write_house.ensures
    ∙ ap₂ (λ (s t : State). fitted (house_frame a.size s t) a.out.now) c.front.ensures c.front-2.ensures
    ∙ write_fitted a.size (shown a.previous) (shown a.next) a.out.now (sym c.size_fits.ensures ∙ c.if-not-size_fits.false)
    (sym c.holds.ensures ∙ c.if-not-holds.false) (sym c.holds-2.ensures ∙ c.if-not-holds-2.false)
