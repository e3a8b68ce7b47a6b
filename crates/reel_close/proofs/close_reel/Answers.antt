-- `close_reel` meets its contract: the checks stand in the paper's order, and the pairs are lent on, cut to their exact lengths, only where all up to 1 held.
use mathlib.Core.Path.{refl, sym, ap, ap₂, ◌∙◌}
use mathlib.Core.Bool.{Bool, ◌&&◌}
use native.Mathlib.Omega.{arith}
use lib.Seq.{length-take-le}
use Rattle.format.specs.Limits.{area}
use Rattle.format.proofs.Laws.{size_in_lem}
use Rattle.state.specs.Outcome.{lent_bytes}
use Rattle.state.specs.State.{state, enough}
use Rattle.state.proofs.Laws.{enough_in, front_exact}
use Rattle.reel_build.specs.Record.{built}
use Rattle.reel_close.proofs.Laws.{close_few, close_time, close_size, close_short, Passed, close_laid}
use Rattle.reel_close.proofs.close_reel.Goals as goal
use Rattle.reel_close.proofs.close_reel.Goals.{then-not-holds-via-then-not-holds, then-not-holds-via-else-not-holds+then-not-holds-2}

pub returns-then-not-close_ok : goal.returns-then-not-close_ok
returns-then-not-close_ok c =
    let a = c.args in
    let lent_second = state a.second_picture.now a.second_palette.now in
    let lent_first = state a.first_picture.now a.first_palette.now in
    sym (close_time a.reel a.bytes.now lent_first lent_second (sym c.close_ok.ensures ∙ c.if-not-close_ok.true))

pub returns-then-not-size_fits : goal.returns-then-not-size_fits
returns-then-not-size_fits c =
    let a = c.args in
    let lent_second = state a.second_picture.now a.second_palette.now in
    let lent_first = state a.first_picture.now a.first_palette.now in
    sym (close_size a.reel a.bytes.now lent_first lent_second (sym c.close_ok.ensures ∙ c.if-not-close_ok.false)
    (sym c.size_fits.ensures ∙ c.if-not-size_fits.true))

pub overflow_mul-n : goal.overflow_mul-n
overflow_mul-n c = let z = c.args.reel.size in omega (arith, (size_in_lem z (sym c.size_fits.ensures ∙ c.if-not-size_fits.false)).area)

pub returns-then-not-holds : goal.returns-then-not-holds
returns-then-not-holds c =
    let a = c.args in
    let lent_second = state a.second_picture.now a.second_palette.now in
    let lent_first = state a.first_picture.now a.first_palette.now in
    let short = close_short a.reel a.bytes.now lent_first lent_second (sym c.close_ok.ensures ∙ c.if-not-close_ok.false)
    (sym c.size_fits.ensures ∙ c.if-not-size_fits.false) in
    elim c.then-not-holds.branch [
      | then-not-holds-via-then-not-holds w ↦
          sym (short (ap (λ (t : Bool). t && enough (area a.reel.size) lent_second) (sym c.holds.ensures ∙ w.if-not-holds.true)))
      | then-not-holds-via-else-not-holds+then-not-holds-2 w ↦
          sym (short (ap₂ (λ (t u : Bool). t && u) (sym c.holds.ensures ∙ w.if-not-holds.false) (sym w.holds-else-not-holds.ensures ∙ w.if-not-holds-2.true)))
    ]

pub slice_bounds-close_frames-end-4 : goal.slice_bounds-close_frames-end-4
slice_bounds-close_frames-end-4 c =
    let a = c.args in
    let room = enough_in (area a.reel.size) (state a.first_picture.now a.first_palette.now) (sym c.holds.ensures ∙ c.if-not-holds.false) in
    sym (length-take-le 768 a.first_palette.now room.1)

pub slice_bounds-close_frames-end-8 : goal.slice_bounds-close_frames-end-8
slice_bounds-close_frames-end-8 c =
    let a = c.args in
    let room = enough_in (area a.reel.size) (state a.second_picture.now a.second_palette.now) (sym c.holds-else-not-holds.ensures ∙ c.if-not-holds-2.false) in
    sym (length-take-le 768 a.second_palette.now room.1)

pub close_frames-requires : goal.close_frames-requires
close_frames-requires c =
    let a = c.args in
    let z = a.reel.size in
    let sized = sym c.size_fits.ensures ∙ c.if-not-size_fits.false in
    let f = close_few a.reel.frames a.reel.closed (sym c.close_ok.ensures ∙ c.if-not-close_ok.false) in (
      f.0,
      f.1,
      front_exact z (state a.first_picture.now a.first_palette.now) sized (area z) refl (sym c.holds.ensures ∙ c.if-not-holds.false),
      front_exact z (state a.second_picture.now a.second_palette.now) sized (area z) refl (sym c.holds-else-not-holds.ensures ∙ c.if-not-holds-2.false),
    )

pub returns : goal.returns
returns c =
    let a = c.args in
    let lent_second = state a.second_picture.now a.second_palette.now in
    let lent_first = state a.first_picture.now a.first_palette.now in
    let p : Passed a.reel lent_first lent_second = record {
      taken = sym c.close_ok.ensures ∙ c.if-not-close_ok.false;
      sized = sym c.size_fits.ensures ∙ c.if-not-size_fits.false;
      first_long = sym c.holds.ensures ∙ c.if-not-holds.false;
      second_long = sym c.holds-else-not-holds.ensures ∙ c.if-not-holds-2.false;
    } in
    let f = c.close_frames in
    close_laid a.reel a.bytes.now lent_first lent_second p (area a.reel.size) refl (built a.reel f.result (lent_bytes f.new.bytes)) _ _
    f.ensures.bytes f.ensures.first f.ensures.second
