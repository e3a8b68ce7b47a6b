-- `draw_next` meets its contract: the checks stand in the order of the paper, and the frame is played at the pair's front only where all of them held.
use Rattle.std.proofs.Common.{refl, sym, ◌∙◌, leb-true}
use lib.Seq.{length-take-le}
use Rattle.words.proofs.Tests.{both_true}
use Rattle.format.specs.Limits.{area}
use Rattle.state.specs.State.{state}
use Rattle.state.proofs.Laws.{enough_in, front_exact}
use Rattle.board_player.proofs.Laws.{draw_size, draw_short, draw_record, draw_one}
use Rattle.board_player.proofs.draw_next.Goals as goal

pub returns-then-not-size_fits : goal.returns-then-not-size_fits
returns-then-not-size_fits c =
    draw_size c.args.player c.args.bytes.now _ _ c.from-size.ensures (sym c.size_fits.ensures ∙ c.if-not-size_fits.true)

pub returns-then-not-holds : goal.returns-then-not-holds
returns-then-not-holds c =
    draw_short c.args.player c.args.bytes.now _ _ c.from-size.ensures (sym c.size_fits.ensures ∙ c.if-not-size_fits.false)
    (sym c.holds.ensures ∙ c.if-not-holds.true)

pub returns-then-not-record_ok : goal.returns-then-not-record_ok
returns-then-not-record_ok c =
    draw_record c.args.player c.args.bytes.now _ _ c.from-size.ensures (sym c.size_fits.ensures ∙ c.if-not-size_fits.false)
    (sym c.holds.ensures ∙ c.if-not-holds.false) (sym c.record_ok.ensures ∙ c.if-not-record_ok.true)

pub slice_bounds-one_frame-end-4 : goal.slice_bounds-one_frame-end-4
slice_bounds-one_frame-end-4 c =
    let a = c.args in
    let room = enough_in (area c.from-size.result) (state a.picture.now a.palette.now) (sym c.holds.ensures ∙ c.if-not-holds.false) in
    sym (length-take-le 768 a.palette.now room.1)

pub one_frame-requires : goal.one_frame-requires
one_frame-requires c =
    let ok = both_true _ _ (sym c.record_ok.ensures ∙ c.if-not-record_ok.false) in (
      leb-true _ _ ok.0,
      front_exact c.from-size.result (state c.args.picture.now c.args.palette.now) (sym c.size_fits.ensures ∙ c.if-not-size_fits.false) _ refl
          (sym c.holds.ensures ∙ c.if-not-holds.false),
    )

pub returns : goal.returns
returns c =
    let l = c.one_frame.new in
    draw_one c.args.player c.args.bytes.now (state c.args.picture.now c.args.palette.now) _ c.from-size.ensures
    (sym c.size_fits.ensures ∙ c.if-not-size_fits.false) (sym c.holds.ensures ∙ c.if-not-holds.false)
    (sym c.record_ok.ensures ∙ c.if-not-record_ok.false) c.one_frame.result (state l.picture l.palette) c.one_frame.ensures
