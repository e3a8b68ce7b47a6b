-- The invariant: the sub-chunks that are left, on the state as it is now, give what all of them give on the state as it was found.
use mathlib.Core.Path.{ap, ap₂, ◌∙◌, sym}
use native.Mathlib.Omega.{arith}
use Rattle.answer.specs.Answer.{Answer, placed}
use Rattle.answer.proofs.Laws.{handed_on, placed_ok}
use Rattle.chunks.proofs.Headers.{header_in_lem}
use Rattle.state.specs.State.{state}
use Rattle.read_frame.proofs.Laws.{seen_gives, seen_none, seen_fault, seen_good, seen_bad}
use Rattle.read_frame.proofs.walk_chunks.Goals as goal

pub returns-in_err-chunk : goal.returns-in_err-chunk
returns-in_err-chunk c =
    let a = c.args in
    let l = c.loop in
    let q = sym (c.placed.ensures ∙ ap (placed l.at) c.header_at.ensures) ∙ c.in_err-chunk.was in
    seen_gives a.pass _ (state a.picture.now a.palette.now) _ _ _
    (l.invariant.3 ∙ seen_fault a.size a.b.now a.pass _ l.at (state l.picture l.palette) (omega arith) _ q
    ∙ ap (λ (x : Answer). (x, state l.picture l.palette)) (sym (handed_on c.from_residual.ensures.1)))

pub slice_bounds-body-count : goal.slice_bounds-body-count
slice_bounds-body-count c = (header_in_lem _ _ _ (sym c.header_at.ensures ∙ placed_ok _ _ (sym c.placed.ensures ∙ c.in_ok-chunk.was))).0

pub slice_bounds-body-start : goal.slice_bounds-body-start
slice_bounds-body-start c = (header_in_lem _ _ _ (sym c.header_at.ensures ∙ placed_ok _ _ (sym c.placed.ensures ∙ c.in_ok-chunk.was))).0

pub slice_bounds-body-end : goal.slice_bounds-body-end
slice_bounds-body-end c = (header_in_lem _ _ _ (sym c.header_at.ensures ∙ placed_ok _ _ (sym c.placed.ensures ∙ c.in_ok-chunk.was))).1

pub returns-in_err-placed : goal.returns-in_err-placed
returns-in_err-placed c =
    let a = c.args in
    let l = c.loop in
    let x = c.walk_chunk-walked in
    let q = sym (c.placed.ensures ∙ ap (placed l.at) c.header_at.ensures) ∙ c.in_ok-chunk.was in
    seen_gives a.pass _ (state a.picture.now a.palette.now) _ _ _
    (l.invariant.3
    ∙ seen_bad a.size a.b.now a.pass _ l.at (state l.picture l.palette) (omega arith) _ q
    (state x.new.picture x.new.palette) (ap₂ state x.ensures.pixels x.ensures.colours) x.result x.ensures.verdict
    _ (sym c.placed-in-loop.ensures ∙ c.in_err-placed.was)
    ∙ ap (λ (y : Answer). (y, state x.new.picture x.new.palette)) (sym (handed_on c.from_residual-in_err-placed.ensures.1)))

pub loop-preserved : goal.loop-preserved
loop-preserved c =
    let a = c.args in
    let l = c.loop in
    let x = c.walk_chunk-walked in
    let q = sym (c.placed.ensures ∙ ap (placed l.at) c.header_at.ensures) ∙ c.in_ok-chunk.was in (
      (header_in_lem _ _ _ (placed_ok l.at _ q)).1,
      x.auto.picture ∙ l.invariant.1,
      x.auto.palette ∙ l.invariant.2,
      l.invariant.3
          ∙ seen_good a.size a.b.now a.pass _ l.at (state l.picture l.palette) (omega arith) _ q
          (state x.new.picture x.new.palette) (ap₂ state x.ensures.pixels x.ensures.colours) x.result x.ensures.verdict
          _ (sym c.placed-in-loop.ensures ∙ c.in_ok-placed.was) _ (omega arith),
    )

pub returns : goal.returns
returns c =
    let a = c.args in
    let l = c.loop in
    seen_gives a.pass _ (state a.picture.now a.palette.now) _ _ _
    (l.invariant.3 ∙ seen_none a.size a.b.now a.pass _ l.at (state l.picture l.palette) (omega arith))
