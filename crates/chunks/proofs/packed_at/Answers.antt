-- `packed_at` meets its contract: what lies from offset at on is read as a single frame's header.
use mathlib.Core.Path.{refl, sym, ap, ◌∙◌}
use Prim.Native.Nat.{◌-◌}
use native.Mathlib.Omega.{arith}
use lib.ListN.{length, drop, length-drop, length-take}
use Rattle.answer.proofs.Laws.{handed_on, placed_ok}
use Rattle.chunks.proofs.Headers.{frame_in}
use Rattle.chunks.proofs.Spans.{next_packed, next_framed}
use Rattle.chunks.proofs.packed_at.Goals as goal

pub overflow_add-result : goal.overflow_add-result
overflow_add-result c =
    let b = c.args.b.now in
    let at = c.args.at in
    let i = frame_in _ _ (sym c.frame_header.ensures ∙ placed_ok at _ (sym c.placed.ensures ∙ c.in_ok-header.was)) in
    omega (arith, i.1, length-take (length b - at) (drop at b), length-drop at b)

pub returns-in_err-header : goal.returns-in_err-header
returns-in_err-header c = handed_on c.from_residual.ensures.1
    ∙ sym (next_packed c.args.b.now c.args.at _ refl _ (sym c.frame_header.ensures)
    ∙ ap (next_framed c.args.at) (sym c.placed.ensures ∙ c.in_err-header.was))

pub returns : goal.returns
returns c = sym (next_packed c.args.b.now c.args.at _ refl _ (sym c.frame_header.ensures)
    ∙ ap (next_framed c.args.at) (sym c.placed.ensures ∙ c.in_ok-header.was))
