-- `step_at` meets its contract: one of the two steps, by the layout.
use mathlib.Core.Path.{ap, ◌∙◌, sym}
use Rattle.chunks.specs.Spans.{next_at}
use Rattle.chunks.specs.declared.Layout.{Layout}
use Rattle.chunks.proofs.step_at.Goals as goal

pub returns-in-Loose : goal.returns-in-Loose
returns-in-Loose c = c.next_at.ensures ∙ sym (ap (λ (l : Layout). next_at l c.args.b.now c.args.at) c.in-Loose.is)

pub returns-in-Packed : goal.returns-in-Packed
returns-in-Packed c = c.packed_at.ensures ∙ sym (ap (λ (l : Layout). next_at l c.args.b.now c.args.at) c.in-Packed.is)
