-- `measure_colours` meets its contract: nothing is planned for equal palettes, else the chunk whose body was sized, six bytes longer for its header.
use Rattle.house_frame.proofs.Laws.{colour_same, colour_other}
use mathlib.Core.Path.{sym, ◌∙◌}
use Rattle.house_frame.proofs.measure_colours.Goals as goal

pub returns-then-same_bytes : goal.returns-then-same_bytes
returns-then-same_bytes c = colour_same c.args.previous.now c.args.next.now (sym c.same_bytes.ensures ∙ c.if-same_bytes.true)

pub returns : goal.returns
returns c = colour_other c.args.previous.now c.args.next.now (sym c.same_bytes.ensures ∙ c.if-same_bytes.false) c.colour_size-body.result
    c.colour_size-body.ensures.0
