-- `measure_delta` meets its contract: nothing is planned for equal pictures; else the delta is sized, and the edges of the rows are counted.
use mathlib.Core.Path.{sym, ◌∙◌}
use Rattle.house_frame.proofs.Laws.{delta_none, delta_made}
use Rattle.house_frame.proofs.measure_delta.Goals as goal

pub returns-then-same_bytes : goal.returns-then-same_bytes
returns-then-same_bytes c = let a = c.args in delta_none a.size a.previous.now a.next.now (sym c.same_bytes.ensures ∙ c.if-same_bytes.true)

pub returns : goal.returns
returns c =
    let a = c.args in
    delta_made a.size a.previous.now a.next.now (sym c.same_bytes.ensures ∙ c.if-same_bytes.false) c.delta_size-delta.result c.delta_kind.result
    c.more_edges-edges.result c.delta_size-delta.ensures.0 c.delta_kind.ensures c.more_edges-edges.ensures
