-- `search_row` meets its contract: a row is one of a picture of height 1, and what the search gives back is what is told.
use mathlib.Core.Path.{sym, ◌∙◌}
use Rattle.house_rows.proofs.Types.{search_refused, search_told}
use Rattle.house_rows.proofs.search_row.Goals as goal

pub returns-then-not-size_ok : goal.returns-then-not-size_ok
returns-then-not-size_ok c = search_refused c.args.row.now (sym c.size_ok.ensures ∙ c.if-not-size_ok.true)

pub returns : goal.returns
returns c = search_told c.args.row.now c.plan_row.new.first c.plan_row.result (sym c.size_ok.ensures ∙ c.if-not-size_ok.false) c.plan_row.ensures
