-- `flic_search_row` meets its contract: it hands on what `search_row` gives, field by field.
use mathlib.Core.Path.{ap, sym, ◌∙◌}
use Prim.Native.Nat.{ℕ}
use native.Mathlib.Omega.{arith}
use Rattle.house_rows.specs.Search.{turns_of}
use Rattle.capi.specs.declared.RowFigures.{RowFigures}
use Rattle.capi.specs.Capi.{figures_for}
use Rattle.capi.proofs.flic_search_row.Goals as goal

pub returns-in-Err : goal.returns-in-Err
returns-in-Err c =
    record {
      figures_are =
          ap {B = RowFigures} (λ (n : ℕ). record { number = n; place = 0; bytes = 0; turns = 0 }) c.from.ensures
          ∙ ap figures_for (sym c.in-Err.is ∙ c.search_row.ensures.cost_is);
      few = omega arith;
    }

pub returns-in-Ok : goal.returns-in-Ok
returns-in-Ok c =
    record {
      figures_are = ap figures_for (sym c.in-Ok.is ∙ c.search_row.ensures.cost_is);
      few = omega (arith, ap turns_of c.in-Ok.is, c.search_row.ensures.few);
    }
