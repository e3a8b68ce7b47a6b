-- `levels_ok` meets its contract: 64 levels are looked at, of 256 each byte is one.
use mathlib.Core.Path.{◌∙◌, sym, ap}
use Rattle.read_colour.specs.Colour.{levels_ok}
use Rattle.read_colour.specs.declared.Levels.{Levels}
use Rattle.read_colour.proofs.Laws.{levels_64, levels_256}
use Rattle.read_colour.proofs.levels_ok.Goals as goal

pub returns-in-Of64 : goal.returns-in-Of64
returns-in-Of64 c =
    let a = c.args in
    c.low_levels.ensures ∙ sym (levels_64 a.part.now) ∙ ap (λ (l : Levels). levels_ok l a.part.now) (sym c.in-Of64.is)

pub returns-in-Of256 : goal.returns-in-Of256
returns-in-Of256 c =
    let a = c.args in
    sym (levels_256 a.part.now) ∙ ap (λ (l : Levels). levels_ok l a.part.now) (sym c.in-Of256.is)
