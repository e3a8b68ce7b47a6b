-- The packet count is two bytes, and so is the last-pixel word, where there is one.
use Rattle.house_ss2.proofs.LineLaws.{line_last, line_plain, counted_length}
use lib.ListN.{length}
use native.Mathlib.Omega.{arith}
use mathlib.Core.Path.{sym, ap, ◌∙◌}
use Rattle.house_ss2.proofs.PairsLine.line_size.Goals as goal

pub returns-then-last_changes : goal.returns-then-last_changes
returns-then-last_changes c =
    let a = c.args in
    let m = c.row_size-size.ensures in
    let e = ap length (line_last a.width a.a.now a.b.now (sym c.last_changes.ensures ∙ c.if-last_changes.true)) in
    let l = counted_length a.width a.a.now a.b.now in
    (omega (arith, m.0, e, l), omega (arith, m.1, c.requires.1))

pub returns : goal.returns
returns c =
    let a = c.args in
    let m = c.row_size-size.ensures in
    let e = ap length (line_plain a.width a.a.now a.b.now (sym c.last_changes.ensures ∙ c.if-last_changes.false)) in
    let l = counted_length a.width a.a.now a.b.now in
    (omega (arith, m.0, e, l), omega (arith, m.1, c.requires.1))
