-- The last-pixel word, where there is one, and then the packet count and the packets behind it.
use Rattle.house_ss2.proofs.LineLaws.{line_last, line_plain, last_stored}
use Rattle.words.specs.Writes.{put}
use lib.ListN.{length}
use native.Mathlib.Omega.{arith}
use Prim.Native.Nat.{ℕ}
use mathlib.Core.Path.{sym, ap, ◌∙◌}
use mathlib.Core.List.{[], ◌∷◌}
use Rattle.house_ss2.proofs.PairsLine.put_line.Goals as goal

pub put_two-requires : goal.put_two-requires
put_two-requires c =
    let a = c.args in
    let e = ap length (line_last a.width a.a.now a.b.now (sym c.last_changes.ensures ∙ c.if-last_changes.true)) in
    omega (arith, e, c.requires.4)

pub put_counted-requires : goal.put_counted-requires
put_counted-requires c =
    let a = c.args in
    let e = ap length (line_last a.width a.a.now a.b.now (sym c.last_changes.ensures ∙ c.if-last_changes.true)) in
    (c.requires.1, c.requires.2, c.requires.3, omega (arith, e, c.requires.4))

pub returns-then-last_changes : goal.returns-then-last_changes
returns-then-last_changes c =
    let a = c.args in
    let t = sym c.last_changes.ensures ∙ c.if-last_changes.true in
    let p = c.put_counted in (
      omega (arith, ap length (line_last a.width a.a.now a.b.now t), p.ensures.0),
      last_stored a.width a.a.now a.b.now a.out.now c.put_two.new.out p.new.out a.at t c.requires.4
          (c.put_two.ensures ∙ ap (λ (v : ℕ). put a.out.now a.at (v ∷ 128 ∷ [])) c.from.ensures) p.ensures.1,
    )

pub put_counted-requires-2 : goal.put_counted-requires-2
put_counted-requires-2 c =
    let a = c.args in
    let e = ap length (line_plain a.width a.a.now a.b.now (sym c.last_changes.ensures ∙ c.if-last_changes.false)) in
    (c.requires.1, c.requires.2, c.requires.3, omega (arith, e, c.requires.4))

pub returns : goal.returns
returns c =
    let a = c.args in
    let e = line_plain a.width a.a.now a.b.now (sym c.last_changes.ensures ∙ c.if-last_changes.false) in
    let p = c.put_counted-2 in
    (omega (arith, ap length e, p.ensures.0), p.ensures.1 ∙ ap (put a.out.now a.at) (sym e))
