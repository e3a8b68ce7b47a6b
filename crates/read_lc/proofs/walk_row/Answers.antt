-- A row is what its start makes it: a fault, nothing where it has no packets, or its packets.
use Rattle.read_lc.proofs.Laws.{start_in, row_as}
use Rattle.read_packets.proofs.Laws.{seen_refused, packets_none}
use Rattle.walk.proofs.Laws.{seen_gives, seen_none}
use Rattle.walk.specs.Walk.{Walk, wrote}
use native.Mathlib.Omega.{arith}
use mathlib.Core.Path.{ap, ◌∙◌, sym}
use Rattle.read_lc.proofs.walk_row.Goals as goal

pub returns-in_err-start : goal.returns-in_err-start
returns-in_err-start c =
    let a = c.args in
    seen_refused a.pass _ _ a.picture.now c.from_residual.ensures.1
    (seen_none a.pass _ a.picture.now _ (row_as a.width a.body.now a.row a.at _ (sym c.start_at.ensures ∙ c.in_err-start.was)))

pub returns-then-start-eq0 : goal.returns-then-start-eq0
returns-then-start-eq0 c =
    let a = c.args in
    let k = row_as a.width a.body.now a.row a.at _ (sym c.start_at.ensures ∙ c.in_ok-start.was) in
    seen_gives _ _ _ _ _ (seen_none a.pass _ a.picture.now _ (k ∙ packets_none 1 a.width a.body.now _ a.row _ 0 (omega (arith, c.if-start-eq0.true))))

pub walk_packets-requires : goal.walk_packets-requires
walk_packets-requires c =
    let p = c.requires in
    (start_in _ _ _ (sym c.start_at.ensures ∙ c.in_ok-start.was), p.1, p.2, omega arith, omega arith, p.3)

pub returns : goal.returns
returns c =
    let a = c.args in
    let k = row_as a.width a.body.now a.row a.at _ (sym c.start_at.ensures ∙ c.in_ok-start.was) in record {
      verdict = c.walk_packets.ensures.verdict ∙ sym (ap (λ (i : Walk). i.verdict) k);
      writes = c.walk_packets.ensures.writes ∙ sym (ap (λ (i : Walk). wrote a.pass i.writes a.picture.now) k);
    }
