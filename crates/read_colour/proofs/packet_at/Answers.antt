-- `packet_at` meets its contract: its two bytes give the packet, and each return is the case that its tests select.
use mathlib.Core.Path.{ap, ◌∙◌, sym}
use Prim.Native.Nat.{ℕ, ◌+◌, ◌*◌}
use native.Mathlib.Omega.{arith}
use native.Mathlib.Nat.{add-sub_cancel_left}
use lib.ListN.{drop, take}
use Rattle.read_colour.specs.Colour.{levels_ok}
use Rattle.read_colour.proofs.Laws.{packet_at_lem, packet_cut, packet_past, packet_short, packet_level, packet_whole}
use Rattle.read_colour.proofs.packet_at.Goals as goal

pub returns-then-body-at-lt2 : goal.returns-then-body-at-lt2
returns-then-body-at-lt2 c = let a = c.args in sym (packet_cut a.levels a.body.now a.at a.i (omega arith))

pub returns-then-next-gt256 : goal.returns-then-next-gt256
returns-then-next-gt256 c =
    let a = c.args in
    sym (packet_past a.levels a.body.now a.at _ _ c.if-next-gt256.true)
    ∙ packet_at_lem a.levels a.body.now a.at a.i _ _ (omega arith) (ap (λ (k : ℕ). a.i + k) c.from.ensures) c.count_of-m.ensures.0

pub returns-then-body-from : goal.returns-then-body-from
returns-then-body-from c =
    let a = c.args in
    sym (packet_short a.levels a.body.now a.at _ _ c.if-next-gt256.false (omega arith))
    ∙ packet_at_lem a.levels a.body.now a.at a.i _ _ (omega arith) (ap (λ (k : ℕ). a.i + k) c.from.ensures) c.count_of-m.ensures.0

pub returns-then-not-levels_ok : goal.returns-then-not-levels_ok
returns-then-not-levels_ok c =
    let a = c.args in
    let n = ap (λ (k : ℕ). levels_ok a.levels (take k (drop (a.at + 2) a.body.now))) (sym (add-sub_cancel_left (a.at + 2) (3 * c.count_of-m.result))) in
    sym (packet_level a.levels a.body.now a.at _ _ (omega arith) c.if-next-gt256.false (n ∙ sym c.levels_ok.ensures ∙ c.if-not-levels_ok.true))
    ∙ packet_at_lem a.levels a.body.now a.at a.i _ _ (omega arith) (ap (λ (k : ℕ). a.i + k) c.from.ensures) c.count_of-m.ensures.0

pub returns : goal.returns
returns c =
    let a = c.args in
    let n = ap (λ (k : ℕ). levels_ok a.levels (take k (drop (a.at + 2) a.body.now))) (sym (add-sub_cancel_left (a.at + 2) (3 * c.count_of-m.result))) in
    sym (packet_whole a.levels a.body.now a.at _ _ (omega arith) c.if-next-gt256.false (n ∙ sym c.levels_ok.ensures ∙ c.if-not-levels_ok.false))
    ∙ packet_at_lem a.levels a.body.now a.at a.i _ _ (omega arith) (ap (λ (k : ℕ). a.i + k) c.from.ensures) c.count_of-m.ensures.0
