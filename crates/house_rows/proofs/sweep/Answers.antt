-- `sweep` meets its contract. Before place j: low is the lowest end from t + 1 to j - 1, and far has the lowest end up to each place passed; one place
-- more joins a range of one on the right.
use mathlib.Core.Path.{◌≡◌, ap, sym, subst, ◌∙◌}
use Prim.Native.Nat.{ℕ, ◌+◌, ◌-◌}
use native.Mathlib.Omega.{arith}
use lib.ListN.{set, length-set}
use Rattle.house_rows.specs.declared.End.{End}
use Rattle.house_rows.specs.Window.{LowestEnd, sum_at}
use Rattle.house_rows.proofs.Windows.{Swept, swept_more, lower_next, lower_small, end_packed}
use Rattle.house_rows.proofs.sweep.Goals as goal

pub loop-j-preserved : goal.loop-j-preserved
loop-j-preserved c =
    let a = c.args in
    let L = c.loop-j in
    let d = sum_at a.sums.now in
    let e = c.end_at.ensures.0 in
    let last : L.j ≡ L.j - 1 + 1 = omega arith in
    let now : L.j + 1 - 1 ≡ L.j = omega arith in
    let more = lower_next d a.t (L.j - 1) L.j L.low c.end_at.result c.lower-low.result last (omega arith)
    (ap (λ (x : End). x.place) e) (ap (λ (x : End). x.sum) e) (λ q. L.invariant.3 (omega arith) ∙ sym (ap (λ (x : End). x.sum) e))
    (λ l. L.invariant.4 (omega arith)) c.lower-low.ensures in
    let back = end_packed c.lower-low.result c.packed.result (omega (arith, more.lowest.high)) c.packed.ensures in (
      simp length-set L.invariant.0,
      omega arith,
      lower_small 65536 c.end_at.result L.low c.lower-low.result c.lower-low.ensures c.end_at.ensures.1 L.invariant.2,
      λ e. absurd (omega arith),
      λ l. subst (λ (n : ℕ). LowestEnd d (a.t + 1) n c.lower-low.result) (sym now) more,
      subst (λ (n : ℕ). Swept d a.t n (set L.far L.j c.packed.result)) (sym now)
          (swept_more d a.t (L.j - 1) L.j c.packed.result L.far last (omega arith) L.invariant.5
          (subst (λ (x : End). LowestEnd d (a.t + 1) L.j x) (sym back) more)),
    )
