-- `write_packet` meets its contract: a repeat is its type and one pixel, a copy its type and then the pixels that it carries.
use mathlib.Core.List.{[], ◌∷◌}
use mathlib.Core.Path.{ap₂, ◌∙◌}
use Prim.Native.Nat.{ℕ, ◌-◌}
use native.Mathlib.Omega.{arith}
use lib.ListN.{length-set}
use Rattle.words.proofs.Laws.{part_length}
use Rattle.words.specs.Writes.{put}
use Rattle.house_rows.proofs.Writing.{carried_plus, carried_minus, put_repeat, put_copy}
use Rattle.house_rows.proofs.write_packet.Goals as goal

pub bounds-row-x : goal.bounds-row-x
bounds-row-x c = omega (arith, carried_plus c.args.t c.if-t-lt128.true)

pub put_two-requires : goal.put_two-requires
put_two-requires c = omega (arith, carried_plus c.args.t c.if-t-lt128.true)

pub returns-then-t-lt128 : goal.returns-then-t-lt128
returns-then-t-lt128 c =
    let a = c.args in
    let one = carried_plus a.t c.if-t-lt128.true in (
      omega arith,
      c.put_two.ensures ∙ ap₂ (λ (t v : ℕ). put a.out.now a.at (t ∷ v ∷ [])) c.from.ensures c.from-then-t-lt128.ensures
          ∙ put_repeat a.out.now a.row.now a.at a.x a.t c.if-t-lt128.true (omega arith),
    )

pub slice_bounds-put_bytes-end : goal.slice_bounds-put_bytes-end
slice_bounds-put_bytes-end c = omega (arith, carried_minus c.args.t c.if-t-lt128.false)

pub put_bytes-requires : goal.put_bytes-requires
put_bytes-requires c =
    let a = c.args in
    let n = carried_minus a.t c.if-t-lt128.false in
    rw (length-set, part_length a.row.now a.x (256 - c.from-n.result) (omega arith)) (omega arith)

pub returns : goal.returns
returns c =
    let a = c.args in
    let n = carried_minus a.t c.if-t-lt128.false in (
      omega arith,
      c.put_bytes.ensures ∙ put_copy a.out.now a.row.now a.at a.x a.t (256 - c.from-n.result) (omega arith) (omega arith),
    )
