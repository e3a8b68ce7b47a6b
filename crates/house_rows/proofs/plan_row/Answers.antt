-- `plan_row` meets its contract. The invariant: the sums and first bytes from pixel i on are the house rows', here is the sum at i, repeat the
-- longest at i, and the window stands at i + 1; one pixel more is a step of `Steps`.
use mathlib.Core.Path.{refl}
use Prim.Native.Nat.{ℕ, ◌+◌, ◌-◌}
use native.Mathlib.Omega.{arith}
use lib.ListN.{length, replicate, length-replicate}
use Rattle.format.specs.Limits.{max_width}
use Rattle.house_rows.proofs.Searching.{searching_last, left_of, run_fits, longest_more, choose_fits, sum_small, searching_more, searching_done}
use Rattle.house_rows.proofs.plan_row.Goals as goal

pub loop-i-init : goal.loop-i-init
loop-i-init c =
    let row = c.args.row.now in
    searching_last row (replicate (max_width + 1) 0) c.args.first.now (replicate (max_width + 1) 0) (length row) (length row - 1) refl (omega arith)
    (omega arith)
    (length-replicate {A = ℕ} (max_width + 1) 0) (omega arith) (length-replicate {A = ℕ} (max_width + 1) 0)

pub shorten-requires : goal.shorten-requires
shorten-requires c = let fit = run_fits (c.loop-i.i - 1) (left_of (omega arith) c.loop-i.invariant) in (omega arith, λ h. omega arith)

pub choose-picked-requires : goal.choose-picked-requires
choose-picked-requires c =
    let i = c.loop-i.i - 1 in
    let s = left_of (omega arith) c.loop-i.invariant in
    choose_fits i s (longest_more i s c.shorten.result c.lengthen-repeat.result c.shorten.ensures c.lengthen-repeat.ensures) c.copy_end-end.ensures

pub overflow_cast-sums-in-loop-i : goal.overflow_cast-sums-in-loop-i
overflow_cast-sums-in-loop-i c =
    let i = c.loop-i.i - 1 in
    let s = left_of (omega arith) c.loop-i.invariant in
    let longest = longest_more i s c.shorten.result c.lengthen-repeat.result c.shorten.ensures c.lengthen-repeat.ensures in
    omega (arith, sum_small i s longest c.copy_end-end.ensures c.choose-picked.ensures)

pub loop-i-preserved : goal.loop-i-preserved
loop-i-preserved c =
    let i = c.loop-i.i - 1 in
    let s = left_of (omega arith) c.loop-i.invariant in
    let longest = longest_more i s c.shorten.result c.lengthen-repeat.result c.shorten.ensures c.lengthen-repeat.ensures in
    let v = c.slide-ends in
    searching_more i s longest c.copy_end-end.ensures c.choose-picked.ensures v.result.turns v.ensures.0 v.ensures.1 v.ensures.2 v.ensures.3

pub returns : goal.returns
returns c = searching_done c.loop-i.invariant (omega arith)
