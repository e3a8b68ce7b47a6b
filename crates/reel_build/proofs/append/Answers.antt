-- `append` meets its contract: the part lent on reaches from end as far as a file may, so the frame fits in it exactly where it fits in the file.
use Prim.Native.Nat.{◌-◌}
use native.Mathlib.Omega.{arith}
use lib.ListN.{length}
use Rattle.answer.proofs.Laws.{handed_on}
use Rattle.state.specs.State.{shown}
use Rattle.house_frame.specs.House.{house_frame}
use Rattle.reel_build.proofs.Laws.{longest_within, longest_min, append_none, append_more, append_stopped}
use Rattle.reel_build.proofs.append.Goals as goal

pub returns-then-longest-end : goal.returns-then-longest-end
returns-then-longest-end c =
    let a = c.args in
    let lent_previous = shown a.previous in
    let lent_next = shown a.next in
    append_none a.end (house_frame a.size lent_previous lent_next) a.bytes.now (omega (arith, c.min-longest.ensures, longest_min (length c.args.bytes.now)))

pub slice_bounds-write_house-end : goal.slice_bounds-write_house-end
slice_bounds-write_house-end c = omega (arith, c.min-longest.ensures, longest_min (length c.args.bytes.now), longest_within (length c.args.bytes.now))

pub returns-in_err-written : goal.returns-in_err-written
returns-in_err-written c =
    let a = c.args in
    let w = c.write_house in
    append_stopped a.bytes.now
    (house_frame c.args.size (shown c.args.previous) (shown c.args.next)) a.end (c.min-longest.result - a.end)
    (omega (arith, c.min-longest.ensures, longest_min (length c.args.bytes.now))) w.result w.new.out w.ensures _ c.in_err-written.was _
    (handed_on c.from_residual.ensures.1)

pub overflow_add-result : goal.overflow_add-result
overflow_add-result c =
    let a = c.args in
    let w = c.write_house in
    omega (
      arith,
      (append_more a.bytes.now
          (house_frame c.args.size (shown c.args.previous) (shown c.args.next)) a.end (c.min-longest.result - a.end)
          (omega (arith, c.min-longest.ensures, longest_min (length c.args.bytes.now))) w.result w.new.out w.ensures _ c.in_ok-written.was).1,
    )

pub returns : goal.returns
returns c =
    let a = c.args in
    let w = c.write_house in
    (append_more a.bytes.now
    (house_frame c.args.size (shown c.args.previous) (shown c.args.next)) a.end (c.min-longest.result - a.end)
    (omega (arith, c.min-longest.ensures, longest_min (length c.args.bytes.now))) w.result w.new.out w.ensures _ c.in_ok-written.was).0
