-- The invariant: what was added up and what is left are all. Chunks lie one behind the other, so that the sum is no more than the offset.
use mathlib.Core.Path.{◌∙◌, sym}
use Prim.Native.Nat.{◌-◌, ◌+◌}
use native.Mathlib.Omega.{arith}
use Rattle.chunks.proofs.Headers.{header_in_lem}
use Rattle.read_frame.proofs.Laws.{packets_none, packets_fault, packets_more}
use Rattle.read_frame.proofs.packet_bytes.Goals as goal

pub returns-in_default : goal.returns-in_default
returns-in_default c =
    let l = c.loop in
    omega (
      arith,
      l.invariant.2,
      packets_fault c.args.b.now (c.args.count - l.counter) l.at (omega arith) _ (sym c.header_at.ensures ∙ c.in_default.is),
    )

pub overflow_sub-chunk : goal.overflow_sub-chunk
overflow_sub-chunk c = let i = header_in_lem _ _ _ (sym c.header_at.ensures ∙ c.in-Ok.is) in omega (arith, i.0)

pub loop-preserved : goal.loop-preserved
loop-preserved c =
    let q = sym c.header_at.ensures ∙ c.in-Ok.is in
    let i = header_in_lem _ _ _ q in
    let l = c.loop in
    let n = c.args.count - l.counter in (
      i.1,
      omega (arith, i.0, c.packets_in-total.ensures.1, l.invariant.1),
      omega (
        arith,
        l.invariant.2,
        packets_more c.args.b.now n l.at (omega arith) _ q (c.args.count - (l.counter + 1)) (omega arith),
        c.packets_in-total.ensures.0,
      ),
    )

pub returns : goal.returns
returns c = let l = c.loop in omega (arith, l.invariant.2, packets_none c.args.b.now (c.args.count - l.counter) l.at (omega arith))
