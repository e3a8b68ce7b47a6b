-- Each kind of packets decides the test, and so does none of them.
use native.Mathlib.Omega.{arith}
use Rattle.read_frame.proofs.Laws.{packets_of, packets_not}
use Rattle.read_frame.proofs.packets_in.Goals as goal

pub returns-then-kind-eq-FLI_SS2 : goal.returns-then-kind-eq-FLI_SS2
returns-then-kind-eq-FLI_SS2 c = let a = c.args in (packets_of a.kind a.bytes c.then-kind-eq-FLI_SS2.either, omega arith)

pub returns : goal.returns
returns c =
    let a = c.args in
    (packets_not a.kind a.bytes c.if-kind-eq-FLI_SS2.false c.if-kind-eq-FLI_LC.false c.if-kind-eq-FLI_BRUN.false, omega arith)
