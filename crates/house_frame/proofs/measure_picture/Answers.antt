-- `measure_picture` meets its contract: the full chunk is measured, and the test is the definition's.
use native.Mathlib.Omega.{arith}
use Rattle.house_frame.proofs.Laws.{shorter_full, shorter_delta}
use Rattle.house_frame.proofs.measure_picture.Goals as goal

pub returns-then-full-delta : goal.returns-then-full-delta
returns-then-full-delta c =
    let a = c.args in
    let f = c.measure_full-full in
    (shorter_full a.size a.next.now a.delta (omega (arith, f.ensures.1)) f.result.kind f.result.size f.ensures.0 f.ensures.1, f.ensures.2)

pub returns : goal.returns
returns c =
    let a = c.args in
    let f = c.measure_full-full in
    (shorter_delta a.size a.next.now a.delta (omega (arith, f.ensures.1)) c.delta_kind.result c.delta_kind.ensures, f.ensures.2)
