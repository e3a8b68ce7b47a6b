-- The code's tests are the definition's, in its order, of a repeat and of a copy: each return cites the law of its case, with the numbers that the calls gave.
use mathlib.Core.Path.{sym}
use Prim.Native.Nat.{◌+◌}
use native.Mathlib.Omega.{arith}
use lib.ListN.{get_or}
use Rattle.read_packets.proofs.Laws.{data_repeat, copied_pixels, copied_bytes, repeated_pixels, packet_cut, packet_past, packet_short, packet_whole}
use Rattle.read_packets.proofs.packet_at.Goals as goal

pub returns-then-body-at-lt2 : goal.returns-then-body-at-lt2
returns-then-body-at-lt2 g c = sym (packet_cut _ _ _ _ _ (omega arith))

pub returns-then-width-next : goal.returns-then-width-next
returns-then-width-next g c =
    let a = c.args in
    let m = repeated_pixels g.row.UNIT (get_or a.body.now (a.at + 1) 0) c.from-n.result c.from-n.ensures (omega arith) in
    sym (packet_past _ _ _ _ _ (omega arith) (omega arith))

pub returns-then-body-at : goal.returns-then-body-at
returns-then-body-at g c =
    let a = c.args in
    let m = repeated_pixels g.row.UNIT (get_or a.body.now (a.at + 1) 0) c.from-n.result c.from-n.ensures (omega arith) in
    let d = data_repeat g.row.UNIT (get_or a.body.now (a.at + 1) 0) (omega arith) in
    sym (packet_short _ _ _ _ _ (omega arith) (omega arith) (omega arith))

pub returns-then-code-ge128 : goal.returns-then-code-ge128
returns-then-code-ge128 g c =
    let a = c.args in
    let m = repeated_pixels g.row.UNIT (get_or a.body.now (a.at + 1) 0) c.from-n.result c.from-n.ensures (omega arith) in
    let d = data_repeat g.row.UNIT (get_or a.body.now (a.at + 1) 0) (omega arith) in
    cc (packet_whole g.row.UNIT a.width a.body.now a.at a.x (omega arith) (omega arith) (omega arith), c.from.ensures)

pub returns-then-width-start : goal.returns-then-width-start
returns-then-width-start g c =
    let a = c.args in
    let m = copied_pixels g.row.UNIT (get_or a.body.now (a.at + 1) 0) c.from-len.result c.from-len.ensures (omega arith) in
    sym (packet_past _ _ _ _ _ (omega arith) (omega arith))

pub returns-then-body-at-2 : goal.returns-then-body-at-2
returns-then-body-at-2 g c =
    let a = c.args in
    let m = copied_pixels g.row.UNIT (get_or a.body.now (a.at + 1) 0) c.from-len.result c.from-len.ensures (omega arith) in
    let d = copied_bytes g.row.UNIT (get_or a.body.now (a.at + 1) 0) c.from-len.result c.from-len.ensures (omega arith) in
    sym (packet_short _ _ _ _ _ (omega arith) (omega arith) (omega arith))

pub returns : goal.returns
returns g c =
    let a = c.args in
    let m = copied_pixels g.row.UNIT (get_or a.body.now (a.at + 1) 0) c.from-len.result c.from-len.ensures (omega arith) in
    let d = copied_bytes g.row.UNIT (get_or a.body.now (a.at + 1) 0) c.from-len.result c.from-len.ensures (omega arith) in
    cc (packet_whole g.row.UNIT a.width a.body.now a.at a.x (omega arith) (omega arith) (omega arith), c.from.ensures)
