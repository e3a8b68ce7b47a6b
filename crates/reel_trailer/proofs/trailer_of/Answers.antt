-- `trailer_of` meets its contract: four parts of the zeros come back filled, one behind the other, and together they are the trailer.
use mathlib.Core.Path.{◌∙◌}
use Prim.Native.Nat.{◌+◌, ◌*◌}
use native.Mathlib.Omega.{arith}
use Rattle.chunks.specs.Spans.{HEADER_BYTES}
use Rattle.chunks.proofs.Spans.{found_many}
use Rattle.reel_trailer.proofs.Laws.{back_length, trailer_stored}
use Rattle.reel_trailer.proofs.trailer_of.Goals as goal

pub slice_bounds-out-end-2 : goal.slice_bounds-out-end-2
slice_bounds-out-end-2 c = let l = back_length _ c.put_index.new.out 0 (4 * c.args.count) (omega arith) (omega arith) c.put_index.auto.out in omega arith

pub slice_bounds-out-end-3 : goal.slice_bounds-out-end-3
slice_bounds-out-end-3 c = let l = let at = 4 * c.args.count in let l =
    (back_length _ c.put_index.new.out 0 (4 * c.args.count) (omega arith) (omega arith) c.put_index.auto.out) in
    back_length _ c.put_u32.new.out at (at + 4) (omega arith) (omega arith) c.put_u32.auto.out ∙ l in omega arith

pub slice_bounds-out-end-4 : goal.slice_bounds-out-end-4
slice_bounds-out-end-4 c =
    let a = c.args in
    let at = 4 * a.count in
    let l = let at = 4 * a.count in let l = (back_length _ c.put_index.new.out 0 (4 * a.count) (omega arith) (omega arith) c.put_index.auto.out) in
    back_length _ c.put_u32.new.out at (at + 4) (omega arith) (omega arith) c.put_u32.auto.out ∙ l in
    let l₃ = back_length _ c.put_u16.new.out (at + 4) (at + 6) (omega arith) (omega arith) c.put_u16.auto.out in
    omega arith

pub returns : goal.returns
returns c =
    let z = c.zeros-out in
    let a = c.args in
    trailer_stored _ a.count z.result c.put_index.new.out c.put_u32.new.out c.put_u16.new.out c.put_u16-2.new.out
    (found_many _ _ HEADER_BYTES c.requires.met) c.requires.few z.ensures c.put_index.ensures c.put_u32.ensures c.put_u16.ensures c.put_u16-2.ensures
