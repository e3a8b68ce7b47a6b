-- `write_row` meets its contract. The invariant: what is still to be written, put at here, gives what the contract says; a packet's bytes are the front of it.
use mathlib.Core.List.{List}
use mathlib.Core.Path.{◌≡◌, ap, ◌∙◌}
use Prim.Native.Nat.{ℕ, ◌<◌}
use native.Mathlib.Omega.{arith}
use lib.ListN.{length, get_or}
use Rattle.house_rows.specs.Search.{types}
use Rattle.house_rows.proofs.Writing.{packet_fits, writing_more, writing_as, writing_done}
use Rattle.house_rows.proofs.Types.{type_at, length_types, types_at}
use Rattle.house_rows.proofs.write_row.Goals as goal

-- the type at column x
type : (row first : List ℕ) (x : ℕ) → first ≡ types row → x < length row → get_or first x 0 ≡ type_at row x
type row first x e h = ap (λ (f : List ℕ). get_or f x 0) e ∙ types_at row x h

pub bounds-first-x : goal.bounds-first-x
bounds-first-x c = omega (arith, ap length c.requires.1, length_types c.args.row.now)

pub write_packet-here-requires : goal.write_packet-here-requires
write_packet-here-requires c =
    let a = c.args in
    let L = c.loop-x in
    let fit = packet_fits L.invariant (get_or a.first.now L.x 0) (omega arith) (type a.row.now a.first.now L.x c.requires.1 (omega arith)) in
    omega (arith, fit)

pub overflow_add-here : goal.overflow_add-here
overflow_add-here c =
    let a = c.args in
    let L = c.loop-x in
    let fit = packet_fits L.invariant (get_or a.first.now L.x 0) (omega arith) (type a.row.now a.first.now L.x c.requires.1 (omega arith)) in
    omega (arith, fit)

pub loop-x-smaller : goal.loop-x-smaller
loop-x-smaller c =
    let a = c.args in
    let L = c.loop-x in
    let fit = packet_fits L.invariant (get_or a.first.now L.x 0) (omega arith) (type a.row.now a.first.now L.x c.requires.1 (omega arith)) in
    omega (arith, fit)

pub loop-x-preserved : goal.loop-x-preserved
loop-x-preserved c =
    let a = c.args in
    let L = c.loop-x in
    writing_as (writing_more L.invariant (get_or a.first.now L.x 0) (omega arith) (type a.row.now a.first.now L.x c.requires.1 (omega arith))
    c.write_packet-here.new.out c.write_packet-here.ensures.1)
    (omega arith) (omega arith)

pub overflow_sub-result : goal.overflow_sub-result
overflow_sub-result c = omega (arith, writing_done c.loop-x.invariant c.loop-x-test.false)

pub returns : goal.returns
returns c = let d = writing_done c.loop-x.invariant (omega arith) in (d.0, omega arith, d.2)
