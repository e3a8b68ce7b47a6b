-- Invariant: of all s packets those from packet k on are still to be stored.
use Rattle.house_packets.proofs.GapLaws.{emptying_first, emptying_room, emptying_on, emptying_ends}
use native.Mathlib.Omega.{arith}
use Rattle.house_packets.proofs.put_empty.Goals as goal

pub loop-k-init : goal.loop-k-init
loop-k-init c = let a = c.args in emptying_first a.form.longest a.s a.out.now a.at c.requires

pub put_two-requires : goal.put_two-requires
put_two-requires c =
    let a = c.args in
    let l = c.loop-k in
    let room = emptying_room a.form.longest a.s a.out.now a.at l.out l.k l.invariant c.loop-k-test.true in
    (room, omega (arith, a.form.fits.small_longest), omega arith)

pub loop-k-preserved : goal.loop-k-preserved
loop-k-preserved c =
    let a = c.args in
    let l = c.loop-k in
    emptying_on a.form.longest a.s a.out.now a.at l.out l.k l.invariant c.loop-k-test.true c.put_two.new.out c.put_two.ensures

pub returns : goal.returns
returns c =
    let a = c.args in
    let l = c.loop-k in
    emptying_ends a.form.longest a.s a.out.now a.at l.out l.k l.invariant c.loop-k-test.false
