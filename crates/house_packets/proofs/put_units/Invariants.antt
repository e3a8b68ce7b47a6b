-- Invariant: all packets stored at at are the count stored so far, and those of the left units from unit i on stored at here.
use Rattle.house_packets.proofs.GapLaws.{Storing}
use Rattle.house_packets.proofs.put_units.Given as goal

abbrev pub invariant-loop-left : goal.invariant-loop-left
invariant-loop-left l = Storing l.form.unit l.form.least l.b l.x l.m l.k l.initial.out l.at l.out l.here l.skip l.i l.left l.count

abbrev pub decreases-loop-left : goal.decreases-loop-left
decreases-loop-left l = l.left
