-- Invariant: size is that of the packets before unit i, and the left units from unit i on give the rest.
use Rattle.house_packets.proofs.GapLaws.{Sizing}
use Rattle.house_packets.proofs.gap_size.Given as goal

abbrev pub invariant-loop-left : goal.invariant-loop-left
invariant-loop-left l = Sizing l.form.unit l.form.least l.form.longest l.b l.x l.m l.g l.i l.left l.size

abbrev pub decreases-loop-left : goal.decreases-loop-left
decreases-loop-left l = l.left
