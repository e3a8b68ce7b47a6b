-- Invariant: of all s packets those from packet k on are still to be stored.
use Rattle.house_packets.proofs.GapLaws.{Emptying}
use Rattle.house_packets.proofs.put_empty.Given as goal

abbrev pub invariant-loop-k : goal.invariant-loop-k
invariant-loop-k l = Emptying l.form.longest l.s l.initial.out l.at l.out l.k
