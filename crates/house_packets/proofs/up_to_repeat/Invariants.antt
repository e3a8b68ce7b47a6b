-- Invariant: no repeat begins at the first j units, and the count goes on from unit x + j.
use Rattle.house_packets.proofs.UnitLaws.{Single}
use Rattle.house_packets.proofs.up_to_repeat.Given as goal

abbrev pub invariant-loop-j : goal.invariant-loop-j
invariant-loop-j l = Single l.form.least l.form.unit l.b l.x l.m l.j
