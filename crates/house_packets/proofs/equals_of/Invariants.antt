-- Invariant: the first j units are equal to unit v, and the count goes on from unit x + j.
use Rattle.house_packets.proofs.UnitLaws.{Equal}
use Rattle.house_packets.specs.Units.{unit_at}
use Rattle.house_packets.proofs.equals_of.Given as goal

abbrev pub invariant-loop-j : goal.invariant-loop-j
invariant-loop-j l = Equal (unit_at l.form.unit l.b l.v) l.form.unit l.b l.x l.m l.j
