-- The invariant: the packets that are left, from here on, come out as the whole row does. A packet of one pair is one of type 1.
use mathlib.Core.Path.{◌≡◌}
use Prim.Native.Nat.{◌≤◌, ◌-◌}
use lib.ListN.{length}
use Rattle.format.specs.Limits.{Wide}
use Rattle.read_packets.specs.Packets.{packets}
use Rattle.read_packets.proofs.check_packets.Given as goal

abbrev pub invariant-loop : goal.invariant-loop
invariant-loop g l =
    (l.at ≤ length l.body) × Wide l.x
    × ((packets g.row.UNIT l.width l.body l.count 0 l.from 0).verdict ≡ (packets g.row.UNIT l.width l.body (l.count - l.counter) 0 l.at l.x).verdict)
