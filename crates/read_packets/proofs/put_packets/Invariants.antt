-- The invariant: the packets that are left, from here on, on the picture as it is now, give what the whole row gives on the picture as it was. A
-- packet of one pair is one of type 1.
use mathlib.Core.Path.{◌≡◌}
use Prim.Native.Nat.{◌≤◌, ◌-◌}
use lib.ListN.{length}
use Rattle.format.specs.Limits.{Wide}
use Rattle.walk.specs.declared.Pass.TheVariants.{Wet}
use Rattle.walk.proofs.Laws.{seen}
use Rattle.read_packets.specs.Packets.{packets}
use Rattle.read_packets.proofs.put_packets.Given as goal

abbrev pub invariant-loop : goal.invariant-loop
invariant-loop g l =
    (l.at ≤ length l.body) × Wide l.x
    × (seen Wet (packets g.row.UNIT l.width l.body l.count l.row l.from 0) l.initial.picture
    ≡ seen Wet (packets g.row.UNIT l.width l.body (l.count - l.counter) l.row l.at l.x) l.picture)
