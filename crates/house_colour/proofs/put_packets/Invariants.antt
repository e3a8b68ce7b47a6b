-- Invariant: all packets stored at at are the count stored so far, and the packets from entry i on stored at here.
use Rattle.house_colour.specs.Colours.{colour_packet}
use Rattle.house_cells.proofs.StretchLaws.{Measured, Written}
use Rattle.house_cells.specs.Cells.{Stretch}
use Prim.Native.Nat.{◌-◌, ◌≤◌}
use mathlib.Core.List.{List, [], ◌∷◌}
use Rattle.house_colour.proofs.put_packets.Given as goal

-- one for each stretch
abbrev pub each : Stretch → List Stretch
each s = s ∷ []

abbrev pub invariant-loop-s : goal.invariant-loop-s
invariant-loop-s l = (l.i ≤ 256) × (l.count ≤ l.i) × Measured 3 256 l.previous l.next each l.i l.count
    × Written 3 256 l.previous l.next colour_packet l.initial.out l.at l.out l.here l.i

abbrev pub decreases-loop-s : goal.decreases-loop-s
decreases-loop-s l = 256 - l.i
