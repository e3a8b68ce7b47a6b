-- `put_raised` meets its contract. The invariant: the first i components are raised, the rest as found.
use Rattle.format.specs.Format.{raised}
use lib.ListN.{length, drop, take}
use mathlib.Core.List.{◌++◌, map}
use mathlib.Core.Path.{◌≡◌}
use Rattle.read_colour.proofs.put_raised.Given as goal

abbrev pub invariant-loop-i : goal.invariant-loop-i
invariant-loop-i l = (l.dst ≡ map raised (take l.i l.src) ++ drop l.i l.initial.dst) × (length l.dst ≡ length l.initial.dst)
