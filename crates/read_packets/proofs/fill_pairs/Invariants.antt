-- The invariant: the first i pairs are set.
use mathlib.Core.Path.{◌≡◌}
use mathlib.Core.List.{[], ◌∷◌}
use Prim.Native.Nat.{◌*◌}
use lib.ListN.{take}
use Rattle.read_packets.specs.Packets.{repeated}
use Rattle.read_packets.proofs.fill_pairs.Given as goal

abbrev pub invariant-loop-i : goal.invariant-loop-i
invariant-loop-i l = take (2 * l.i) l.part ≡ repeated l.i (l.p ∷ (l.q ∷ []))
