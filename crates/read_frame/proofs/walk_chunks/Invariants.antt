-- The invariant: the sub-chunks that are left, on the state as it is now, give what all of them give on the state as it was found.
use mathlib.Core.Path.{◌≡◌}
use Prim.Native.Nat.{◌≤◌, ◌-◌}
use lib.ListN.{length}
use Rattle.state.specs.State.{state}
use Rattle.read_frame.specs.Frame.{sub_chunks}
use Rattle.read_frame.proofs.Laws.{seen}
use Rattle.read_frame.proofs.walk_chunks.Given as goal

abbrev pub invariant-loop : goal.invariant-loop
invariant-loop l =
    (l.at ≤ length l.b) × (length l.picture ≡ length l.initial.picture) × (length l.palette ≡ length l.initial.palette)
    × (seen l.pass (sub_chunks l.size l.b l.count 16) (state l.initial.picture l.initial.palette)
    ≡ seen l.pass (sub_chunks l.size l.b (l.count - l.counter) l.at) (state l.picture l.palette))
