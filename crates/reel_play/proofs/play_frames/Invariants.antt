-- `play_frames` meets its contract. The invariant: all frames from the start on the state as found come to what the frames left come to on the state as it is.
use mathlib.Core.Path.{◌≡◌}
use Prim.Native.Nat.{◌-◌, ◌≤◌}
use lib.ListN.{length}
use Rattle.state.specs.State.{state, Exact}
use Rattle.reel_play.specs.Play.{frames}
use Rattle.reel_play.proofs.play_frames.Given as goal

abbrev pub invariant-loop : goal.invariant-loop
invariant-loop l =
    (l.last.end ≤ length l.b) × Exact l.size (state l.picture l.palette)
    × (frames l.layout l.size l.b l.count l.fn.before.from l.fn.before.end (state l.initial.picture l.initial.palette)
    ≡ frames l.layout l.size l.b (l.count - l.counter) l.last.from l.last.end (state l.picture l.palette))
