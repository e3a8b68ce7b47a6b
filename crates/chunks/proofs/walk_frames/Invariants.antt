-- `walk_frames` meets its contract. The invariant: the walk over all frames goes as far as the walk over the frames left does, from where the last one ended.
use mathlib.Core.Path.{◌≡◌}
use Prim.Native.Nat.{◌-◌}
use Rattle.chunks.specs.Spans.{extent}
use Rattle.chunks.proofs.walk_frames.Given as goal

abbrev pub invariant-loop : goal.invariant-loop
invariant-loop l = extent l.b l.count 128 ≡ extent l.b (l.count - l.counter) l.at
