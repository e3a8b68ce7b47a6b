-- The loop of `read_full`: what was read lies within the room, which holds bytes, and each turn reads more.
use Rattle.std.proofs.Common.{◌-◌, ◌≤◌, length}
use Rattle.words.specs.Words.{Bytes}
use Rattle.list_io.proofs.read_full.Given as goal

abbrev pub invariant-loop-n : goal.invariant-loop-n
invariant-loop-n l = record { within : l.n ≤ length l.room; bytes : Bytes l.room }

abbrev pub decreases-loop-n : goal.decreases-loop-n
decreases-loop-n l = length l.initial.room - l.n
