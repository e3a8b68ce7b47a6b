-- The invariant: what was added up and what is left are all. Chunks lie one behind the other, so that the sum is no more than the offset.
use mathlib.Core.Path.{◌≡◌}
use Prim.Native.Nat.{◌≤◌, ◌+◌, ◌-◌}
use lib.ListN.{length}
use Rattle.chunks.specs.Spans.{sub_spans}
use Rattle.read_frame.specs.Packets.{packet_bytes}
use Rattle.read_frame.proofs.packet_bytes.Given as goal

abbrev pub invariant-loop : goal.invariant-loop
invariant-loop l =
    (l.at ≤ length l.b) × (l.total ≤ l.at)
    × (packet_bytes (sub_spans l.b l.count 16).met ≡ l.total + packet_bytes (sub_spans l.b (l.count - l.counter) l.at).met)
