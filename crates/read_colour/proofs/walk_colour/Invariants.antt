-- `walk_colour` meets its contract. The invariant: the packets left, on the palette as it is, come out as the body does on the palette as found.
use Rattle.read_colour.specs.Colour.{packets, colour}
use Rattle.words.specs.Words.{u16_at}
use Rattle.walk.proofs.Laws.{seen}
use lib.ListN.{length}
use Prim.Native.Nat.{◌≤◌, ◌-◌}
use mathlib.Core.Path.{◌≡◌}
use Rattle.read_colour.proofs.walk_colour.Given as goal

abbrev pub invariant-loop : goal.invariant-loop
invariant-loop l =
    (l.at ≤ length l.body) × (l.index ≤ 256) × (length l.palette ≡ length l.initial.palette)
    × (seen l.pass (colour l.levels l.body) l.initial.palette ≡ seen l.pass (packets l.levels l.body (u16_at l.body 0 - l.counter) l.at l.index) l.palette)
