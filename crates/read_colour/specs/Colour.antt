-- Kinds 4 and 11, colour (document 01, "Frames, chunks and rows"). A component has 256 levels in kind 4 and 64 in kind 11.
use Prim.Native.Nat.{ℕ, zero, suc, ◌+◌, ◌*◌}
use Rattle.std.specs.Prelude.{List, [], ◌∷◌, map, Bool, true, ◌&&◌, length, take, drop, Result, Ok, Err}
use Rattle.std.proofs.Math.ListN.{get_or}
use Rattle.std.proofs.Math.Dec.{leb}
use Rattle.words.specs.Words.{require◌else◌then◌, u16_at}
use Rattle.format.specs.Format.{max_level, raised}
use Rattle.answer.specs.declared.Refusal.{Refusal}
use Rattle.answer.specs.declared.Refusal.TheVariants.{BodyEnds, PastPalette, OverLevel}
use Rattle.walk.specs.Walk.{Walk, ends, fault, and_then}
use Rattle.read_colour.specs.declared.Levels.{Levels}
use Rattle.read_colour.specs.declared.Levels.TheVariants.{Of64, Of256}
use Rattle.read_colour.specs.declared.Colours.{Colours}

-- a component as it is shown
unfoldable pub level : Levels → ℕ → ℕ
unfolding raised
level Of64 x = raised x
level Of256 x = x

-- no component over 63
unfoldable pub low_levels : List ℕ → Bool
low_levels [] = true
low_levels (x ∷ xs) = leb x max_level && low_levels xs

-- "levels (13, kind 11)"
unfoldable pub levels_ok : Levels → List ℕ → Bool
unfolding low_levels
levels_ok Of64 xs = low_levels xs
levels_ok Of256 xs = true

-- "count (0 means 256)"
unfoldable pub count_of : ℕ → ℕ
count_of zero = 256
count_of (suc n) = suc n

-- len components at from in the body that go to the palette at to, and the next index
abbrev pub colours_at : ℕ → ℕ → ℕ → ℕ → Colours
colours_at from to len next = record { from = from; to = to; len = len; next = next }

-- a packet, or its first fault
abbrev pub ColourStep : Type 0
ColourStep = Result Colours Refusal

module _ (levels : Levels) (b : List ℕ) where
  -- a packet at offset at for m entries from entry j on: "index (12), colours there (7), levels (13, kind 11)"
  unfoldable pub packet_of : ℕ → ℕ → ℕ → ColourStep
  unfolding levels_ok
  packet_of at j m =
      require leb (j + m) 256 else Err PastPalette then
      require leb (at + 2 + 3 * m) (length b) else Err BodyEnds then
      require levels_ok levels (take (3 * m) (drop (at + 2) b)) else Err OverLevel then
      Ok (colours_at (at + 2) (3 * j) (3 * m) (j + m))

  -- the packet at offset at, the index being i: "two bytes there (7)", "skip, count", "The index .. moves by the skip"
  unfoldable pub packet_at : ℕ → ℕ → ColourStep
  unfolding packet_of count_of
  packet_at at i =
      require leb (at + 2) (length b) else Err BodyEnds then
      packet_of at (i + get_or b at 0) (count_of (get_or b (at + 1) 0))

  -- a packet's write, "three bytes a colour", and then the walk k from its end and its next index
  abbrev pub after_packet : ColourStep → (ℕ → ℕ → Walk) → Walk
  after_packet (Err e) k = fault e
  after_packet (Ok p) k = and_then p.to (map (level levels) (take p.len (drop p.from b))) (k (p.from + p.len) p.next)

  -- n packets from offset at on, the index being i
  unfoldable pub packets : ℕ → ℕ → ℕ → Walk
  unfolding packet_at level
  packets zero at i = ends at
  packets (suc n) at i = after_packet (packet_at at i) (λ at' i'. packets n at' i')

  -- "Packet count (2)", "The index starts at 0"
  unfoldable pub colour : Walk
  unfolding packets
  colour =
      require leb 2 (length b) else fault BodyEnds then
      packets (u16_at b 0) 2 0
