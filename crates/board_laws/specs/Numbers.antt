-- Numbers to try for a player's clock (document 02, Req 01): one table. `holds` computes each item from the definitions.
use Rattle.std.specs.Prelude.{ℕ, List, [], ◌∷◌, Bool, true, ◌&&◌}
use Rattle.words.specs.Words.{same}
use Rattle.board_clock.specs.Clock.{first}
use Rattle.board_clock.specs.Replay.{numbers}

-- a reel of so many frames and that speed, frame 1 drawn at start: the readings, and the number that stands after each
pub record Item : Type 0 where
  pub frames : ℕ
  pub speed : ℕ
  pub start : ℕ
  pub readings : List ℕ
  pub stood : List ℕ

abbrev pub item : ℕ → ℕ → ℕ → List ℕ → List ℕ → Item
item frames speed start readings stood = record { frames = frames; speed = speed; start = start; readings = readings; stood = stood }

unfoldable pub holds : Item → Bool
holds i = same (numbers i.frames i.speed (first i.start) i.readings) i.stood

unfoldable pub all : List Item → Bool
all [] = true
all (i ∷ is) = holds i && all is

unfoldable pub clock_numbers : List Item
clock_numbers =
    -- through the roll-over: 99 milliseconds are too few, 100 are enough; the next is due at 194, not 100 after the late reading
    item 3 100 4294967290 (93 ∷ 94 ∷ 150 ∷ 193 ∷ 194 ∷ []) (1 ∷ 2 ∷ 2 ∷ 2 ∷ 3 ∷ [])
    -- half the range is a clock set back: nothing is drawn, and the reading counts from there on
    ∷ item 3 100 0 (2147483648 ∷ 2147483747 ∷ 2147483748 ∷ []) (1 ∷ 1 ∷ 2 ∷ [])
    -- one less is elapsed time: one frame at each tick until the clock is caught up with
    ∷ item 3 1073741823 0 (2147483647 ∷ 2147483647 ∷ 2147483647 ∷ []) (2 ∷ 3 ∷ 3 ∷ [])
    -- a clock set back by one millisecond
    ∷ item 3 100 1000 (999 ∷ 1098 ∷ 1099 ∷ []) (1 ∷ 1 ∷ 2 ∷ [])
    -- speed 0 draws at each tick
    ∷ item 2 0 7 (7 ∷ 7 ∷ 7 ∷ 7 ∷ []) (2 ∷ 3 ∷ 2 ∷ 3 ∷ [])
    -- a speed of half the range never draws
    ∷ item 2 2147483648 0 (2147483647 ∷ 2147483647 ∷ []) (1 ∷ 1 ∷ [])
    -- a reel of one frame: its ring, three laps
    ∷ item 1 10 0 (10 ∷ 20 ∷ 30 ∷ []) (2 ∷ 2 ∷ 2 ∷ [])
    -- a reel of three frames: the ring is number 4, and frame 2 follows it
    ∷ item 3 10 0 (10 ∷ 20 ∷ 30 ∷ 40 ∷ 50 ∷ 60 ∷ []) (2 ∷ 3 ∷ 4 ∷ 2 ∷ 3 ∷ 4 ∷ [])
    ∷ []
