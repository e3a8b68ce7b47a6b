-- A player's clock (document 02, Req 01): "its millisecond counter is 32 bits wide and rolls over".
use Rattle.std.specs.Prelude.{ℕ, suc, ◌+◌, ◌-◌, ◌%◌, ◌^◌, cond, leb, nat_le, nat_lt}
use Rattle.words.specs.Words.{require◌else◌then◌}
use Rattle.board_clock.specs.declared.Due.{Due}
use Rattle.board_clock.specs.declared.Due.TheVariants.{Nothing, Frame, SetBack}
use Rattle.board_clock.specs.declared.Stands.{Stands}
use Rattle.board_clock.specs.declared.Turn.{Turn}

-- half the range of a counter of 32 bits
abbrev pub HALF_RANGE : ℕ
HALF_RANGE = 2 ^ 31

-- "The difference to the last draw time is taken round the roll-over"
unfoldable pub elapsed : ℕ → ℕ → ℕ
elapsed last reading = (reading + (2 ^ 32 - last)) % 2 ^ 32

-- "below half the range it is elapsed time, otherwise the clock was set back"; "If elapsed time is at least the reel's speed, one frame is drawn"
unfoldable pub due : ℕ → ℕ → ℕ → Due
unfolding elapsed
due speed last reading =
    require nat_lt (elapsed last reading) HALF_RANGE else SetBack then
    require leb speed (elapsed last reading) else Nothing then
    Frame

-- the number of the frame that comes after frame number: "After the ring, which counts as number frames + 1, comes frame 2 (the ring again in a
-- one-frame reel)"
abbrev pub follows : ℕ → ℕ → ℕ
follows number frames = cond (nat_le number frames) (suc number) 2

-- frame number stands, drawn at last
abbrev pub stands : ℕ → ℕ → Stands
stands number last = record { number = number; last = last }

-- "frame 1, drawn at the reading given"
abbrev pub first : ℕ → Stands
first start = stands 1 start

abbrev pub turn : Due → Stands → Turn
turn d s = record { due = d; stands = s }

-- "nothing is drawn and the reading becomes the last draw time"; "one frame is drawn and the last draw time moves on by the speed". A number past 64
-- bits, which no reel has, is kept modulo 2 ^ 64.
abbrev pub stepped_by : ℕ → ℕ → Stands → ℕ → Due → Turn
stepped_by frames speed s reading Nothing = turn Nothing s
stepped_by frames speed s reading SetBack = turn SetBack (stands s.number reading)
stepped_by frames speed s reading Frame = turn Frame (stands (follows s.number frames % 2 ^ 64) ((s.last + speed) % 2 ^ 32))

-- one reading
unfoldable pub stepped : ℕ → ℕ → Stands → ℕ → Turn
unfolding due
stepped frames speed s reading = stepped_by frames speed s reading (due speed s.last reading)
