-- What a caller in C holds after a call: numbers, and the memory that was lent.
use Rattle.std.specs.Prelude.{ℕ, ◌*◌, ◌≤◌, ◌≡◌, List, [], ◌∷◌, Result, Ok, Err, not, cond, leb, eqb, length}
use Rattle.format.specs.Limits.{size_of, format_from, format_number}
use Rattle.words.specs.Words.{require◌else◌then◌}
use Rattle.answer.specs.Answer.{Said, done, refused, number}
use Rattle.answer.specs.declared.Refusal.{Refusal}
use Rattle.answer.specs.declared.Refusal.TheVariants.{BadHeader}
use Rattle.delay.specs.Delay.{jiffies, in_milliseconds}
use Rattle.delay.specs.declared.Jiffies.{Jiffies}
use Rattle.delay.specs.declared.TooLong.{TooLong}
use Rattle.state.specs.Outcome.{Memory, Outcome}
use Rattle.chunks.specs.Spans.{Next}
use Rattle.house_rows.specs.declared.RowCost.{RowCost}
use Rattle.house_rows.specs.Search.{search_row}
use Rattle.reel_header.specs.Head.{Headed}
use Rattle.reel_build.specs.declared.Reel.{Reel}
use Rattle.reel_build.specs.Record.{Built, ReelOutcome}
use Rattle.board_player.specs.declared.Player.{Player}
use Rattle.board_player.specs.Player.{PlayerOutcome}
use Rattle.capi.specs.declared.Record.{Record}
use Rattle.capi.specs.declared.ReelHeader.{ReelHeader}
use Rattle.capi.specs.declared.FrameSpan.{FrameSpan}
use Rattle.capi.specs.declared.DelayAnswer.{DelayAnswer}
use Rattle.capi.specs.declared.RowFigures.{RowFigures}

-- the refusal's number, 0 for done
abbrev pub number_of : Said → ℕ
number_of (done v) = 0
number_of (refused n place) = n

-- the refusal's place, 0 for done
abbrev pub place_of : Said → ℕ
place_of (done v) = 0
place_of (refused n place) = place

-- how many bytes were written, 0 where refused
abbrev pub length_of : Said → ℕ
length_of (done []) = 0
length_of (done (n ∷ ns)) = n
length_of (refused n place) = 0

-- number and place are those of what was said
pub record Told (number place : ℕ) (s : Said) : Type 0 where
  pub number_is : number ≡ number_of s
  pub place_is : place ≡ place_of s

-- what is held after a call that left o behind: its number and place, and the lent memory
pub record Held (number place : ℕ) (m : Memory) (o : Outcome) : Type 0 where
  pub told : Told number place o.said
  pub memory_is : m ≡ o.memory

-- the same of a call that writes, with how many bytes it wrote
pub record HeldLength (number place written : ℕ) (m : Memory) (o : Outcome) : Type 0 where
  pub held : Held number place m o
  pub length_is : written ≡ length_of o.said

-- the reel that C's record stands for: closed is any number but 0, and so is the format of an FLI
abbrev pub reel_from : Record → Reel
reel_from r = record { size = size_of (format_from r.format) r.width r.height; frames = r.frames; end = r.end; closed = not (eqb r.closed 0) }

-- the record of a reel: closed is 1 or 0, and so is the format
abbrev pub record_for : Reel → Record
record_for r = record { width = r.size.width; height = r.size.height; frames = r.frames; end = r.end; closed = cond r.closed 1 0; format = format_number r.size.format }

-- the record after a call: that of its reel where done, else the one handed in
abbrev pub record_of : Said → Reel → Record → Record
record_of (done v) after handed = record_for after
record_of (refused n place) after handed = handed

-- the same, by what the call gives
abbrev pub record_after : Record → Built → Record
record_after handed (Ok r) = record_for r
record_after handed (Err e) = handed

-- no reel: what a refused open gives
abbrev pub nothing : Record
nothing = record { width = 0; height = 0; frames = 0; end = 0; closed = 0; format = 0 }

-- the same of a call that builds a reel, with the record
pub record HeldReel (number place : ℕ) (after handed : Record) (m : Memory) (o : ReelOutcome) : Type 0 where
  pub held : Held number place m o.left
  pub record_is : after ≡ record_of o.left.said o.reel handed

-- a reel's header: its fields, the speed in milliseconds, or the refusal with place 0 and all fields 0
abbrev pub header_for : Headed → ReelHeader
header_for (Err e) = record { number = number e; place = 0; width = 0; height = 0; frames = 0; size = 0; speed = 0; format = 0 }
header_for (Ok h) =
    let z = h.picture in
    record { number = 0; place = 0; width = z.width; height = z.height; frames = h.frames; size = h.size; speed = h.speed.0; format = format_number z.format }

-- where the next frame begins and ends, or the refusal with its place and both 0
abbrev pub span_for : Next → FrameSpan
span_for (Err r) = record { number = number r.0; place = r.1; from = 0; end = 0 }
span_for (Ok f) = record { number = 0; place = 0; from = f.from; end = f.end }

-- "jiffies over 65,535 is 14" (document 02, Req 06): place and delay are 0
abbrev pub too_long : DelayAnswer
too_long = record { number = number BadHeader; place = 0; delay = 0 }

-- a delay of so many jiffies in milliseconds
abbrev pub milliseconds_for : ℕ → DelayAnswer
milliseconds_for n =
    require leb n 65535 else too_long then
    record { number = 0; place = 0; delay = (in_milliseconds (jiffies n)).0 }

-- what milliseconds are in jiffies
abbrev pub jiffies_for : Result Jiffies TooLong → DelayAnswer
jiffies_for (Err e) = too_long
jiffies_for (Ok j) = record { number = 0; place = 0; delay = j.0 }

-- a row's bytes and turns, or the refusal with place 0 and both 0
abbrev pub figures_for : Result RowCost Refusal → RowFigures
figures_for (Err e) = record { number = number e; place = 0; bytes = 0; turns = 0 }
figures_for (Ok cost) = record { number = 0; place = 0; bytes = cost.bytes; turns = cost.turns }

-- what is held after a row was searched: these, and "at most 16 turns for each pixel of the row"
pub record HeldCost (r : RowFigures) (row : List ℕ) : Type 0 where
  pub figures_are : r ≡ figures_for (search_row row)
  pub few : r.turns ≤ 16 * length row

-- the event that a tick tells, 0 where refused
abbrev pub event_of : Said → ℕ
event_of (done []) = 0
event_of (done (n ∷ ns)) = n
event_of (refused n place) = 0

-- what is held after a player was started: its record beside number, place and the lent memory
pub record HeldPlayer (number place : ℕ) (after : Player) (m : Memory) (o : PlayerOutcome) : Type 0 where
  pub held : Held number place m o.left
  pub player_is : after ≡ o.player

-- the same of a tick, with its event
pub record HeldTick (number place event : ℕ) (after : Player) (m : Memory) (o : PlayerOutcome) : Type 0 where
  pub held : HeldPlayer number place after m o
  pub event_is : event ≡ event_of o.left.said
