-- A player's record, and what a call leaves behind that starts or ticks one (document 02, Req 01).
use Rattle.std.specs.Prelude.{ℕ, suc, [], ◌∷◌, cond, eqb, Result, Ok, Err}
use Rattle.answer.specs.Answer.{Said, done, refused, number}
use Rattle.answer.specs.declared.Refusal.{Refusal}
use Rattle.answer.specs.declared.Refused.{Refused}
use Rattle.format.specs.Limits.{size_of, format_from, format_number}
use Rattle.format.specs.declared.Size.{Size}
use Rattle.delay.specs.declared.Milliseconds.{Milliseconds}
use Rattle.delay.specs.Delay.{milliseconds}
use Rattle.state.specs.Outcome.{Memory, Outcome, leaves, refuse}
use Rattle.board_clock.specs.declared.Stands.{Stands}
use Rattle.board_clock.specs.Clock.{follows}
use Rattle.board_player.specs.declared.Player.{Player}
use Rattle.board_player.specs.declared.Event.{Event}
use Rattle.board_player.specs.declared.Event.TheVariants.{Nothing, Drawn, SetBack}
use Rattle.board_player.specs.declared.Stepped.{Stepped}

-- the event that a tick tells: nothing was due, a frame was drawn, or the clock was set back
abbrev pub NOTHING : ℕ
NOTHING = 0

abbrev pub DRAWN : ℕ
DRAWN = 1

abbrev pub SET_BACK : ℕ
SET_BACK = 2

-- the number of an event
abbrev pub event_number : Event → ℕ
event_number Nothing = NOTHING
event_number Drawn = DRAWN
event_number SetBack = SET_BACK

-- what a tick answers: its event, or the refusal with its place
abbrev pub Ticked : Type 0
Ticked = Result Event Refused

-- what a tick's answer says, in the paper's numbers
abbrev pub told_tick : Ticked → Said
told_tick (Ok e) = done (event_number e ∷ [])
told_tick (Err r) = refused (number r.0) r.1

-- no player: what a refused start gives
abbrev pub no_player : Player
no_player = record { width = 0; height = 0; frames = 0; number = 0; place = 0; second = 0; speed = milliseconds 0; last = 0; format = 0 }

-- a player at frame 1, which ends at offset end, drawn at reading
abbrev pub player_at : Size → ℕ → ℕ → Milliseconds → ℕ → Player
player_at z count end speed reading =
    record {
      width = z.width;
      height = z.height;
      frames = count;
      number = 1;
      place = end;
      second = end;
      speed = speed;
      last = reading;
      format = format_number z.format;
    }

-- the size of a player's pictures, and the format of its frames
abbrev pub player_size : Player → Size
player_size p = size_of (format_from p.format) p.width p.height

-- the player with another frame standing, the next being looked for at place
abbrev pub standing : Player → Stands → ℕ → Player
standing p s place =
    record {
      width = p.width;
      height = p.height;
      frames = p.frames;
      number = s.number;
      place = place;
      second = p.second;
      speed = p.speed;
      last = s.last;
      format = p.format;
    }

-- "the record's place, the end of the frame standing (of frame 1 for the ring)": after the frame that comes next, which ends at end
abbrev pub place_after : Player → ℕ → ℕ
place_after p end = cond (eqb (follows p.number p.frames) (suc p.frames)) p.second end

-- the record after a call, and what it says and leaves in the lent memory
pub record PlayerOutcome : Type 0 where
  pub player : Player
  pub left : Outcome

abbrev pub plays : Player → Outcome → PlayerOutcome
plays p o = record { player = p; left = o }

-- "A refused tick changes nothing"
abbrev pub keeps : Player → Refusal → ℕ → Memory → PlayerOutcome
keeps p e place found = plays p (refuse e place found)

-- a tick of p by value leaves this in the lent memory: where it is refused, the record stays p
abbrev pub ticks : Player → Result Stepped Refused → Memory → PlayerOutcome
ticks p (Ok s) m = plays s.player (leaves (told_tick (Ok s.event)) m)
ticks p (Err r) m = plays p (leaves (told_tick (Err r)) m)

-- a start leaves this in the lent memory: where it is refused, there is no player
abbrev pub starts : Result Player Refused → Memory → PlayerOutcome
starts (Ok p) m = plays p (leaves (done []) m)
starts (Err r) m = plays no_player (leaves (refused (number r.0) r.1) m)
