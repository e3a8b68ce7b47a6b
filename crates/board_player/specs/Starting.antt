-- Starting a player (document 02, Req 01): the answer, the record, and what both pairs hold afterwards.
use Rattle.std.specs.Prelude.{ℕ, List, [], take, Ok, Err}
use Rattle.format.specs.Limits.{area}
use Rattle.format.specs.declared.Size.{Size}
use Rattle.delay.specs.declared.Milliseconds.{Milliseconds}
use Rattle.answer.specs.Answer.{Said, done, refused}
use Rattle.state.specs.State.{State, blank, refilled}
use Rattle.state.specs.Outcome.{Outcome, lent_pairs, leaves}
use Rattle.chunks.specs.declared.Layout.TheVariants.{Loose}
use Rattle.chunks.specs.Spans.{HEADER_BYTES, next_at, Next}
use Rattle.reel_header.specs.Head.{head_of, Headed}
use Rattle.reel_header.specs.declared.Takes.TheVariants.{Both}
use Rattle.reel_play.specs.Play.{one_frame}
use Rattle.reel_check.specs.Check.{check_reel}
use Rattle.board_player.specs.declared.Player.{Player}
use Rattle.board_player.specs.Player.{no_player, player_at, PlayerOutcome, plays}

-- the record of a reel whose frame 1 was drawn at reading; there is none where the header or frame 1's is refused
abbrev pub placed_by : Size → ℕ → Milliseconds → ℕ → Next → Player
placed_by z count speed reading (Err r) = no_player
placed_by z count speed reading (Ok f) = player_at z count f.end speed reading

abbrev pub placed_at : List ℕ → ℕ → Headed → Player
placed_at b reading (Err e) = no_player
placed_at b reading (Ok h) = placed_by h.picture h.frames h.speed reading (next_at Loose (take h.size b) HEADER_BYTES)

unfoldable pub placed : List ℕ → ℕ → Player
unfolding head_of next_at
placed b reading = placed_at b reading (head_of Both b)

-- a lent pair that shows frame 1, which "is read against blank"
abbrev pub showing_by : List ℕ → Headed → State → State
showing_by b (Err e) lent = lent
showing_by b (Ok h) lent = refilled (area h.picture) (one_frame Loose h.picture (take h.size b) HEADER_BYTES (blank (area h.picture))).after lent

unfoldable pub showing_first : List ℕ → State → State
unfolding head_of one_frame
showing_first b lent = showing_by b (head_of Both b) lent

-- "Starting makes the whole-reel check in its two pairs", whose refusals it has, "then the first shows frame 1, drawn at the reading given"
abbrev pub started_by : List ℕ → ℕ → State → Outcome → Said → PlayerOutcome
started_by b reading first o (refused n place) = plays no_player o
started_by b reading first o (done v) = plays (placed b reading) (leaves (done []) (lent_pairs (showing_first b first) o.memory.second))

unfoldable pub start_player : List ℕ → ℕ → State → State → PlayerOutcome
unfolding check_reel placed showing_first
start_player b reading first second = started_by b reading first (check_reel b first second) (check_reel b first second).said
