-- A tick of a player (document 02, Req 01): the answer, the record, and what the pair that shows holds afterwards.
use Rattle.std.specs.Prelude.{ℕ, suc, List, [], ◌∷◌, Bool, ◌&&◌, leb, length, Ok, Err}
use Rattle.words.specs.Words.{require◌else◌then◌}
use Rattle.format.specs.Limits.{size_fits, area}
use Rattle.answer.specs.Answer.{done, refused_at}
use Rattle.answer.specs.declared.Refusal.TheVariants.{ShortSlice, BadSize, Cut}
use Rattle.state.specs.State.{State, enough, front, refilled}
use Rattle.state.specs.Outcome.{lent_pair, leaves}
use Rattle.chunks.specs.declared.Layout.TheVariants.{Loose}
use Rattle.reel_play.specs.Play.{Progress, ran, one_frame, Ran}
use Rattle.board_clock.specs.declared.Due.{Due}
use Rattle.board_clock.specs.declared.Due.TheVariants.{Nothing, Frame, SetBack}
use Rattle.board_clock.specs.declared.Stands.{Stands}
use Rattle.board_clock.specs.Clock.{stands, stepped}
use Rattle.board_player.specs.declared.Player.{Player}
use Rattle.board_player.specs.Player.{NOTHING, DRAWN, SET_BACK, player_size, standing, place_after, PlayerOutcome, plays, keeps}

-- "if the record's place .. lies past the bytes or its frame number outside 1 to frames + 1"
abbrev pub record_ok : Player → List ℕ → Bool
record_ok p bytes = leb p.place (length bytes) && (leb 1 p.number && leb p.number (suc p.frames))

-- what a frame of n pixels that was read against the front of a lent pair leaves in it
abbrev pub drawn_into : ℕ → State → Ran → State → Progress
drawn_into n lent (Err r) s = ran (Err r) lent
drawn_into n lent (Ok f) s = ran (Ok f) (refilled n s lent)

-- "at a tick that draws 2, 1, 4 (place 0) ..., then the check's from there through the frame drawn, the bytes' end standing for the file's size"
unfoldable pub draw : Player → List ℕ → State → Progress
unfolding one_frame
draw p bytes lent =
    require size_fits (player_size p) else ran (Err (refused_at BadSize 0)) lent then
    require enough (area (player_size p)) lent else ran (Err (refused_at ShortSlice 0)) lent then
    require record_ok p bytes else ran (Err (refused_at Cut 0)) lent then
    let r = one_frame Loose (player_size p) bytes p.place (front (area (player_size p)) lent) in
    drawn_into (area (player_size p)) lent r.result r.after

-- a tick that draws; s: what stands then
abbrev pub drawn_by : Player → Stands → State → Ran → State → PlayerOutcome
drawn_by p s lent (Err r) t = keeps p r.0 r.1 (lent_pair lent)
drawn_by p s lent (Ok f) t = plays (standing p s (place_after p f.end)) (leaves (done (DRAWN ∷ [])) (lent_pair t))

-- a tick, by what its reading brings; one that draws nothing makes no check
abbrev pub tick_by : Player → List ℕ → State → Due → Stands → PlayerOutcome
tick_by p bytes lent Nothing s = plays p (leaves (done (NOTHING ∷ [])) (lent_pair lent))
tick_by p bytes lent SetBack s = plays (standing p s p.place) (leaves (done (SET_BACK ∷ [])) (lent_pair lent))
tick_by p bytes lent Frame s = drawn_by p s lent (draw p bytes lent).result (draw p bytes lent).after

-- the clock of a player
abbrev pub clock_of : Player → Stands
clock_of p = stands p.number p.last

-- "The player record is changed in place by each tick"
unfoldable pub tick : Player → List ℕ → ℕ → State → PlayerOutcome
unfolding draw stepped
tick p bytes reading lent =
    let t = stepped p.frames p.speed.0 (clock_of p) reading in
    tick_by p bytes lent t.due t.stands
