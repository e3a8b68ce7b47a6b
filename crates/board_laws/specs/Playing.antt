-- Ticks one after the other, and what is promised of them (document 02, Req 01).
use Rattle.std.specs.Prelude.{ℕ, suc, ◌-◌, ◌≤◌, List, [], ◌∷◌, ◌++◌, ◌≡◌, get_or}
use Rattle.format.specs.Limits.{area}
use Rattle.answer.specs.Answer.{Said, done}
use Rattle.state.specs.State.{State, refilled}
use Rattle.state.specs.Outcome.{fitted}
use Rattle.reel_laws.specs.Laps.{LeadsBack}
use Rattle.board_clock.specs.Replay.{replayed}
use Rattle.board_player.specs.declared.Player.{Player}
use Rattle.board_player.specs.Player.{NOTHING, DRAWN}
use Rattle.board_player.specs.Ticking.{tick}
use Rattle.board_player.specs.Starting.{start_player}

-- a player's record and the pair that shows
pub record Playing : Type 0 where
  pub player : Player
  pub pair : State

abbrev pub playing : Player → State → Playing
playing p s = record { player = p; pair = s }

-- a player that was started over the bytes b at reading now, with the pair that it left
abbrev pub started : List ℕ → ℕ → State → State → Playing
started b now first second = playing (start_player b now first second).player (start_player b now first second).left.memory.first

-- ticks over the bytes b, each handed the record and the pair that the one before left
module _ (b : List ℕ) where
  -- one tick, and what it says
  abbrev pub ticked : ℕ → Playing → Playing
  ticked r x = playing (tick x.player b r x.pair).player (tick x.player b r x.pair).left.memory.first

  abbrev pub says : ℕ → Playing → Said
  says r x = (tick x.player b r x.pair).left.said

  -- after a list of readings
  unfoldable pub after : List ℕ → Playing → Playing
  after [] x = x
  after (r ∷ rs) x = after rs (ticked r x)

  -- the number of the frame that stands after each reading
  unfoldable pub stood : List ℕ → Playing → List ℕ
  stood [] x = []
  stood (r ∷ rs) x = (ticked r x).player.number ∷ stood rs (ticked r x)

  -- no tick is refused
  pub data Unrefused : List ℕ → Playing → Type 0 where
    none : {x : Playing} → Unrefused [] x
    next : {x : Playing} {r : ℕ} {rs : List ℕ} (event : ℕ) → says r x ≡ done (event ∷ []) → Unrefused rs (ticked r x) → Unrefused (r ∷ rs) x

  -- no tick is refused and the clock is never set back; n of the ticks draw
  pub data Steady : List ℕ → ℕ → Playing → Type 0 where
    none : {x : Playing} → Steady [] 0 x
    idle : {x : Playing} {r : ℕ} {rs : List ℕ} {n : ℕ} → says r x ≡ done (NOTHING ∷ []) → Steady rs n (ticked r x) → Steady (r ∷ rs) n x
    drawn : {x : Playing} {r : ℕ} {rs : List ℕ} {n : ℕ} → says r x ≡ done (DRAWN ∷ []) → Steady rs n (ticked r x) → Steady (r ∷ rs) (suc n) x

-- the states of a reel's frames and of its ring, which is frame 1's
abbrev pub all_states : {b : List ℕ} → LeadsBack b → List State
all_states reel = reel.one ∷ (reel.middle ++ (reel.one ∷ []))

-- the state of frame k, the ring having number frames + 1
abbrev pub state_of : {b : List ℕ} → LeadsBack b → ℕ → State
state_of reel k = get_or (all_states reel) (k - 1) reel.one

-- What a started player x over the bytes b shows, whatever the readings are: the night shift reads what was meant, on every lap. first: the pair that
-- was lent, of which the excess stays.
pub record PlayerShows (b : List ℕ) (first : State) (x : Playing) : Type 0 where
  -- the reel leads back
  pub reel : LeadsBack b
  -- no tick is refused
  pub never_refused : (rs : List ℕ) → Unrefused b rs x
  -- the number that stands is a frame's or the ring's
  pub stands : (rs : List ℕ) → (1 ≤ (after b rs x).player.number) × ((after b rs x).player.number ≤ suc reel.count)
  -- and the pair shows that frame's state
  pub shows : (rs : List ℕ) → (after b rs x).pair ≡ refilled (area reel.picture) (state_of reel (after b rs x).player.number) first

-- "the same as a live player shows when no tick is refused": a replay with the reel's speed and frames from the same reading, over any list of readings
pub record ReplayIsLive (b : List ℕ) (now : ℕ) (x : Playing) : Type 0 where
  pub reel : LeadsBack b
  pub words : (rs out : List ℕ) → replayed reel.speed.0 reel.count now rs out ≡ fitted (stood b rs x) out
