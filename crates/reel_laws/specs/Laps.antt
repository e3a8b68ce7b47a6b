-- What a player shows that plays frame 1, and then frames 2 to the ring again and again; and that an accepted reel leads back.
use Prim.Native.Nat.{ℕ, zero, suc}
use mathlib.Core.List.{List, [], ◌∷◌, ◌++◌}
use Rattle.std.specs.Prelude.{◌≡◌, length, take, Ok, Err}
use Rattle.words.specs.Words.{part}
use Rattle.state.specs.State.{State, blank}
use Rattle.format.specs.Limits.{area}
use Rattle.format.specs.declared.Size.{Size}
use Rattle.answer.specs.Answer.{told}
use Rattle.state.specs.Outcome.{lent_pair, leaves}
use Rattle.read_frame.specs.Reading.{read_frame}
use Rattle.delay.specs.declared.Milliseconds.{Milliseconds}
use Rattle.reel_header.specs.Head.{head_of, head_with}
use Rattle.reel_header.specs.declared.Takes.TheVariants.{Both}
use Rattle.chunks.specs.declared.Layout.{Layout}
use Rattle.chunks.specs.declared.Layout.TheVariants.{Loose}
use Rattle.chunks.specs.Spans.{HEADER_BYTES, Span, frame_spans, next_at, frame_to}
use Rattle.reel_play.specs.Play.{read, Ran}

-- the last of the states ts, s where there is none
abbrev pub last_of : State → List State → State
last_of s [] = s
last_of s (t ∷ ts) = last_of t ts

-- a list of states, k times
unfoldable pub times : ℕ → List State → List State
times zero ts = []
times (suc k) ts = ts ++ times k ts

-- the state of a frame, if it was accepted, and then those that follow
abbrev pub states_by : Ran → State → (ℕ → State → List State) → List State
states_by (Err r) s rest = []
states_by (Ok p) s rest = s ∷ rest p.end s

-- the states after each of frames one after the other, the first read against s
abbrev pub states_of : Size → List ℕ → List Span → State → List State
states_of z b [] s = []
states_of z b (f ∷ fs) s =
    states_by (read z b f.from f.end s).result (read z b f.from f.end s).after (λ at' s'. states_of z b fs s')

module _ (layout : Layout) (z : Size) (b : List ℕ) where
  -- the states after each of count frames from offset at on, the first read against s
  unfoldable pub states : ℕ → ℕ → State → List State
  unfolding frame_spans
  states count at s = states_of z b (frame_spans layout b count at).met s

module _ (z : Size) (b : List ℕ) where
  -- k laps, each of count frames from offset at on and begun with the state that the lap before left
  unfoldable pub laps : ℕ → ℕ → ℕ → State → List State
  unfolding states
  laps zero count at s = []
  laps (suc k) count at s = states Loose z b count at s ++ laps k count at (last_of s (states Loose z b count at s))

  -- the frames that are met one after the other from offset at on, each read by `read_frame` against the state before it, give these states
  pub data Reads : ℕ → State → List State → Type 0 where
    none : {at : ℕ} {s : State} → Reads at s []
    next : {at : ℕ} {s : State} {ts : List State} (from end : ℕ) (t : State) → next_at Loose b at ≡ Ok (frame_to from end)
        → read_frame (part b from end) z s ≡ leaves (told (Ok tt)) (lent_pair t)
        → Reads end t ts → Reads at s (t ∷ ts)

-- A reel of count frames that leads back: frame 1 is read from blank and shows one; frames 2 to count show the states of middle, and the ring shows one
-- again.
pub record LeadsBack (b : List ℕ) : Type 0 where
  pub picture : Size
  pub count : ℕ
  pub size : ℕ
  pub speed : Milliseconds
  pub head : head_of Both b ≡ Ok (head_with picture count size speed)
  pub one : State
  pub middle : List State
  pub many : suc (length middle) ≡ count
  pub reads : Reads picture (take size b) HEADER_BYTES (blank (area picture)) (one ∷ (middle ++ (one ∷ [])))
  -- where frame 1 begins and where it ends, from which each further lap is played
  pub first : ℕ
  pub second : ℕ
  pub frame_1 : next_at Loose (take size b) HEADER_BYTES ≡ Ok (frame_to first second)
  pub every_lap : (k : ℕ) → laps picture (take size b) k count second one ≡ times k (middle ++ (one ∷ []))
