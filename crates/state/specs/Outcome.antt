-- What a call leaves behind: what it says, and the memory that was lent to it (document 01, "Refusal numbers").
use Rattle.std.specs.Prelude.{ℕ, List, [], ◌∷◌, leb, length}
use Rattle.words.specs.Words.{require◌else◌then◌}
use Rattle.words.specs.Writes.{put}
use Rattle.answer.specs.Answer.{Said, done, refused, number}
use Rattle.answer.specs.declared.Refusal.{Refusal}
use Rattle.answer.specs.declared.Refusal.TheVariants.{NoRoom}
use Rattle.state.specs.State.{State, state}

-- What was lent to be changed: bytes (an output, or a reel) and up to two pairs. What a call isn't lent is empty.
pub record Memory : Type 0 where
  pub bytes : List ℕ
  pub first : State
  pub second : State

-- no pair
abbrev pub none : State
none = state [] []

-- bytes, one pair, bytes and a pair, two pairs, bytes and two pairs
abbrev pub lent_bytes : List ℕ → Memory
lent_bytes b = record { bytes = b; first = none; second = none }

abbrev pub lent_pair : State → Memory
lent_pair s = record { bytes = []; first = s; second = none }

abbrev pub lent_bytes_pair : List ℕ → State → Memory
lent_bytes_pair b s = record { bytes = b; first = s; second = none }

abbrev pub lent_pairs : State → State → Memory
lent_pairs s t = record { bytes = []; first = s; second = t }

abbrev pub lent_bytes_pairs : List ℕ → State → State → Memory
lent_bytes_pairs b s t = record { bytes = b; first = s; second = t }

-- what is said, and the lent memory afterwards
pub record Outcome : Type 0 where
  pub said : Said
  pub memory : Memory

abbrev pub leaves : Said → Memory → Outcome
leaves s m = record { said = s; memory = m }

-- "A refusal leaves all lent memory as found"
abbrev pub refuse : Refusal → ℕ → Memory → Outcome
refuse e place found = leaves (refused (number e) place) found

-- the bytes b at the front of the output and its rest unchanged, or refusal 3: "the output is shorter than the bytes to be written"
abbrev pub fitted : List ℕ → List ℕ → Outcome
fitted b out =
    require leb (length b) (length out) else refuse NoRoom 0 (lent_bytes out) then
    leaves (done (length b ∷ [])) (lent_bytes (put out 0 b))
