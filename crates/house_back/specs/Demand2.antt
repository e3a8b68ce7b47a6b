-- Demand 2, of writing: "Each frame we write, read against the state it was written from, gives the picture and palette asked for" (the mission).
-- It speaks of what the contracts of `write_frame` and `read_frame` equate with the code.
use Rattle.std.specs.Prelude.{ℕ, ◌≤◌, ◌≡◌, List, [], ◌∷◌, true, length, take}
use Rattle.words.specs.Words.{Bytes}
use Rattle.format.specs.Limits.{size_fits, area}
use Rattle.format.specs.declared.Size.{Size}
use Rattle.answer.specs.Answer.{done}
use Rattle.state.specs.State.{State, enough, front, refilled}
use Rattle.state.specs.Outcome.{lent_pair, leaves}
use Rattle.read_frame.specs.Reading.{read_frame}
use Rattle.house_frame.specs.House.{frame_most}
use Rattle.house_frame.specs.Writing.{write_frame}

-- of the lent pairs previous and next, whatever the output held; a picture's bytes are bytes, as in every lent slice
pub record Demand2 (z : Size) (previous next : State) : Type 0 where
  -- a write that is done with n bytes: these, read against the lent previous pair, are accepted and give the next picture and palette; the excess
  -- of the previous pair stays
  pub reads_back : Bytes next.picture → Bytes previous.picture → (out : List ℕ) (n : ℕ) → (write_frame z previous next out).said ≡ done (n ∷ [])
      → read_frame (take n (write_frame z previous next out).memory.bytes) z previous ≡ leaves (done []) (lent_pair (refilled (area z) (front (area z) next) previous))
  -- and it is done wherever the size is right, both pairs hold a state and the output has room for a frame
  pub can_be_done : size_fits z ≡ true → enough (area z) previous ≡ true → enough (area z) next ≡ true
      → (out : List ℕ) → frame_most ≤ length out → (n : ℕ) × ((write_frame z previous next out).said ≡ done (n ∷ []))
