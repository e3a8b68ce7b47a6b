-- Reading one frame against a state: the answer, and what the lent pair holds afterwards.
use Rattle.std.specs.Prelude.{ℕ, List, Ok, Err}
use Rattle.words.specs.Words.{require◌else◌then◌}
use Rattle.words.specs.Writes.{applied}
use Rattle.format.specs.Limits.{area, size_fits}
use Rattle.format.specs.declared.Size.{Size}
use Rattle.answer.specs.Answer.{told, Answer}
use Rattle.answer.specs.declared.Refusal.TheVariants.{ShortSlice, BadSize}
use Rattle.state.specs.State.{State, state, enough, front, refilled}
use Rattle.state.specs.Outcome.{Outcome, lent_pair, leaves, refuse}
use Rattle.read_frame.specs.Frame.{FrameWalk, frame}

-- the state after a walk's writes
abbrev pub played : FrameWalk → State → State
played f s = state (applied f.pixels s.picture) (applied f.colours s.palette)

-- the state after a walk that is answered so: a refusal changes nothing
abbrev pub settled : FrameWalk → Answer → State → State
settled f (Ok u) s = played f s
settled f (Err r) s = s

-- what a frame that is answered so leaves in a pair that was lent for a picture of n pixels
abbrev pub read_by : ℕ → FrameWalk → Answer → State → Outcome
read_by n f (Ok u) lent = leaves (told (Ok tt)) (lent_pair (refilled n (played f (front n lent)) lent))
read_by n f (Err r) lent = refuse r.0 r.1 (lent_pair lent)

-- "Single frame: 2, 1, then its bytes from the front"; refusals that no chunk causes give place 0
unfoldable pub read_frame : List ℕ → Size → State → Outcome
unfolding frame
read_frame bytes size lent =
    require size_fits size else refuse BadSize 0 (lent_pair lent) then
    require enough (area size) lent else refuse ShortSlice 0 (lent_pair lent) then
    read_by (area size) (frame size bytes) (frame size bytes).answer lent
