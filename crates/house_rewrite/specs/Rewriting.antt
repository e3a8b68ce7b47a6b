-- Rewriting one frame: read against the previous state into the lent working pair, and written in house form from the previous state to the one read.
use Rattle.std.specs.Prelude.{ℕ, List, ◌&&◌, Ok, Err}
use Rattle.words.specs.Words.{require◌else◌then◌}
use Rattle.format.specs.Limits.{area, size_fits}
use Rattle.format.specs.declared.Size.{Size}
use Rattle.answer.specs.declared.Refusal.TheVariants.{ShortSlice, BadSize}
use Rattle.state.specs.State.{State, enough, front, refilled}
use Rattle.state.specs.Outcome.{Outcome, lent_bytes_pair, leaves, refuse, fitted}
use Rattle.read_frame.specs.Frame.{FrameWalk, frame}
use Rattle.read_frame.specs.Reading.{played}
use Rattle.house_frame.specs.House.{house_frame}
use Rattle.answer.specs.Answer.{Answer}

-- "A rewrite's pair holds the next state when done or refused 3": what is left of the output, and beside it the working pair
abbrev pub rewrote : Size → State → State → State → List ℕ → Outcome
rewrote size previous next work out =
    let o = fitted (house_frame size previous next) out in
    leaves o.said (lent_bytes_pair o.memory.bytes (refilled (area size) next work))

-- what a frame that is answered so leads to: ".. else stays"
abbrev pub rewrite_by : Size → FrameWalk → Answer → State → State → List ℕ → Outcome
rewrite_by size f (Ok u) previous work out = rewrote size previous (played f previous) work out
rewrite_by size f (Err r) previous work out = refuse r.0 r.1 (lent_bytes_pair out work)

-- "Writing: .. 2, 1, 3; a rewrite gives the frame's own refusals before 3"
unfoldable pub rewrite_frame : List ℕ → Size → State → State → List ℕ → Outcome
unfolding frame house_frame
rewrite_frame bytes size previous work out =
    require size_fits size else refuse BadSize 0 (lent_bytes_pair out work) then
    require enough (area size) previous && enough (area size) work else refuse ShortSlice 0 (lent_bytes_pair out work) then
    rewrite_by size (frame size bytes) (frame size bytes).answer (front (area size) previous) work out
