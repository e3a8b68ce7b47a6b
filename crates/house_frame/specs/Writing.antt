-- Writing one frame: the answer, and what the lent output holds afterwards.
use Rattle.std.specs.Prelude.{List, ◌&&◌, ℕ}
use Rattle.words.specs.Words.{require◌else◌then◌}
use Rattle.format.specs.Limits.{area, size_fits}
use Rattle.format.specs.declared.Size.{Size}
use Rattle.answer.specs.declared.Refusal.TheVariants.{ShortSlice, BadSize}
use Rattle.state.specs.State.{State, enough, front}
use Rattle.state.specs.Outcome.{Outcome, lent_bytes, refuse, fitted}
use Rattle.house_frame.specs.House.{house_frame}

-- "Writing: .. 2, 1, 3"
unfoldable pub write_frame : Size → State → State → List ℕ → Outcome
unfolding house_frame
write_frame size previous next out =
    require size_fits size else refuse BadSize 0 (lent_bytes out) then
    require enough (area size) previous && enough (area size) next else refuse ShortSlice 0 (lent_bytes out) then
    fitted (house_frame size (front (area size) previous) (front (area size) next)) out
