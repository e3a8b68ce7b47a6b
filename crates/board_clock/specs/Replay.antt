-- Replaying recorded readings (document 02, Req 01): which frame stood after each.
use Rattle.std.specs.Prelude.{ℕ, ◌&&◌, leb, List, [], ◌∷◌, nat_le}
use Rattle.words.specs.Words.{require◌else◌then◌}
use Rattle.format.specs.Limits.{max_frames}
use Rattle.answer.specs.declared.Refusal.TheVariants.{BadHeader}
use Rattle.state.specs.Outcome.{Outcome, lent_bytes, refuse, fitted}
use Rattle.board_clock.specs.Clock.{first, stepped}
use Rattle.board_clock.specs.declared.Stands.{Stands}

-- the number that stands after each reading, s before the first
unfoldable pub numbers : ℕ → ℕ → Stands → List ℕ → List ℕ
unfolding stepped
numbers frames speed s [] = []
numbers frames speed s (r ∷ rs) = (stepped frames speed s r).stands.number ∷ numbers frames speed (stepped frames speed s r).stands rs

-- "Recorded tick lists are replayed too, from speed, frame count, starting reading and readings"; "A replay's refusals are 14, then 3 for fewer words
-- lent than ticks"
unfoldable pub replayed : ℕ → ℕ → ℕ → List ℕ → List ℕ → Outcome
unfolding numbers
replayed speed frames start readings out =
    require leb 1 frames && nat_le frames max_frames else refuse BadHeader 0 (lent_bytes out) then
    fitted (numbers frames speed (first start) readings) out
