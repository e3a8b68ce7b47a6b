-- Laws of the clock and of a replay, by the cases of their definitions.
use Rattle.std.proofs.Common.{◌≡◌, ℕ, suc, ◌%◌, ◌^◌, ◌<◌, ◌≤◌, cond, leb, List, [], ◌∷◌, length, refl, ap, subst, arith, le-leb, leb-false, leb-true}
use borrow.Author.Tests.{lt-leb}
use Rattle.words.proofs.Tests.{by_test}
use Rattle.format.specs.Limits.{max_frames}
use Rattle.state.specs.Outcome.{fitted}
use Rattle.board_clock.specs.Clock.{due, follows, first, stepped_by, stepped}
use Rattle.board_clock.specs.Replay.{numbers, replayed}
use Rattle.board_clock.specs.declared.Due.{Due}
use Rattle.board_clock.specs.declared.Due.TheVariants.{Nothing, Frame, SetBack}
use Rattle.board_clock.specs.declared.Stands.{Stands}
use Rattle.board_clock.specs.declared.Turn.{Turn}

-- follows

pub follows_more : (number frames : ℕ) → number ≤ frames → follows number frames ≡ suc number
follows_more number frames h = rw (le-leb number frames h)

pub follows_ring : (number frames : ℕ) → frames < number → follows number frames ≡ 2
follows_ring number frames h = rw (lt-leb number frames h)

-- stepped

pub step_by : (frames speed : ℕ) (s : Stands) (reading : ℕ) (d : Due) → d ≡ due speed s.last reading → stepped_by frames speed s reading d
    ≡ stepped frames speed s reading
unfolding stepped
step_by frames speed s reading d e = ap (stepped_by frames speed s reading) e

-- the number stays within 1 to frames + 1's bound
pub step_small : (frames speed : ℕ) (s : Stands) (reading : ℕ) → 1 ≤ frames → frames ≤ max_frames → s.number ≤ suc frames
    → (stepped frames speed s reading).stands.number ≤ suc frames
step_small frames speed s reading h k i =
    subst (λ (t : Turn). t.stands.number ≤ suc frames) (step_by frames speed s reading (due speed s.last reading) refl) (by (due speed s.last reading))
  where
    by : (d : Due) → (stepped_by frames speed s reading d).stands.number ≤ suc frames
    by Nothing = i
    by SetBack = i
    by Frame =
        by_test (λ t. cond t (suc s.number) 2 % 2 ^ 64 ≤ suc frames) (leb s.number frames) (λ e. omega (arith, leb-true s.number frames e))
        (λ e. omega (arith, leb-false s.number frames e))

-- replayed

pub numbers_more : (frames speed : ℕ) (s : Stands) (r : ℕ) (rs : List ℕ)
    → numbers frames speed s (r ∷ rs) ≡ (stepped frames speed s r).stands.number ∷ numbers frames speed (stepped frames speed s r).stands rs
unfolding numbers
numbers_more frames speed s r rs = refl

pub numbers_none : (frames speed : ℕ) (s : Stands) → numbers frames speed s [] ≡ []
unfolding numbers
numbers_none frames speed s = refl

pub length_numbers : (frames speed : ℕ) (s : Stands) (rs : List ℕ) → length (numbers frames speed s rs) ≡ length rs
unfolding numbers
length_numbers frames speed s [] = refl
length_numbers frames speed s (r ∷ rs) = ap suc (length_numbers frames speed (stepped frames speed s r).stands rs)

pub replay_fitted : (speed frames start : ℕ) (readings out : List ℕ) → 1 ≤ frames → frames ≤ max_frames
    → fitted (numbers frames speed (first start) readings) out ≡ replayed speed frames start readings out
unfolding replayed
replay_fitted speed frames start readings out h k = rw (le-leb 1 frames h, le-leb frames max_frames k)
