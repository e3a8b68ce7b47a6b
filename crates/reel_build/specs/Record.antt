-- A reel's record, and what a call that builds a reel leaves behind.
use Rattle.std.specs.Prelude.{ℕ, [], Bool, false, Result, Ok, Err}
use Rattle.format.specs.Limits.{size_of}
use Rattle.format.specs.declared.Format.TheVariants.{Flc}
use Rattle.format.specs.declared.Size.{Size}
use Rattle.answer.specs.Answer.{Said, done, refused, number, refused_at}
use Rattle.answer.specs.declared.Refusal.{Refusal}
use Rattle.answer.specs.declared.Refused.{Refused}
use Rattle.chunks.specs.Spans.{HEADER_BYTES}
use Rattle.state.specs.Outcome.{Memory, Outcome, leaves, refuse}
use Rattle.reel_build.specs.declared.Reel.{Reel}

-- a record: the picture's size and the format, how many frames were added, where the last of them ends, and whether the reel is closed
abbrev pub reel_of : Size → ℕ → ℕ → Bool → Reel
reel_of size frames end closed = record { size = size; frames = frames; end = end; closed = closed }

-- what a refused open gives: zeros
abbrev pub no_reel : Reel
no_reel = reel_of (size_of Flc 0 0) 0 0 false

-- what a call gives that builds a reel: the reel after it, or a refusal with its place
abbrev pub Built : Type 0
Built = Result Reel Refused

-- what an open gives that is done
abbrev pub new_reel : Size → Built
new_reel size = Ok (reel_of size 0 HEADER_BYTES false)

-- what a call gives that is refused, of the reel r, with which it leaves the caller
abbrev pub refused_with : Reel → Refusal → ℕ → Built
refused_with r e place = Err (refused_at e place)

-- the record that a call gives, and what it says and leaves in the lent memory
pub record ReelOutcome : Type 0 where
  pub reel : Reel
  pub left : Outcome

abbrev pub builds : Reel → Outcome → ReelOutcome
builds r o = record { reel = r; left = o }

-- "A refusal leaves all lent memory as found"; "A refused close or add leaves the reel as it was"
abbrev pub keeps : Reel → Refusal → ℕ → Memory → ReelOutcome
keeps r e place found = builds r (refuse e place found)

-- the reel after a call that was handed r
abbrev pub reel_after : Reel → Built → Reel
reel_after r (Ok new) = new
reel_after r (Err e) = r

-- what such a call says
abbrev pub told_built : Built → Said
told_built (Ok new) = done []
told_built (Err e) = refused (number e.0) e.1

-- what it leaves behind, m being the lent memory afterwards
abbrev pub built : Reel → Built → Memory → ReelOutcome
built r a m = builds (reel_after r a) (leaves (told_built a) m)
