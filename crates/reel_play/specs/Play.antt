-- Playing frames: each is read against the state that the one before it left, frame 1 against blank.
use Rattle.std.specs.Prelude.{ℕ, ◌+◌, List, [], ◌∷◌, Ok, Err, Result}
use Rattle.words.specs.Words.{part}
use Rattle.state.specs.State.{State, blank}
use Rattle.format.specs.Limits.{area}
use Rattle.format.specs.declared.Size.{Size}
use Rattle.read_frame.specs.Frame.{FrameWalk, frame}
use Rattle.read_frame.specs.Reading.{played}
use Rattle.chunks.specs.declared.Layout.{Layout}
use Rattle.chunks.specs.declared.Frame.{Frame}
use Rattle.chunks.specs.Spans.{HEADER_BYTES, Span, Next, frame_to, frame_spans, next_at}
use Rattle.answer.specs.Answer.{refused_at, Answer}
use Rattle.answer.specs.declared.Refused.{Refused}

-- what a run of frames came to: where the last one lies, or the first refusal with its place
abbrev pub Ran : Type 0
Ran = Result Frame Refused

-- what it came to, and the state after the last accepted frame
pub record Progress : Type 0 where
  pub result : Ran
  pub after : State

abbrev pub ran : Ran → State → Progress
ran r s = record { result = r; after = s }

-- a frame that lies from offset from up to end: accepted, or refused with its place counted from the front of the reel's bytes
abbrev pub ran_by : ℕ → ℕ → FrameWalk → Answer → State → Progress
ran_by from end f (Ok u) s = ran (Ok (frame_to from end)) (played f s)
ran_by from end f (Err r) s = ran (Err (refused_at r.0 (from + r.1))) s

-- a run, and after it, if it was accepted, what follows from where it ended
abbrev pub then_on : Ran → State → (ℕ → ℕ → State → Progress) → Progress
then_on (Err r) s rest = ran (Err r) s
then_on (Ok f) s rest = rest f.from f.end s

module _ (z : Size) (b : List ℕ) where
  -- the frame from offset from up to end, read against s
  abbrev pub read : ℕ → ℕ → State → Progress
  read from end s = ran_by from end (frame z (part b from end)) (frame z (part b from end)).answer s

  abbrev pub met : Next → State → Progress
  met (Err r) s = ran (Err r) s
  met (Ok f) s = read f.from f.end s

  -- frames one after the other, and then how the walk over them is answered; a frame at last came before and ended at offset at
  abbrev pub in_turn : List Span → Answer → ℕ → ℕ → State → Progress
  in_turn [] (Ok u) last at s = ran (Ok (frame_to last at)) s
  in_turn [] (Err r) last at s = ran (Err r) s
  in_turn (f ∷ fs) a last at s = then_on (read f.from f.end s).result (read f.from f.end s).after (λ last' at' s'. in_turn fs a last' at' s')

module _ (layout : Layout) (z : Size) (b : List ℕ) where
  -- the next frame from offset at on, read against s
  unfoldable pub one_frame : ℕ → State → Progress
  unfolding next_at frame
  one_frame at s = met z b (next_at layout b at) s

  -- count frames from offset at on, after a frame at last that left s
  unfoldable pub frames : ℕ → ℕ → ℕ → State → Progress
  unfolding frame_spans frame
  frames count last at s = in_turn z b (frame_spans layout b count at).met (frame_spans layout b count at).answer last at s

-- what playing came to, the state after the last accepted frame and that after frame 1 ("either blank for none")
pub record Shown : Type 0 where
  pub result : Ran
  pub last : State
  pub one : State

abbrev pub shown : Ran → State → State → Shown
shown r s t = record { result = r; last = s; one = t }

-- after frame 1, which came to this, more frames from where it ended
abbrev pub shown_after : Progress → (ℕ → ℕ → State → Progress) → Shown
shown_after p rest = shown (then_on p.result p.after rest).result (then_on p.result p.after rest).after p.after

-- "frame 1 is read against blank", from offset 128 on, and then more frames
unfoldable pub play_all : Layout → ℕ → Size → List ℕ → Shown
unfolding one_frame frames
play_all layout more z b = shown_after (one_frame layout z b HEADER_BYTES (blank (area z))) (λ last at s. frames layout z b more last at s)
