-- The check of a whole reel: the answer, and what both working pairs hold afterwards.
use Rattle.std.specs.Prelude.{ℕ, List, ◌&&◌, take, Ok, Err}
use Rattle.words.specs.Words.{require◌else◌then◌, same}
use Rattle.format.specs.Limits.{area}
use Rattle.answer.specs.Answer.{told, refused_at, Answer}
use Rattle.answer.specs.declared.Refusal.TheVariants.{ShortSlice, BadRing}
use Rattle.state.specs.State.{State, enough, refilled}
use Rattle.state.specs.Outcome.{Outcome, lent_pairs, leaves, refuse}
use Rattle.chunks.specs.declared.Layout.TheVariants.{Loose}
use Rattle.reel_header.specs.Head.{head_of, Headed}
use Rattle.reel_header.specs.declared.Takes.TheVariants.{Both}
use Rattle.reel_play.specs.Play.{Shown, play_all, Ran}

-- "the ring comparison last": last, the state after the ring, is one, that after frame 1, else 16, which "gives the ring's offset"
abbrev pub ringed : Ran → State → State → Answer
ringed (Err r) last one = Err r
ringed (Ok f) last one =
    require same last.picture one.picture && same last.palette one.palette else Err (refused_at BadRing f.from) then
    Ok tt

abbrev pub ring_answer : Shown → Answer
ring_answer x = ringed x.result x.last x.one

-- "the first of two pairs holds the state after the last accepted frame (in a check the ring counts, also when 16 is given) and the second the state
-- after frame 1", for a picture of n pixels
abbrev pub checked_by : ℕ → Shown → State → State → Outcome
checked_by n x first second = leaves (told (ring_answer x)) (lent_pairs (refilled n x.last first) (refilled n x.one second))

-- "2, 14, 1, then chunks from the front"; "frames + 1 are read, the last being the ring; what follows up to the size is ignored"
abbrev pub after_head : List ℕ → Headed → State → State → Outcome
after_head b (Err e) first second = refuse e 0 (lent_pairs first second)
after_head b (Ok h) first second =
    require enough (area h.picture) first && enough (area h.picture) second else refuse ShortSlice 0 (lent_pairs first second) then
    checked_by (area h.picture) (play_all Loose h.frames h.picture (take h.size b)) first second

unfoldable pub check_reel : List ℕ → State → State → Outcome
unfolding head_of play_all
check_reel bytes first second = after_head bytes (head_of Both bytes) first second
