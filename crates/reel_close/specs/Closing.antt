-- Closing a reel: the record, the answer, and what the lent bytes and both working pairs hold afterwards.
use Rattle.std.specs.Prelude.{ℕ, ◌+◌, ◌-◌, List, [], Bool, true, false, ◌&&◌, cond, leb, length, take, Ok, Err}
use Rattle.words.specs.Words.{require◌else◌then◌}
use Rattle.words.specs.Writes.{put}
use Rattle.format.specs.Limits.{size_fits, area, max_frames}
use Rattle.answer.specs.Answer.{done, refused_at}
use Rattle.answer.specs.declared.Refusal.TheVariants.{ShortSlice, BadSize, NoRoom, Cut, WrongTime}
use Rattle.state.specs.State.{State, blank, enough, refilled}
use Rattle.state.specs.Outcome.{lent_bytes, lent_bytes_pairs, leaves}
use Rattle.chunks.specs.declared.Layout.TheVariants.{Packed}
use Rattle.house_frame.specs.House.{house_frame}
use Rattle.reel_header.specs.Written.{second_at, closed_header}
use Rattle.reel_play.specs.Play.{Shown, shown, play_all, Ran}
use Rattle.reel_build.specs.declared.Reel.{Reel}
use Rattle.reel_build.specs.Record.{reel_of, ReelOutcome, builds, keeps}
use Rattle.reel_build.specs.Building.{end_ok, fits}

-- the close's own playing: "An add or close whose record ends before 128 or past the lent bytes is 4, place 0 .. A close then plays its frames from
-- offset 128, back to back, within the record's end, with their refusals"
unfoldable pub own_playing : Reel → List ℕ → Shown
unfolding play_all
own_playing reel bytes =
    require end_ok reel.end (length bytes) else shown (Err (refused_at Cut 0)) (blank (area reel.size)) (blank (area reel.size)) then
    play_all Packed (reel.frames - 1) reel.size (take reel.end bytes)

-- the ring f put at the record's end and the header closed, or refusal 3
abbrev pub ring_written : Reel → List ℕ → List ℕ → ReelOutcome
ring_written r f b =
    require fits r.end f b else keeps r NoRoom 0 (lent_bytes b) then
    builds (reel_of r.size r.frames (r.end + length f) true)
    (leaves (done []) (lent_bytes (closed_header r.size.format (r.end + length f) r.frames (second_at b) (put b r.end f))))

-- "frames that end before it are 4, place 0; then 3"; "The ring is written from the state in which the close's own playing ends", to that after frame 1
abbrev pub ring_after : Reel → List ℕ → Ran → State → State → ReelOutcome
ring_after r b (Err e) last one = keeps r e.0 e.1 (lent_bytes b)
ring_after r b (Ok f) last one =
    require leb r.end f.end else keeps r Cut 0 (lent_bytes b) then
    ring_written r (house_frame r.size last one) b

-- the bytes after the close's own playing, which came to this
abbrev pub close_frames : Reel → List ℕ → Shown → ReelOutcome
close_frames r b x = ring_after r b x.result x.last x.one

-- what became of the bytes, with the pairs beside them: "the first of two pairs holds the state after the last accepted frame .. and the second the
-- state after frame 1 (either blank for none)"
abbrev pub with_pairs : ReelOutcome → State → State → ReelOutcome
with_pairs o first second = builds o.reel (leaves o.left.said (lent_bytes_pairs o.left.memory.bytes first second))

abbrev pub closed_by : Reel → List ℕ → Shown → State → State → ReelOutcome
closed_by r b x first second = with_pairs (close_frames r b x) (refilled (area r.size) x.last first) (refilled (area r.size) x.one second)

-- refusal 18: "closing with none or over 4,000, or closing twice"
abbrev pub close_ok : ℕ → Bool → Bool
close_ok frames closed = cond closed false (leb 1 frames && leb frames max_frames)

-- "Writing: 18, 2, 1, 3", the record and its frames between 1 and 3; both pairs are set "Once the checks up to 1 have passed"
unfoldable pub close_reel : Reel → List ℕ → State → State → ReelOutcome
unfolding own_playing closed_header second_at house_frame
close_reel reel bytes first second =
    require close_ok reel.frames reel.closed else keeps reel WrongTime 0 (lent_bytes_pairs bytes first second) then
    require size_fits reel.size else keeps reel BadSize 0 (lent_bytes_pairs bytes first second) then
    require enough (area reel.size) first && enough (area reel.size) second else keeps reel ShortSlice 0 (lent_bytes_pairs bytes first second) then
    closed_by reel bytes (own_playing reel bytes) first second
