-- Opening a reel and adding a frame: the record, the answer, and what the lent bytes hold afterwards.
use Rattle.std.specs.Prelude.{ℕ, ◌+◌, List, [], ◌∷◌, Bool, false, ◌&&◌, cond, leb, ltb, length}
use Rattle.words.specs.Words.{require◌else◌then◌}
use Rattle.words.specs.Writes.{put}
use Rattle.format.specs.Limits.{size_fits, size_of, area, max_frames}
use Rattle.format.specs.declared.Format.TheVariants.{Flc, Fli}
use Rattle.delay.specs.declared.Milliseconds.{Milliseconds}
use Rattle.delay.specs.Delay.{jiffies}
use Rattle.format.specs.declared.Size.{Size}
use Rattle.answer.specs.Answer.{done}
use Rattle.answer.specs.declared.Refusal.TheVariants.{ShortSlice, BadSize, NoRoom, Cut, BadHeader, WrongTime}
use Rattle.state.specs.State.{State, front, enough}
use Rattle.state.specs.Outcome.{Outcome, lent_bytes, leaves, refuse}
use Rattle.house_frame.specs.House.{house_frame}
use Rattle.chunks.specs.Spans.{HEADER_BYTES}
use Rattle.reel_header.specs.Written.{opened, opened_fli}
use Rattle.reel_build.specs.declared.Reel.{Reel}
use Rattle.reel_build.specs.Record.{reel_of, no_reel, ReelOutcome, builds, keeps}

-- the header h at the front of the lent bytes, for pictures of size z: 3 where there is no room
abbrev pub opening : Size → List ℕ → List ℕ → ReelOutcome
opening z h bytes =
    require leb HEADER_BYTES (length bytes) else keeps no_reel NoRoom 0 (lent_bytes bytes) then
    builds (reel_of z 0 HEADER_BYTES false) (leaves (done []) (lent_bytes (put bytes 0 h)))

-- "Writing: .. 2, .. 3"
unfoldable pub open_reel : ℕ → ℕ → Milliseconds → List ℕ → ReelOutcome
unfolding opened
open_reel w h speed bytes =
    require size_fits (size_of Flc w h) else keeps no_reel BadSize 0 (lent_bytes bytes) then
    opening (size_of Flc w h) (opened w h speed) bytes

-- an FLI (document 02, Req 06): "size not 320 by 200 is 2 ..; jiffies over 65,535 is 14, after 2"
unfoldable pub open_fli : ℕ → ℕ → ℕ → List ℕ → ReelOutcome
unfolding opened_fli
open_fli w h delay bytes =
    require size_fits (size_of Fli w h) else keeps no_reel BadSize 0 (lent_bytes bytes) then
    require leb delay 65535 else keeps no_reel BadHeader 0 (lent_bytes bytes) then
    opening (size_of Fli w h) (opened_fli w h (jiffies delay)) bytes

-- refusal 4: "An add or close whose record ends before 128 or past the lent bytes"
abbrev pub end_ok : ℕ → ℕ → Bool
end_ok end room = leb HEADER_BYTES end && leb end room

-- refusal 3: "a size passes 32 bits"
abbrev pub most_bytes : ℕ
most_bytes = 4294967295

-- how many of so many lent bytes a file may fill
abbrev pub longest : ℕ → ℕ
longest room = cond (ltb room most_bytes) room most_bytes

-- whether the bytes f have room at offset end: else 3, "the output is shorter than the bytes to be written, or a size passes 32 bits"
abbrev pub fits : ℕ → List ℕ → List ℕ → Bool
fits end f b = leb (end + length f) (length b) && leb (end + length f) most_bytes

-- f put at offset end, all else unchanged; done gives where it ends
abbrev pub appended : ℕ → List ℕ → List ℕ → Outcome
appended end f b =
    require fits end f b else refuse NoRoom 0 (lent_bytes b) then
    leaves (done ((end + length f) ∷ [])) (lent_bytes (put b end f))

-- the frame f put at the record's end, which then is where it ends
abbrev pub added : Reel → List ℕ → List ℕ → ReelOutcome
added r f b =
    require fits r.end f b else keeps r NoRoom 0 (lent_bytes b) then
    builds (reel_of r.size (r.frames + 1) (r.end + length f) false) (leaves (done []) (lent_bytes (put b r.end f)))

-- refusal 18: "adding to a closed reel, a frame past 4,000"
abbrev pub add_ok : ℕ → Bool → Bool
add_ok frames closed = cond closed false (ltb frames max_frames)

-- "Writing: 18, 2, 1, 3", the record (4) after 1; "An add is handed the showing state and writes the house frame from it"
unfoldable pub add_frame : Reel → List ℕ → State → State → ReelOutcome
unfolding house_frame
add_frame reel bytes shown next =
    require add_ok reel.frames reel.closed else keeps reel WrongTime 0 (lent_bytes bytes) then
    require size_fits reel.size else keeps reel BadSize 0 (lent_bytes bytes) then
    require enough (area reel.size) shown && enough (area reel.size) next else keeps reel ShortSlice 0 (lent_bytes bytes) then
    require end_ok reel.end (length bytes) else keeps reel Cut 0 (lent_bytes bytes) then
    added reel (house_frame reel.size (front (area reel.size) shown) (front (area reel.size) next)) bytes
