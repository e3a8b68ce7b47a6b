-- "After the size may stand an index .. then at the very end a trailer" (document 01, "Reels and the trailer").
use Rattle.std.specs.Prelude.{ℕ, suc, ◌+◌, ◌*◌, List, [], ◌∷◌, ◌++◌, ◌||◌, leb, length, take, drop, Ok, Err}
use Rattle.words.specs.Words.{require◌else◌then◌, le16, le32, same}
use Rattle.words.specs.Writes.{put}
use Rattle.answer.specs.Answer.{Said, done, refused, number, Answer}
use Rattle.answer.specs.declared.Refusal.{Refusal}
use Rattle.answer.specs.declared.Refusal.TheVariants.{NoRoom, BadTrailer}
use Rattle.state.specs.Outcome.{Outcome, lent_bytes, leaves, refuse}
use Rattle.chunks.specs.Spans.{HEADER_BYTES, Found, top_frames}
use Rattle.reel_header.specs.Head.{head_of, Headed}
use Rattle.reel_header.specs.declared.Takes.TheVariants.{FlcOnly}

-- "an index: 4 bytes for each frame's offset, ring included"
unfoldable pub index : List ℕ → List ℕ
index [] = []
index (o ∷ os) = le32 o (index os)

-- "then at the very end a trailer: distance from the file's end to the index (4), entries (2), edition 1 (2)"
unfoldable pub trailer_of : List ℕ → List ℕ
unfolding index
trailer_of os = index os ++ le32 (4 * length os + 8) (le16 (length os) (le16 1 []))

-- "Checking or writing a trailer first walks the header and top-level chunks with their refusals": the first refusal with its place, or the reel's
-- size and the trailer that belongs behind it
pub data TrailerWalk : Type 0 where
  stopped : Refusal → ℕ → TrailerWalk
  reel : ℕ → List ℕ → TrailerWalk

abbrev pub after_frames : ℕ → List ℕ → Answer → TrailerWalk
after_frames size offsets (Ok u) = reel size (trailer_of offsets)
after_frames size offsets (Err r) = stopped r.0 r.1

-- frames + 1 of them, up to the size
abbrev pub frames_of : List ℕ → ℕ → ℕ → Found
frames_of bytes frames size = top_frames (take size bytes) (suc frames) HEADER_BYTES

abbrev pub after_head : List ℕ → Headed → TrailerWalk
after_head bytes (Err e) = stopped e 0
after_head bytes (Ok h) = after_frames h.size (frames_of bytes h.frames h.size).offsets (frames_of bytes h.frames h.size).answer

-- "trailers and later work that checks a trailer stay FLC" (document 02, Req 06)
unfoldable pub trailer_walk : List ℕ → TrailerWalk
unfolding head_of top_frames trailer_of
trailer_walk bytes = after_head bytes (head_of FlcOnly bytes)

-- "No bytes after the size is also right. All else is 17"
abbrev pub checked_after : List ℕ → TrailerWalk → Said
checked_after bytes (stopped e place) = refused (number e) place
checked_after bytes (reel size trailer) =
    require leb (length bytes) size || same (drop size bytes) trailer else refused (number BadTrailer) 0 then
    done []

unfoldable pub check_trailer : List ℕ → Said
unfolding trailer_walk
check_trailer bytes = checked_after bytes (trailer_walk bytes)

-- "The index begins at the size", all else is unchanged; "Writing gives 3 last"; done gives the file's new length
abbrev pub written_after : List ℕ → TrailerWalk → Outcome
written_after bytes (stopped e place) = refuse e place (lent_bytes bytes)
written_after bytes (reel size trailer) =
    require leb (size + length trailer) (length bytes) else refuse NoRoom 0 (lent_bytes bytes) then
    leaves (done ((size + length trailer) ∷ [])) (lent_bytes (put bytes size trailer))

unfoldable pub write_trailer : List ℕ → Outcome
unfolding trailer_walk
write_trailer bytes = written_after bytes (trailer_walk bytes)
