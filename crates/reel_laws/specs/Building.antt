-- A reel's making as a whole, an open, adds and a close, and what the closed reel shows.
use Rattle.std.specs.Prelude.{ℕ, suc, ◌+◌, ◌*◌, ◌≤◌, ◌<◌, List, [], ◌∷◌, ◌++◌, true, ◌≡◌, length, take, Ok}
use Rattle.words.specs.Words.{Bytes}
use Rattle.format.specs.Limits.{area}
use Rattle.format.specs.declared.Format.{Format}
use Rattle.format.specs.declared.Format.TheVariants.{Flc, Fli}
use Rattle.format.specs.declared.Size.{Size}
use Rattle.delay.specs.Delay.{milliseconds}
use Rattle.answer.specs.Answer.{done, refused, number}
use Rattle.answer.specs.declared.Refusal.TheVariants.{NoRoom}
use Rattle.state.specs.State.{State, blank, front, enough}
use Rattle.state.specs.Outcome.{lent_bytes, leaves}
use Rattle.chunks.specs.declared.Layout.TheVariants.{Loose}
use Rattle.chunks.specs.Spans.{HEADER_BYTES, next_at, frame_to}
use Rattle.house_frame.specs.House.{frame_most}
use Rattle.reel_header.specs.Head.{delay_in, head_of, head_with}
use Rattle.reel_header.specs.declared.Takes.TheVariants.{Both}
use Rattle.reel_header.specs.Written.{header_in}
use Rattle.reel_check.specs.Check.{check_reel}
use Rattle.reel_build.specs.declared.Reel.{Reel}
use Rattle.reel_build.specs.Record.{reel_of, ReelOutcome, builds}
use Rattle.reel_build.specs.Building.{open_reel, open_fli, add_frame}
use Rattle.reel_close.specs.Closing.{close_reel}
use Rattle.reel_laws.specs.Laps.{last_of, Reads, LeadsBack}

-- an open by the format: an FLC's is told the delay in milliseconds, an FLI's in jiffies
abbrev pub open_in : Format → ℕ → ℕ → ℕ → List ℕ → ReelOutcome
open_in Flc w h delay b = open_reel w h (milliseconds delay) b
open_in Fli w h delay b = open_fli w h delay b

module _ (z : Size) (delay : ℕ) where
  -- Bytes and a record that came from an open and adds, "no byte or record .. altered" in between, "each accepted add .. handed the one the last
  -- accepted add asked for, blank at first"; the list: the states asked for by the accepted adds, in order. A picture's bytes are bytes, as in every
  -- lent slice.
  pub data Making : List ℕ → Reel → List State → Type 0 where
    opening : (b : List ℕ) {b' : List ℕ} {r : Reel} → open_in z.format z.width z.height delay b ≡ builds r (leaves (done []) (lent_bytes b')) → Making b' r []
    adding : {b b' : List ℕ} {r r' : Reel} {asked : List State} → Making b r asked → (shown next : State) → Bytes next.picture
        → front (area z) shown ≡ last_of (blank (area z)) asked → add_frame r b shown next ≡ builds r' (leaves (done []) (lent_bytes b'))
        → Making b' r' (asked ++ (front (area z) next ∷ []))
    -- between calls the bytes may be moved or lent anew: those up to the record's end are the same, the rest is free
    moving : {b : List ℕ} {r : Reel} {asked : List State} → Making b r asked → (b' : List ℕ) → take r.end b' ≡ take r.end b → Making b' r asked
    refusing : {b : List ℕ} {r : Reel} {asked : List State} → Making b r asked → (shown next : State) (number place : ℕ)
        → (add_frame r b shown next).left.said ≡ refused number place
        → Making (add_frame r b shown next).left.memory.bytes (add_frame r b shown next).reel asked

  -- What a closed reel is, of which first and rest were asked for: b the file, r its record.
  pub record Finished (first : State) (rest : List State) (b : List ℕ) (r : Reel) : Type 0 where
    -- the record is closed, and its end is the file's size
    pub long : length b ≡ r.end
    pub record_is : r ≡ reel_of z (suc (length rest)) r.end true
    -- the header, field by field
    pub second : ℕ
    pub header : take HEADER_BYTES b ≡ header_in z.format r.end (suc (length rest)) z.width z.height delay second
    -- "Speed is the caller's", a number of 32 bits
    pub header_read : delay < 4294967296 → head_of Both b ≡ Ok (head_with z (suc (length rest)) r.end (delay_in z.format delay))
    -- "oframe1 128, oframe2 the second frame chunk (the ring, if there is one frame)"
    pub oframe1_is : next_at Loose b HEADER_BYTES ≡ Ok (frame_to HEADER_BYTES second)
    pub third : ℕ
    pub oframe2_is : next_at Loose b second ≡ Ok (frame_to second third)
    -- "The closed reel shows every state asked for", and its ring the first of them
    pub shows : Reads z b HEADER_BYTES (blank (area z)) (first ∷ (rest ++ (first ∷ [])))
    -- the check of the whole reel accepts it
    pub accepted : (p q : State) → enough (area z) p ≡ true → enough (area z) q ≡ true → (check_reel b p q).said ≡ done []

-- Room for a reel of so many frames: what include/flic.h says, "128 + (n + 1) * FLIC_FRAME_MOST bytes".
abbrev pub reel_most : ℕ → ℕ
reel_most frames = HEADER_BYTES + suc frames * frame_most

-- With room for one frame more than were asked for no add is refused 3, and no close.
pub record RoomEnough (z : Size) (b : List ℕ) (r : Reel) (asked : List State) : Type 0 where
  pub adds : reel_most (length asked) ≤ length b → (shown next : State) (place : ℕ) → (add_frame r b shown next).left.said ≡ refused (number NoRoom) place → ⊥
  pub closes : reel_most (length asked) ≤ length b → (first second : State) (place : ℕ) → (close_reel r b first second).left.said ≡ refused (number NoRoom) place → ⊥

-- A file that every lap of which shows the same: b the file that a close has made, r its record.
pub record ClosedFile (b : List ℕ) (r : Reel) : Type 0 where
  pub long : length b ≡ r.end
  -- the check of the whole reel accepts it
  pub accepted : (p q : State) → enough (area r.size) p ≡ true → enough (area r.size) q ≡ true → (check_reel b p q).said ≡ done []
  -- and its ring leads back to frame 1's picture and palette, on every lap
  pub leads_back : LeadsBack b
