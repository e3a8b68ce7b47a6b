-- Demand 3 of the mission, in terms of `rewrite_frame`, which the contract of `rewrite_frame` equates with the code.
-- Its words are those of document 01, "Words of demand 3". The theorem is `demand3` (proofs/Demand3.antt).
use Rattle.std.specs.Prelude.{ℕ, ◌-◌, ◌≤◌, ◌≡◌, List, [], ◌∷◌, eqb, length, take, cond, Ok, Err}
use Rattle.words.specs.Words.{u32_at, Bytes}
use Rattle.answer.specs.Answer.{Said, done, refused}
use Rattle.state.specs.State.{State, front}
use Rattle.state.specs.Outcome.{Outcome}
use Rattle.format.specs.Limits.{area}
use Rattle.format.specs.declared.Size.{Size}
use Rattle.format.specs.Format.{FLI_COLOR256, FLI_BLACK, FLI_BRUN, FLI_COPY}
use Rattle.chunks.specs.Headers.{frame_header, Whole}
use Rattle.chunks.specs.Spans.{Span, sub_spans}
use Rattle.read_frame.specs.Reading.{read_frame}
use Rattle.house_frame.specs.House.{frame_most}
use Rattle.house_rewrite.specs.Rewriting.{rewrite_frame}

-- "Room enough: no lent slice is so short that 1 or 3 is given"
pub record RoomEnough (o : Outcome) : Type 0 where
  pub no_short_slice : (place : ℕ) → o.said ≡ refused 1 place → ⊥
  pub no_short_output : (place : ℕ) → o.said ≡ refused 3 place → ⊥

-- the bytes that a rewrite wrote
abbrev pub written_of : Said → List ℕ → List ℕ
written_of (done []) out = []
written_of (done (n ∷ ns)) out = take n out
written_of (refused n place) out = []

abbrev pub bytes_written : Outcome → List ℕ
bytes_written o = written_of o.said o.memory.bytes

-- a sub-chunk: its kind and its size
pub record Sub : Type 0 where
  pub kind : ℕ
  pub size : ℕ

abbrev pub sized : List Span → List Sub
sized [] = []
sized (s ∷ ss) = record { kind = s.kind; size = s.end - s.from } ∷ sized ss

-- n sub-chunks from offset at on
unfoldable pub subs_at : List ℕ → ℕ → ℕ → List Sub
unfolding sub_spans
subs_at b n at = sized (sub_spans b n at).met

-- the sub-chunks of a frame
abbrev pub after_whole : List ℕ → Whole → List Sub
after_whole b (Err e) = []
after_whole b (Ok h) = subs_at (take h.size b) h.count 16

unfoldable pub subs_of : List ℕ → List Sub
unfolding frame_header subs_at
subs_of b = after_whole b (frame_header b)

-- "A picture chunk is a sub-chunk not of kind 4"
unfoldable pub pictured : List Sub → List Sub
pictured [] = []
pictured (k ∷ ks) = cond (eqb k.kind FLI_COLOR256) (pictured ks) (k ∷ pictured ks)

-- BLACK, BRUN or COPY
pub data FullKind : ℕ → Type 0 where
  black : FullKind FLI_BLACK
  brun : FullKind FLI_BRUN
  copy : FullKind FLI_COPY

-- "Fix a size, a previous picture and a previous palette"; the size has the format: "its two frames are both FLC or both FLI" (document 02, Req 06)
module _ (z : Size) (previous : State) where
  -- a frame "that the reader accepts there"
  abbrev pub Accepted : List ℕ → Type 0
  Accepted b = (read_frame b z previous).said ≡ done []

  -- the next state, "over width times height pixels and 768 palette bytes"
  unfoldable pub next : List ℕ → State
  unfolding read_frame
  next b = front (area z) (read_frame b z previous).memory.first

  -- the rewrite of a frame, with what the working pair and the output held before
  abbrev pub rewrite : List ℕ → State → List ℕ → Outcome
  rewrite b work out = rewrite_frame b z previous work out

  pub record Demand3 : Type 0 where
    -- room enough can be had: a working pair that holds a picture and a palette, and an output of as many bytes as a house frame may have
    pub room_can_be_had : (b : List ℕ) (work : State) (out : List ℕ) → Bytes b → Accepted b
        → area z ≤ length work.picture → 768 ≤ length work.palette → frame_most ≤ length out → RoomEnough (rewrite b work out)
    -- "For every two frames that the reader accepts there, and whatever the output and the working pictures and palettes held before,
    -- rewriting each in house form is done"; "The bytes written are the whole frame's, as many as its size field says"
    pub rewriting_is_done : (b : List ℕ) (work : State) (out : List ℕ) → Bytes b → Accepted b → RoomEnough (rewrite b work out)
        → (n : ℕ) × ((rewrite b work out).said ≡ done (n ∷ [])) × (length (bytes_written (rewrite b work out)) ≡ n) × (u32_at (bytes_written (rewrite b work out)) 0 ≡ n)
    -- "The bytes written are equal exactly when both frames give the same next picture and palette"
    pub same_bytes_same_state : (b : List ℕ) (work : State) (out b' : List ℕ) (work' : State) (out' : List ℕ)
        → Bytes b → Accepted b → RoomEnough (rewrite b work out) → Bytes b' → Accepted b' → RoomEnough (rewrite b' work' out')
        → (bytes_written (rewrite b work out) ≡ bytes_written (rewrite b' work' out') → next b ≡ next b')
        × (next b ≡ next b' → bytes_written (rewrite b work out) ≡ bytes_written (rewrite b' work' out'))
    -- "Rewriting what was written, against the same previous picture and palette, is done too and gives those same bytes"
    pub written_is_accepted : (b : List ℕ) (work : State) (out : List ℕ) → Bytes b → Accepted b → RoomEnough (rewrite b work out) → Accepted (bytes_written (rewrite b work out))
    pub rewriting_again : (b : List ℕ) (work : State) (out : List ℕ) (work' : State) (out' : List ℕ) → Bytes b → Accepted b → RoomEnough (rewrite b work out)
        → RoomEnough (rewrite (bytes_written (rewrite b work out)) work' out')
        → ((n : ℕ) × ((rewrite (bytes_written (rewrite b work out)) work' out').said ≡ done (n ∷ [])))
        × (bytes_written (rewrite (bytes_written (rewrite b work out)) work' out') ≡ bytes_written (rewrite b work out))
    -- "If the picture changes, the rewritten frame has one picture chunk"
    pub one_picture_chunk : (b : List ℕ) (work : State) (out : List ℕ) → Bytes b → Accepted b → RoomEnough (rewrite b work out)
        → ((next b).picture ≡ take (area z) previous.picture → ⊥) → (k : Sub) × (pictured (subs_of (bytes_written (rewrite b work out))) ≡ k ∷ [])
    -- "and every single BLACK, BRUN or COPY chunk that gives that picture has at least as many bytes": "A single chunk gives a picture if a frame
    -- holding only that sub-chunk, read against the previous state, is accepted and leaves that picture"
    pub no_full_chunk_shorter : (b : List ℕ) (work : State) (out : List ℕ) → Bytes b → Accepted b → RoomEnough (rewrite b work out)
        → ((next b).picture ≡ take (area z) previous.picture → ⊥) → (k : Sub) → pictured (subs_of (bytes_written (rewrite b work out))) ≡ k ∷ []
        → (c : List ℕ) (kind size : ℕ) → FullKind kind → Accepted c → subs_of c ≡ record { kind = kind; size = size } ∷ [] → (next c).picture ≡ (next b).picture
        → k.size ≤ size
