-- House form of a frame (document 01, "House form of a frame"), "Written from a previous and a next state".
use Rattle.std.specs.Prelude.{ℕ, ◌+◌, ltb, length, cond}
use mathlib.Core.List.{List, [], ◌∷◌, ◌++◌, flatten}
use Rattle.words.specs.Words.{le16, le32, chunk, same}
use Rattle.state.specs.State.{State}
use Rattle.format.specs.Limits.{max_area}
use Rattle.format.specs.declared.Size.{Size}
use Rattle.format.specs.Format.{FRAME_TYPE, FLI_COLOR256}
use Rattle.house_colour.specs.Colours.{colour_body, colour_most}
use Rattle.house_delta.specs.Delta.{delta_chunk}
use Rattle.house_full.specs.Full.{full_chunk}

-- "Colour: kind 4"
unfoldable pub colour_chunk : List ℕ → List ℕ → List ℕ
colour_chunk previous next = chunk FLI_COLOR256 (colour_body previous next)

-- "The delta is used when strictly shorter than the full chunk"
unfoldable pub picture_chunk : Size → List ℕ → List ℕ → List ℕ
unfolding delta_chunk
picture_chunk z previous next =
    let delta = delta_chunk z previous next in
    let full = full_chunk z.width z.height next in
    cond (ltb (length delta) (length full)) delta full

-- "none without a change": c, unless previous and next are the same
abbrev pub changed : List ℕ → List ℕ → List ℕ → List (List ℕ)
changed previous next c = cond (same previous next) [] (c ∷ [])

-- "at most two sub-chunks, colour first, none without a change"
unfoldable pub house_chunks : Size → State → State → List (List ℕ)
unfolding colour_chunk picture_chunk
house_chunks z previous next =
    changed previous.palette next.palette (colour_chunk previous.palette next.palette)
    ++ changed previous.picture next.picture (picture_chunk z previous.picture next.picture)

-- a frame of sub-chunks: size, type F1FA, count, "the 8 reserved bytes are 0", the sub-chunks
unfoldable pub framed : List (List ℕ) → List ℕ
framed subs =
    le32 (16 + length (flatten subs))
    (le16 FRAME_TYPE (le16 (length subs) (0 ∷ 0 ∷ 0 ∷ 0 ∷ 0 ∷ 0 ∷ 0 ∷ 0 ∷ flatten subs)))

-- the house frame that leads from the previous state to the next
unfoldable pub house_frame : Size → State → State → List ℕ
unfolding house_chunks framed
house_frame z previous next = framed (house_chunks z previous next)

-- it has no more bytes: its header, a colour chunk, and a picture chunk, which is no longer than the picture's copy
abbrev pub colour_chunk_most : ℕ
colour_chunk_most = 6 + colour_most

abbrev pub picture_most : ℕ
picture_most = 6 + max_area

abbrev pub frame_most : ℕ
frame_most = 16 + colour_chunk_most + picture_most
