-- What is planned of a frame before it is written: what the contracts of the functions below `write_house` cite.
use Rattle.std.specs.Prelude.{List, [], ◌∷◌, false, not, ℕ, ltb, length, cond, ◌≡◌, Option, Some, None}
use Rattle.words.specs.Words.{le16, le32, same}
use Rattle.format.specs.declared.Size.{Size}
use Rattle.format.specs.Format.{FRAME_TYPE, FLI_COLOR256, FLI_BRUN}
use Rattle.house_delta.specs.Delta.{delta_kind, delta_body, delta_chunk}
use Rattle.house_full.specs.Edges.{all_edges}
use Rattle.house_full.specs.Full.{full_chunk, full_kind}
use Rattle.house_frame.specs.House.{colour_chunk}
use Rattle.house_frame.specs.declared.ChunkPlan.{ChunkPlan}
use Rattle.house_frame.specs.declared.DeltaPlan.{DeltaPlan}

-- a sub-chunk of a kind, of so many bytes
abbrev pub sized : ℕ → ℕ → ChunkPlan
sized kind size = record { kind = kind; size = size }

-- a sub-chunk of a kind, with the bytes b
abbrev pub planned : ℕ → List ℕ → ChunkPlan
planned kind b = sized kind (length b)

-- how many sub-chunks there are, and their bytes
abbrev pub plan_count : Option ChunkPlan → ℕ
plan_count None = 0
plan_count (Some c) = 1

abbrev pub plan_size : Option ChunkPlan → ℕ
plan_size None = 0
plan_size (Some c) = c.size

-- the sub-chunk, if there is one, is a BRUN chunk
abbrev pub OfBrun : Option ChunkPlan → Type 0
OfBrun None = ⊥
OfBrun (Some c) = c.kind ≡ FLI_BRUN

-- the plan of the colour chunk from one palette to the next: none where nothing changes
unfoldable pub colour_plan : List ℕ → List ℕ → Option ChunkPlan
unfolding colour_chunk
colour_plan previous next = cond (same previous next) None (Some (planned FLI_COLOR256 (colour_chunk previous next)))

-- the plan of the picture chunk from one picture to the next
unfoldable pub picture_plan : Size → List ℕ → List ℕ → Option ChunkPlan
unfolding delta_chunk
picture_plan z previous next =
    let delta = delta_chunk z previous next in
    let full = full_chunk z.width z.height next in
    cond (same previous next) None
    (Some (cond (ltb (length delta) (length full))
    (planned (delta_kind z.format) delta)
    (planned (full_kind z.width z.height next) full)))

-- the delta's plan, and whether a full chunk may be as short: not without a change, nor where the rows have more edges than the delta's body has bytes
unfoldable pub delta_plan : Size → List ℕ → List ℕ → DeltaPlan
unfolding delta_chunk
delta_plan z previous next =
    cond (same previous next)
    (record { chunk = None; search = false })
    (record {
      chunk = Some (planned (delta_kind z.format) (delta_chunk z previous next));
      search = not (ltb (length (delta_body z previous next)) (all_edges z.width z.height next));
    })

-- the plan of the delta, of so many bytes, or of the full chunk
unfoldable pub shorter_plan : Size → List ℕ → ℕ → ChunkPlan
shorter_plan z next delta =
    let full = full_chunk z.width z.height next in
    cond (ltb delta (length full))
    (sized (delta_kind z.format) delta)
    (planned (full_kind z.width z.height next) full)

-- a frame's header: size, type F1FA, count, "the 8 reserved bytes are 0"
unfoldable pub header_bytes : ℕ → ℕ → List ℕ
header_bytes size count = le32 size (le16 FRAME_TYPE (le16 count (0 ∷ 0 ∷ 0 ∷ 0 ∷ 0 ∷ 0 ∷ 0 ∷ 0 ∷ [])))
