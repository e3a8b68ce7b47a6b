-- What the contracts of the functions below `check_trailer` and `write_trailer` cite.
use Rattle.std.specs.Prelude.{ℕ, suc, ◌+◌, ◌*◌, ◌-◌, ◌≤◌, ◌≡◌, List, ◌++◌, length, replicate, take, Result, Ok, Err}
use Rattle.format.specs.Limits.{max_frames}
use Rattle.answer.specs.declared.Refused.{Refused}
use Rattle.chunks.specs.Spans.{HEADER_BYTES, top_frames}
use Rattle.reel_trailer.specs.declared.Whole.{Whole}
use Rattle.reel_trailer.specs.Trailer.{trailer_of, stopped, reel, trailer_walk}

-- a reel whose count frames were all met
pub record Walked (b : List ℕ) (count : ℕ) : Type 0 where
  pub long : HEADER_BYTES ≤ length b
  pub few : count ≤ suc max_frames
  pub met : (top_frames b count HEADER_BYTES).answer ≡ Ok tt

-- a reel of so many bytes at the front of b, whose count frames were all met
pub record Met (b : List ℕ) (size count : ℕ) : Type 0 where
  pub inside : size ≤ length b
  pub walked : Walked (take size b) count
  pub walk : trailer_walk b ≡ reel size (trailer_of (top_frames (take size b) count HEADER_BYTES).offsets)

-- what the walk over the reel at the front of b gives: how the walk for a trailer comes out
abbrev pub WholeReel : List ℕ → Result Whole Refused → Type 0
WholeReel b (Err e) = trailer_walk b ≡ stopped e.0 e.1
WholeReel b (Ok f) = Met b f.size f.count

-- the most bytes of an index and its trailer: 4 for each of the most frames and the ring, and 8
abbrev pub trailer_most : ℕ
trailer_most = 4 * suc max_frames + 8

-- t at the front of a buffer of so many zeros
unfoldable pub padded : List ℕ → List ℕ
padded t = t ++ replicate (trailer_most - length t) 0
