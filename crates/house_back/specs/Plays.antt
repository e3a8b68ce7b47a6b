-- What sub-chunks and frames do to a picture and a palette, and a state of bytes.
use Rattle.std.specs.Prelude.{◌≡◌, List, ℕ, Ok}
use Rattle.words.specs.Words.{Bytes}
use Rattle.words.specs.Writes.{applied}
use Rattle.format.specs.declared.Size.{Size}
use Rattle.state.specs.State.{State, Exact}
use Rattle.read_chunk.specs.Chunk.{ChunkWalk}
use Rattle.read_frame.specs.Frame.{FrameWalk}

-- a sub-chunk with no fault that turns the picture p and the palette q into p' and q'
pub record Acts (c : ChunkWalk) (p q p' q' : List ℕ) : Type 0 where
  pub end : ℕ
  pub ended : c.verdict ≡ Ok end
  pub picture : applied c.pixels p ≡ p'
  pub palette : applied c.colours q ≡ q'

-- a frame that is accepted and turns the picture p and the palette q into p' and q'
pub record Plays (f : FrameWalk) (p q p' q' : List ℕ) : Type 0 where
  pub done : f.answer ≡ Ok tt
  pub picture : applied f.pixels p ≡ p'
  pub palette : applied f.colours q ≡ q'

-- a state of just that size whose pixels are bytes
pub record ByteState (z : Size) (s : State) : Type 0 where
  pub exact : Exact z s
  pub bytes : Bytes s.picture
