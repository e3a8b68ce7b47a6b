-- How many bytes of a frame are packets of pixels, by the headers of its sub-chunks. Only inner contracts cite this: how many passes a
-- frame is read in doesn't bear on what is read.
use Rattle.std.specs.Prelude.{ℕ, ◌+◌, ◌-◌, ◌||◌, cond, List, [], ◌∷◌, eqb}
use Rattle.format.specs.Format.{FLI_SS2, FLI_LC, FLI_BRUN}
use Rattle.chunks.specs.Spans.{Span}

-- a sub-chunk of so many bytes: all of them, if its body is made of packets of pixels
unfoldable pub packets_in : ℕ → ℕ → ℕ
packets_in kind bytes = cond (eqb kind FLI_SS2 || (eqb kind FLI_LC || eqb kind FLI_BRUN)) bytes 0

-- the bytes of such sub-chunks, headers counted too
unfoldable pub packet_bytes : List Span → ℕ
unfolding packets_in
packet_bytes [] = 0
packet_bytes (s ∷ ss) = packets_in s.kind (s.end - s.from) + packet_bytes ss
