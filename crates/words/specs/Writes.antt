-- Bytes stored in a list of bytes: what a chunk does to a picture or a palette.
use Rattle.std.specs.Prelude.{ℕ, ◌+◌, List, [], ◌∷◌, ◌++◌, length, take, drop}

-- bytes stored from index at on
pub record Write : Type 0 where
  pub at : ℕ
  pub bytes : List ℕ

-- d with v stored from index at on
abbrev pub put : List ℕ → ℕ → List ℕ → List ℕ
put d at v = take at d ++ (v ++ drop (at + length v) d)

-- d after the writes ws, done in order
unfoldable pub applied : List Write → List ℕ → List ℕ
applied [] d = d
applied (w ∷ ws) d = applied ws (put d w.at w.bytes)
