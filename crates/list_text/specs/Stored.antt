-- What the contracts of functions that store text cite.
use Rattle.std.specs.Prelude.{ℕ, ◌+◌, ◌≡◌, List, length}
use Rattle.words.specs.Writes.{put}

-- t was stored in d from offset at on, which gave e; r is where it ends
pub record Stored (d : List ℕ) (at : ℕ) (t e : List ℕ) (r : ℕ) : Type 0 where
  pub bytes : e ≡ put d at t
  pub end : r ≡ at + length t
