-- What the listing program has printed, as far as a contract can say it: none binds which bytes a call of C's reads or writes.
use Rattle.std.specs.Prelude.{ℕ, suc, ◌≤◌, ◌≡◌, List, length}
use Rattle.words.specs.Words.{Bytes}
use Rattle.list_chunks.specs.Listing.{LIST_INPUT, listing}

-- There is an input, of bytes, up to one more than is listed ("Input past that is refused 3, place 0"), whose listing has so many bytes.
pub record Printed (count : ℕ) : Type 0 where
  pub input : List ℕ
  pub bytes : Bytes input
  pub short : length input ≤ suc LIST_INPUT
  pub count_is : count ≡ length (listing input)
