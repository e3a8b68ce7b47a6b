-- The encodings of a row are what the reader takes for it: so leastness, the tie rule and uniqueness of the row rule (house_rows/specs/RowRule) speak of
-- what the reader accepts.
use Rattle.std.specs.Prelude.{◌≡◌, List, ℕ, length, Ok}
use Rattle.words.specs.Words.{Bytes}
use Rattle.read_brun.specs.Brun.{packets}
use Rattle.house_rows.specs.Row.{Encodes}

-- of all bytes bs and rows s: bs encodes s exactly when the reader's own packets of a row as wide as s end at the last byte with those pixels
pub record RowReader (bs s : List ℕ) : Type 0 where
  pub encoded_is_read : Encodes bs s → packets bs (length s) 0 0 ≡ record { pixels = s; verdict = Ok (length bs) }
  pub read_is_encoded : Bytes bs → packets bs (length s) 0 0 ≡ record { pixels = s; verdict = Ok (length bs) } → Encodes bs s
