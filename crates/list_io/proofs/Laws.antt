-- A listing that was stored, of an input that was read to the front of a room for it, and how long it can be.
use Prim.Native.Nat.{ℕ, suc, ◌≤◌}
use mathlib.Core.List.{List}
use native.Mathlib.Omega.{arith}
use lib.ListN.{length, take}
use lib.Seq.{length-take-le}
use Rattle.words.specs.Words.{Bytes}
use Rattle.words.proofs.Laws.{bytes_take}
use Rattle.list_text.specs.Stored.{Stored}
use Rattle.list_text.proofs.Resumes.{stored_whole}
use Rattle.list_chunks.specs.Listing.{LIST_INPUT, listing}
use Rattle.list_chunks.specs.Room.{list_most}
use Rattle.list_chunks.proofs.Short.{listing_short}
use Rattle.list_io.specs.Printed.{Printed}

-- n: how many bytes were read
pub printed : (room : List ℕ) (n : ℕ) {d e : List ℕ} {r : ℕ} → Bytes room → length room ≤ suc LIST_INPUT → n ≤ length room
    → Stored d 0 (listing (take n room)) e r → Printed r
printed room n b h k s =
    record { input = take n room; bytes = bytes_take n room b; short = omega (arith, length-take-le n room k); count_is = stored_whole s }

-- no more than the room for any listing
pub printed_short : {r : ℕ} → Printed r → r ≤ list_most
printed_short p = omega (arith, p.count_is, listing_short p.input p.bytes)
