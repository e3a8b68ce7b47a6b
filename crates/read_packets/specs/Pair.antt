-- Packets that copy one pair, as most of a dense delta do. Only inner contracts cite this: what such a packet is follows from
-- `packet_at` (`pair_whole`).
use Rattle.std.specs.Prelude.{ℕ, ◌+◌, Bool, ◌&&◌, List, length, get_or, leb, eqb}

-- whether a packet of type t copies one pair
unfoldable pub one_pair : ℕ → ℕ → Bool
one_pair unit t = eqb unit 2 && eqb t 1

-- whether the packet at offset at, the row being at column x, copies one pair that lies in the body and in the row
unfoldable pub pair_at : ℕ → ℕ → List ℕ → ℕ → ℕ → Bool
unfolding one_pair
pair_at unit w b at x = leb (at + 4) (length b) && (one_pair unit (get_or b (at + 1) 0) && leb (x + get_or b at 0 + 2) w)
