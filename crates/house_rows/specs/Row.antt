-- A BRUN row's packets, and the house row: document 01, "House form of a frame", "Full chunks".
-- A packet is a repeat or a copy, and its length; the pixels that it carries are the row's.
use Rattle.std.specs.Prelude.{List, [], ◌∷◌, ◌++◌, ℕ, zero, suc, ◌+◌, ◌-◌, ◌≤◌, min, eqb, length, get_or, drop, take, replicate, cond}
use Rattle.house_least.specs.Least.{best}

-- "n from 1 to 127 repeats one pixel n times; minus n, to minus 128, copies n pixels"
pub data RowPacket : Type 0 where
  repeat : ℕ → RowPacket
  copy : ℕ → RowPacket

-- the pixels that a packet writes
abbrev pub span : RowPacket → ℕ
span (repeat n) = n
span (copy n) = n

-- the bytes that it takes: a type byte, and one pixel or all
abbrev pub size : RowPacket → ℕ
size (repeat n) = 2
size (copy n) = 1 + n

-- the bytes of packets that stand for the row s
unfoldable pub bytes : List RowPacket → List ℕ → List ℕ
bytes [] s = []
bytes (repeat n ∷ ps) s = n ∷ (get_or s 0 0 ∷ bytes ps (drop n s))
bytes (copy n ∷ ps) s = (256 - n) ∷ (take n s ++ bytes ps (drop n s))

-- "a repeat before a copy, then the longest"
abbrev pub Before : RowPacket → RowPacket → Type 0
Before (repeat n) (repeat k) = k ≤ n
Before (repeat n) (copy k) = Unit {0}
Before (copy n) (repeat k) = ⊥
Before (copy n) (copy k) = k ≤ n

-- how many pixels at the front of s are v
unfoldable pub equal : ℕ → List ℕ → ℕ
equal v [] = 0
equal v (x ∷ s) = cond (eqb v x) (suc (equal v s)) 0

-- f n, and so on down to f 1
unfoldable pub down : (ℕ → RowPacket) → ℕ → List RowPacket
down f zero = []
down f (suc n) = f (suc n) ∷ down f n

-- the packets that may come first where s is left, in the order of preference
unfoldable pub allowed : List ℕ → List RowPacket
allowed [] = []
allowed (v ∷ s) = down repeat (min 127 (suc (equal v s))) ++ down copy (min 128 (suc (length s)))

-- the house row, "packets of least total bytes": of the packets that begin a least encoding the first, and so on
unfoldable pub house : List ℕ → List RowPacket
house s = (best span size allowed s).path

unfoldable pub house_bytes : List ℕ → List ℕ
house_bytes s = bytes (house s) s

-- bs is some encoding of the pixels s, as a reader takes it
pub data Encodes : List ℕ → List ℕ → Type 0 where
  none : Encodes [] []
  repeated : {bs s : List ℕ} (n v : ℕ) → 1 ≤ n → n ≤ 127 → Encodes bs s → Encodes (n ∷ (v ∷ bs)) (replicate n v ++ s)
  copied : {bs s : List ℕ} (vs : List ℕ) → 1 ≤ length vs → length vs ≤ 128 → Encodes bs s → Encodes ((256 - length vs) ∷ (vs ++ bs)) (vs ++ s)
