-- Lists of bytes, and writes of bytes: what is made of bytes holds bytes.
use mathlib.Core.List.{List, [], ◌∷◌, ◌++◌}
use Prim.Native.Nat.{ℕ, suc, zero, ◌<◌, ◌+◌}
use lib.ListN.{length, take, drop, replicate}
use Rattle.words.specs.Words.{Bytes}
use Rattle.words.specs.Writes.{Write, put, applied}
use Rattle.words.proofs.Laws.{bytes_take, bytes_drop}

-- lists of bytes

pub bytes_join : (xs ys : List ℕ) → Bytes xs → Bytes ys → Bytes (xs ++ ys)
bytes_join [] ys h k = k
bytes_join (x ∷ xs) ys h k = (h.0, bytes_join xs ys h.1 k)

pub bytes_replicate : (n x : ℕ) → x < 256 → Bytes (replicate n x)
bytes_replicate zero x h = tt
bytes_replicate (suc n) x h = (h, bytes_replicate n x h)

pub bytes_put : (d : List ℕ) (at : ℕ) (v : List ℕ) → Bytes d → Bytes v → Bytes (put d at v)
bytes_put d at v h k =
    bytes_join (take at d) (v ++ drop (at + length v) d) (bytes_take at d h) (bytes_join v (drop (at + length v) d) k (bytes_drop (at + length v) d h))

-- writes of bytes

abbrev pub Bytewise : List Write → Type 0
Bytewise [] = Unit {0}
Bytewise (w ∷ ws) = Bytes w.bytes × Bytewise ws

pub bytewise_append : (ws vs : List Write) → Bytewise ws → Bytewise vs → Bytewise (ws ++ vs)
bytewise_append [] vs i j = j
bytewise_append (w ∷ ws) vs i j = (i.0, bytewise_append ws vs i.1 j)

-- they keep a list of bytes one
pub bytes_applied : (ws : List Write) (d : List ℕ) → Bytewise ws → Bytes d → Bytes (applied ws d)
unfolding applied
bytes_applied [] d i h = h
bytes_applied (w ∷ ws) d i h = bytes_applied ws (put d w.at w.bytes) i.1 (bytes_put d w.at w.bytes h i.0)
