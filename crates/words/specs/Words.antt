-- Signed bytes, little-endian words in a list of bytes and in front of one, a chunk, and a chain of checks.
use Rattle.std.specs.Prelude.{ℕ, ◌+◌, ◌*◌, ◌-◌, ◌/◌, ◌%◌, ◌<◌, List, [], ◌∷◌, Bool, true, false, cond, ◌≡◌, length, get_or, take, drop, eqb, ltb}

-- A chain of checks in the paper's order: what is refused where the test fails, then what comes after.
infixr 5 require◌else◌then◌
abbrev pub require◌else◌then◌ : {X : Type 0} → Bool → X → X → X
require t else e then x = cond t x e

-- the absolute value of a signed byte: 128 to 255 stand for -128 to -1
unfoldable pub magnitude : ℕ → ℕ
magnitude t = cond (ltb t 128) t (256 - t)

-- the 16-bit word at offset i
unfoldable pub u16_at : List ℕ → ℕ → ℕ
u16_at b i = get_or b i 0 + 256 * get_or b (i + 1) 0

-- the 32-bit word at offset i
unfoldable pub u32_at : List ℕ → ℕ → ℕ
unfolding u16_at
u32_at b i = u16_at b i + 65536 * u16_at b (i + 2)

-- r is that word; the bound is what a caller's sums ask
pub record Word16 (b : List ℕ) (i r : ℕ) : Type 0 where
  pub value : r ≡ u16_at b i
  pub small : r < 65536

pub record Word32 (b : List ℕ) (i r : ℕ) : Type 0 where
  pub value : r ≡ u32_at b i
  pub small : r < 4294967296

-- the bytes from offset a up to, not including, offset e
abbrev pub part : List ℕ → ℕ → ℕ → List ℕ
part b a e = take (e - a) (drop a b)

-- a 16-bit and a 32-bit word in front of b
abbrev pub le16 : ℕ → List ℕ → List ℕ
le16 x b = x % 256 ∷ x / 256 ∷ b

abbrev pub le32 : ℕ → List ℕ → List ℕ
le32 x b = x % 256 ∷ x / 256 % 256 ∷ x / 256 / 256 % 256 ∷ x / 256 / 256 / 256 % 256 ∷ b

-- a chunk: "size 4 and type 2", the size with its header included, then the body
unfoldable pub chunk : ℕ → List ℕ → List ℕ
chunk kind body = le32 (6 + length body) (le16 kind body)

-- whether two lists hold the same bytes
unfoldable pub same : List ℕ → List ℕ → Bool
same [] [] = true
same [] (y ∷ ys) = false
same (x ∷ xs) [] = false
same (x ∷ xs) (y ∷ ys) = cond (eqb x y) (same xs ys) false

-- each number is a byte
abbrev pub Bytes : List ℕ → Type 0
Bytes [] = Unit {0}
Bytes (x ∷ xs) = (x < 256) × Bytes xs
