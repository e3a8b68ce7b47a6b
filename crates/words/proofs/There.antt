-- Where bytes lie in a list whose front is known: what reading back goes by.
use mathlib.Core.Path.{◌≡◌, refl, sym, ap, ap₂, ◌∙◌}
use mathlib.Core.List.{List, [], ◌∷◌, ◌++◌}
use Prim.Native.Nat.{ℕ, ◌+◌, ◌*◌, ◌/◌, ◌%◌, ◌≤◌, ◌<◌}
use native.Mathlib.Nat.{add-zero}
use native.Mathlib.Omega.{arith}
use lib.ListN.{length, take, drop, get_or, length-drop}
use lib.Seq.{take_at, drop_at, drop-drop, get_or-drop}
use Rattle.words.specs.Words.{u16_at, u32_at, le16, le32}
use Rattle.words.specs.Writes.{put}

-- where b from offset at on is v and then z
pub there_drop : (b v z : List ℕ) (at n : ℕ) → drop at b ≡ v ++ z → length v ≡ n → drop (at + n) b ≡ z
there_drop b v z at n e l = sym (drop-drop n at b) ∙ ap (λ (q : List ℕ). drop n q) e ∙ drop_at v z n l

pub there_take : (b v z : List ℕ) (at n : ℕ) → drop at b ≡ v ++ z → length v ≡ n → take n (drop at b) ≡ v
there_take b v z at n e l = ap (λ (q : List ℕ). take n q) e ∙ take_at v z n l

pub there_byte : (b z : List ℕ) (at n x : ℕ) → drop at b ≡ z → get_or z n 0 ≡ x → get_or b (at + n) 0 ≡ x
there_byte b z at n x e f = sym (get_or-drop at b n 0) ∙ ap (λ (q : List ℕ). get_or q n 0) e ∙ f

pub there_long : (b z : List ℕ) (at n : ℕ) → drop at b ≡ z → 1 ≤ n → n ≤ length z → at + n ≤ length b
there_long b z at n e s h = omega (arith, length-drop at b, ap length e)

-- a word behind the front
pub drop_word : (b : List ℕ) (at i : ℕ) → u16_at (drop at b) i ≡ u16_at b (at + i)
unfolding u16_at
drop_word b at i =
    let k : at + (i + 1) ≡ at + i + 1 = omega arith in
    ap₂ (λ (x y : ℕ). x + 256 * y) (get_or-drop at b i 0) (get_or-drop at b (i + 1) 0 ∙ ap (λ (j : ℕ). get_or b j 0) k)

pub drop_word32 : (b : List ℕ) (at i : ℕ) → u32_at (drop at b) i ≡ u32_at b (at + i)
unfolding u32_at
drop_word32 b at i =
    let k : at + (i + 2) ≡ at + i + 2 = omega arith in
    ap₂ (λ (x y : ℕ). x + 65536 * y) (drop_word b at i) (drop_word b at (i + 2) ∙ ap (u16_at b) k)

-- the word whose two bytes stand there
pub there_word : (b more : List ℕ) (at lo hi x : ℕ) → drop at b ≡ lo ∷ hi ∷ more → lo + 256 * hi ≡ x → u16_at b at ≡ x
unfolding u16_at
there_word b more at lo hi x e f =
    ap₂ (λ (p q : ℕ). p + 256 * q) (ap (λ (i : ℕ). get_or b i 0) (sym (add-zero at)) ∙ there_byte b (lo ∷ hi ∷ more) at 0 lo e refl)
    (there_byte b (lo ∷ hi ∷ more) at 1 hi e refl) ∙ f

pub there_le16 : (b more : List ℕ) (at x : ℕ) → drop at b ≡ le16 x more → u16_at b at ≡ x
there_le16 b more at x e = there_word b more at (x % 256) (x / 256) x e (omega arith)

word : (x : ℕ) → x < 4294967296 → x % 256 + 256 * (x / 256 % 256) + 65536 * (x / 256 / 256 % 256 + 256 * (x / 256 / 256 / 256 % 256)) ≡ x
word x h = omega arith

pub there_le32 : (b more : List ℕ) (at x : ℕ) → x < 4294967296 → drop at b ≡ le32 x more → u32_at b at ≡ x
unfolding u32_at
there_le32 b more at x h e =
    let low : List ℕ = x % 256 ∷ x / 256 % 256 ∷ [] in
    let high : List ℕ = x / 256 / 256 % 256 ∷ x / 256 / 256 / 256 % 256 ∷ more in
    ap₂ (λ (p q : ℕ). p + 65536 * q)
    (there_word b high at (x % 256) (x / 256 % 256) _ e refl)
    (there_word b more (at + 2) (x / 256 / 256 % 256) (x / 256 / 256 / 256 % 256) _ (there_drop b low high at 2 e refl) refl)
    ∙ word x h

-- bytes stored behind a front
pub put_behind : (a z v : List ℕ) (at : ℕ) → length a ≡ at → put (a ++ z) at v ≡ a ++ (v ++ drop (length v) z)
put_behind a z v at l =
    ap₂ (λ (x y : List ℕ). x ++ (v ++ y)) (take_at a z at l)
    (sym (drop-drop (length v) at (a ++ z)) ∙ ap (λ (x : List ℕ). drop (length v) x) (drop_at a z at l))

-- in the place of as many
pub put_at : (a o v z : List ℕ) (at : ℕ) → length a ≡ at → length o ≡ length v → put (a ++ (o ++ z)) at v ≡ a ++ (v ++ z)
put_at a o v z at la lo = put_behind a (o ++ z) v at la ∙ ap (λ (x : List ℕ). a ++ (v ++ x)) (drop_at o z (length v) lo)
