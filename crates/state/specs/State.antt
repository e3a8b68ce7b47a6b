-- A picture with its palette, and lent pairs of slices that hold one (document 01, "What the boards need").
use Rattle.std.specs.Prelude.{ℕ, ◌*◌, ◌≡◌, List, ◌++◌, Bool, ◌&&◌, length, take, drop, replicate, leb}
use Rattle.format.specs.Limits.{Sized}
use Rattle.format.specs.declared.Size.{Size}
use Rattle.state.specs.declared.Pair.{Pair}

-- a picture and a palette; a lent pair of slices too, which may be longer
pub record State : Type 0 where
  pub picture : List ℕ
  pub palette : List ℕ

abbrev pub state : List ℕ → List ℕ → State
state p q = record { picture = p; palette = q }

-- what a lent pair holds
abbrev pub shown : Pair → State
shown p = state p.picture.now p.palette.now

-- document 01's "Blank: all pixels and palette bytes 0", of a picture of n pixels
unfoldable pub blank : ℕ → State
blank n = state (replicate n 0) (replicate 768 0)

-- whether a lent pair holds a picture of n pixels and a palette (refusal 1)
abbrev pub enough : ℕ → State → Bool
enough n lent = leb n (length lent.picture) && leb 768 (length lent.palette)

-- the state at the front of a lent pair: "width times height bytes", "a palette is 768 bytes"
abbrev pub front : ℕ → State → State
front n lent = state (take n lent.picture) (take 768 lent.palette)

-- "Longer lent slices are allowed; the excess stays unchanged": a lent pair after the state s was stored at its front
abbrev pub refilled : ℕ → State → State → State
refilled n s lent = state (s.picture ++ drop n lent.picture) (s.palette ++ drop 768 lent.palette)

-- a picture of just that size, which is in range
pub record Picture (w h : ℕ) (p : List ℕ) : Type 0 where
  pub size : Sized w h
  pub pixels : length p ≡ w * h

-- a picture of just that size and a palette
pub record Exact (z : Size) (s : State) : Type 0 where
  pub picture : Picture z.width z.height s.picture
  pub colours : length s.palette ≡ 768
