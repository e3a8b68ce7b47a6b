-- Numbers and lines as text: bytes of ASCII.
use Rattle.std.specs.Prelude.{ℕ, zero, suc, ◌+◌, ◌*◌, ◌/◌, ◌%◌, List, [], ◌∷◌, ◌++◌, ltb, length, cond}
use Rattle.format.specs.Limits.{max_width, max_height, max_frames}

abbrev pub SPACE : ℕ
SPACE = 32

abbrev pub NEWLINE : ℕ
NEWLINE = 10

-- the last digit of n; '0' is 48
abbrev pub digit : ℕ → ℕ
digit n = 48 + n % 10

-- n in decimal, of at most so many digits and one
unfoldable pub digits : ℕ → ℕ → List ℕ
digits zero n = digit n ∷ []
digits (suc more) n = cond (ltb n 10) (digit n ∷ []) (digits more (n / 10) ++ (digit n ∷ []))

-- n in decimal; it has no more digits than n and one
unfoldable pub decimal : ℕ → List ℕ
unfolding digits
decimal n = digits n n

-- n, and the byte behind it
abbrev pub numeral : ℕ → ℕ → List ℕ
numeral n behind = decimal n ++ (behind ∷ [])

-- `flic WIDTH HEIGHT FRAMES`
unfoldable pub head_line : ℕ → ℕ → ℕ → List ℕ
unfolding decimal
head_line w h frames = 102 ∷ 108 ∷ 105 ∷ 99 ∷ SPACE ∷ (numeral w SPACE ++ (numeral h SPACE ++ numeral frames NEWLINE))

-- the most bytes of that line
unfoldable pub head_most : ℕ
unfolding head_line
head_most = length (head_line max_width max_height max_frames)

-- `DEPTH OFFSET KIND SIZE`
unfoldable pub chunk_line : ℕ → ℕ → ℕ → ℕ → List ℕ
unfolding decimal
chunk_line depth at kind size = numeral depth SPACE ++ (numeral at SPACE ++ (numeral kind SPACE ++ numeral size NEWLINE))

-- the most bytes of that line, at a depth of one digit and with numbers of up to five
abbrev pub line_most : ℕ
line_most = (1 + 1) + 3 * (5 + 1)

-- `ok`
abbrev pub ok_line : List ℕ
ok_line = 111 ∷ 107 ∷ NEWLINE ∷ []

-- `refused N PLACE`
unfoldable pub refused_line : ℕ → ℕ → List ℕ
unfolding decimal
refused_line n place = 114 ∷ 101 ∷ 102 ∷ 117 ∷ 115 ∷ 101 ∷ 100 ∷ SPACE ∷ (numeral n SPACE ++ numeral place NEWLINE)

-- the most bytes of that line, with a number of up to two digits and a place of up to five
abbrev pub refused_most : ℕ
refused_most = 8 + (2 + 1) + (5 + 1)
