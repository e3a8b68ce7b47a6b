-- Document 01, "Refusal numbers": each answer is done, or a number with a place.
use Rattle.std.specs.Prelude.{ℕ, List, [], ◌∷◌, Result, Ok, Err}
use Rattle.answer.specs.declared.Refusal.{Refusal}
use Rattle.answer.specs.declared.Refusal.TheVariants.{ShortSlice, BadSize, NoRoom, Cut, WrongType, SmallSize, BodyEnds, ZeroCount, PastWidth, PastHeight, BadWord, PastPalette, OverLevel, BadHeader, FewFrames, BadRing, BadTrailer, WrongTime, SpareBytes, NotInFli}
use Rattle.answer.specs.declared.Refused.{Refused}

-- the paper's number of each refusal
abbrev pub number : Refusal → ℕ
number ShortSlice = 1
number BadSize = 2
number NoRoom = 3
number Cut = 4
number WrongType = 5
number SmallSize = 6
number BodyEnds = 7
number ZeroCount = 8
number PastWidth = 9
number PastHeight = 10
number BadWord = 11
number PastPalette = 12
number OverLevel = 13
number BadHeader = 14
number FewFrames = 15
number BadRing = 16
number BadTrailer = 17
number WrongTime = 18
number SpareBytes = 19
number NotInFli = 20

-- "Each answer is done, or a number with a place": done with its values, or refused with number and place
pub data Said : Type 0 where
  done : List ℕ → Said
  refused : ℕ → ℕ → Said

-- a refusal at a place
abbrev pub refused_at : Refusal → ℕ → Refused
refused_at e place = record { 0 = e; 1 = place }

-- what was refused without a place, with its place
abbrev pub placed : {T : Type 0} → ℕ → Result T Refusal → Result T Refused
placed place (Ok x) = Ok x
placed place (Err e) = Err (refused_at e place)

-- Done, or a refusal with its place.
abbrev pub Answer : Type 0
Answer = Result Unit Refused

-- Done with so many bytes written, or a refusal with its place.
abbrev pub Written : Type 0
Written = Result ℕ Refused

-- what an answer says, in the paper's numbers
abbrev pub told : Answer → Said
told (Ok u) = done []
told (Err r) = refused (number r.0) r.1

-- the same of an answer that tells how many bytes were written
abbrev pub told_written : Written → Said
told_written (Ok length) = done (length ∷ [])
told_written (Err r) = refused (number r.0) r.1
