-- Laws of answers.
use mathlib.Core.Path.{◌≡◌, refl, sym, ap, ap₂, ◌∙◌}
use mathlib.Core.List.{List, [], ◌∷◌}
use Prim.Native.Nat.{ℕ, ◌-◌, ◌<◌}
use native.Mathlib.Omega.{arith}
use lib.ListN.{get_or}
use Rattle.std.specs.Prelude.{Result, Ok, Err}
use Rattle.std.specs.Result.{IsErrAnd}
use Rattle.std.proofs.lemmas.Result.{err_from_is_err_and}
use Rattle.answer.specs.Answer.{number, refused_at, placed, Answer, Written, told, told_written}
use Rattle.answer.specs.declared.Refusal.{Refusal}
use Rattle.answer.specs.declared.Refusal.TheVariants.{ShortSlice, BadSize, NoRoom, Cut, WrongType, SmallSize, BodyEnds, ZeroCount, PastWidth, PastHeight, BadWord, PastPalette, OverLevel, BadHeader, FewFrames, BadRing, BadTrailer, WrongTime, SpareBytes, NotInFli}
use Rattle.answer.specs.declared.Refused.{Refused}

-- what the exit of a `?` returns, where the error is handed on as it is
pub handed_on : {T E : Type 0} {r : Result T E} {d : E} → IsErrAnd r (λ e. e ≡ d) → r ≡ Err d
handed_on {r = r} i = let p = err_from_is_err_and r i in p.1 ∙ ap Err p.2

-- what has its place was refused without, or is what was answered
pub placed_ok : {T : Type 0} {r : Result T Refusal} (place : ℕ) (x : T) → placed place r ≡ Ok x → r ≡ Ok x
placed_ok {r = Ok y} place x p = let q : y ≡ x = cc in ap Ok q
placed_ok {r = Err e} place x p = cc

-- no two answers are told alike

refusals : List Refusal
refusals =
    ShortSlice ∷ BadSize ∷ NoRoom ∷ Cut ∷ WrongType ∷ SmallSize ∷ BodyEnds ∷ ZeroCount ∷ PastWidth ∷ PastHeight ∷ BadWord ∷ PastPalette
    ∷ OverLevel ∷ BadHeader ∷ FewFrames ∷ BadRing ∷ BadTrailer ∷ WrongTime ∷ SpareBytes ∷ NotInFli ∷ []

-- the refusal of a number
numbered : ℕ → Refusal
numbered n = get_or refusals (n - 1) ShortSlice

numbered_number : (e : Refusal) → numbered (number e) ≡ e
unfolding numbered refusals
numbered_number ShortSlice = refl
numbered_number BadSize = refl
numbered_number NoRoom = refl
numbered_number Cut = refl
numbered_number WrongType = refl
numbered_number SmallSize = refl
numbered_number BodyEnds = refl
numbered_number ZeroCount = refl
numbered_number PastWidth = refl
numbered_number PastHeight = refl
numbered_number BadWord = refl
numbered_number PastPalette = refl
numbered_number OverLevel = refl
numbered_number BadHeader = refl
numbered_number FewFrames = refl
numbered_number BadRing = refl
numbered_number BadTrailer = refl
numbered_number WrongTime = refl
numbered_number SpareBytes = refl
numbered_number NotInFli = refl

pub number_injective : (d e : Refusal) → number d ≡ number e → d ≡ e
number_injective d e p = sym (numbered_number d) ∙ ap numbered p ∙ numbered_number e

refused_alike : (d e : Refused) → number d.0 ≡ number e.0 → d.1 ≡ e.1 → d ≡ e
refused_alike d e n p = ap₂ refused_at (number_injective d.0 e.0 n) p

pub told_injective : (a b : Answer) → told a ≡ told b → a ≡ b
told_injective (Ok u) (Ok v) p = refl
told_injective (Ok u) (Err e) p = let z : ◌≡◌ {A = ℕ} 0 1 = cc in absurd (omega arith)
told_injective (Err d) (Ok u) p = let z : ◌≡◌ {A = ℕ} 0 1 = cc in absurd (omega arith)
told_injective (Err d) (Err e) p =
    let n : number d.0 ≡ number e.0 = cc in
    let q : d.1 ≡ e.1 = cc in
    ap Err (refused_alike d e n q)

pub told_written_injective : (a b : Written) → told_written a ≡ told_written b → a ≡ b
told_written_injective (Ok m) (Ok n) p = let q : m ≡ n = cc in ap Ok q
told_written_injective (Ok n) (Err e) p = let z : ◌≡◌ {A = ℕ} 0 1 = cc in absurd (omega arith)
told_written_injective (Err d) (Ok n) p = let z : ◌≡◌ {A = ℕ} 0 1 = cc in absurd (omega arith)
told_written_injective (Err d) (Err e) p =
    let n : number d.0 ≡ number e.0 = cc in
    let q : d.1 ≡ e.1 = cc in
    ap Err (refused_alike d e n q)

-- numbers have two digits at most
pub number_small : (e : Refusal) → number e < 100
number_small ShortSlice = omega arith
number_small BadSize = omega arith
number_small NoRoom = omega arith
number_small Cut = omega arith
number_small WrongType = omega arith
number_small SmallSize = omega arith
number_small BodyEnds = omega arith
number_small ZeroCount = omega arith
number_small PastWidth = omega arith
number_small PastHeight = omega arith
number_small BadWord = omega arith
number_small PastPalette = omega arith
number_small OverLevel = omega arith
number_small BadHeader = omega arith
number_small FewFrames = omega arith
number_small BadRing = omega arith
number_small BadTrailer = omega arith
number_small WrongTime = omega arith
number_small SpareBytes = omega arith
number_small NotInFli = omega arith
