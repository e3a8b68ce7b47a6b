-- The delta of the house form, by the format: kind 7 in an FLC (document 01, "House form of a frame", Delta), kind 12 in an FLI (document 02, Req 06:
-- "Their delta is kind 12 in Req 04's form").
use Rattle.std.specs.Prelude.{ℕ, List}
use Rattle.words.specs.Words.{chunk}
use Rattle.format.specs.Format.{FLI_SS2, FLI_LC}
use Rattle.format.specs.declared.Format.{Format}
use Rattle.format.specs.declared.Format.TheVariants.{Flc, Fli}
use Rattle.format.specs.declared.Size.{Size}
use Rattle.house_ss2.specs.Delta as ss2
use Rattle.house_lc.specs.Delta as lc

abbrev pub delta_kind : Format → ℕ
delta_kind Flc = FLI_SS2
delta_kind Fli = FLI_LC

-- the body of the delta from one picture of width by height to the next
abbrev pub body_in : Format → ℕ → ℕ → List ℕ → List ℕ → List ℕ
body_in Flc width height previous next = ss2.delta_body width height previous next
body_in Fli width height previous next = lc.delta_body width height previous next

unfoldable pub delta_body : Size → List ℕ → List ℕ → List ℕ
delta_body z previous next = body_in z.format z.width z.height previous next

unfoldable pub delta_chunk : Size → List ℕ → List ℕ → List ℕ
unfolding delta_body
delta_chunk z previous next = chunk (delta_kind z.format) (delta_body z previous next)

-- its body has no more bytes
abbrev pub delta_most : ℕ
delta_most = lc.delta_most
