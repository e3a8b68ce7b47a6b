-- `walk_black` meets its contract: the first n pixels come back filled with 0, or nothing is written.
use mathlib.Core.Path.{ap, ◌∙◌}
use Prim.Native.Nat.{ℕ}
use lib.ListN.{replicate, length-replicate}
use native.Mathlib.Omega.{arith}
use Rattle.words.proofs.Laws.{span_length}
use Rattle.read_full.proofs.Laws.{black_whole, front_dry, front_wet}
use Rattle.read_full.proofs.walk_black.Goals as goal

pub returns-in-Dry : goal.returns-in-Dry
returns-in-Dry c = let a = c.args in front_dry (black_whole a.n) a.pass a.picture.now c.in-Dry.is

pub returns-in-Wet : goal.returns-in-Wet
returns-in-Wet c =
    let a = c.args in
    let n = a.n in
    let e = c.in-Wet.is in
    front_wet (black_whole n) a.pass a.picture.now e c.fill.new.part n
    (c.fill.ensures ∙ ap (λ (k : ℕ). replicate k 0) (span_length a.picture.now 0 n n (c.requires e) (omega arith)))
    (length-replicate n 0)
