-- `put_raised` meets its contract. The invariant: the first i components are raised, the rest as found.
use Rattle.words.proofs.Runs.{map_more, mapped_all}
use Rattle.read_colour.proofs.Laws.{level_small}
use Rattle.format.specs.Format.{raised}
use lib.ListN.{set, length-set}
use native.Mathlib.Omega.{arith}
use Prim.Native.Nat.{ℕ}
use mathlib.Core.List.{List}
use mathlib.Core.Path.{ap₂, ◌∙◌}
use Rattle.read_colour.proofs.put_raised.Goals as goal

pub raised_level-requires : goal.raised_level-requires
raised_level-requires c = level_small _ _ c.requires.src_value (omega arith)

pub loop-i-preserved : goal.loop-i-preserved
loop-i-preserved c =
    let l = c.loop-i in
    let a = c.args in (
      ap₂ (λ (x : List ℕ) (y : ℕ). set x l.i y) l.invariant.0 c.raised_level.ensures ∙ map_more raised l.i a.src.now a.dst.now (omega arith) (omega arith),
      simp length-set l.invariant.1,
    )

pub returns : goal.returns
returns c =
    let l = c.loop-i in
    let a = c.args in
    l.invariant.0 ∙ mapped_all raised l.i a.src.now a.dst.now (omega arith) (omega arith)
