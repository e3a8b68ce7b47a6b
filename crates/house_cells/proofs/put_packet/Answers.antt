-- The data is stored right behind the two bytes, so both are one store of the whole packet.
use borrow.Author.Rules.{rules}
use mathlib.Core.List.{[], ◌∷◌}
use mathlib.Core.Path.{refl}
use native.Mathlib.Omega.{arith}
use Rattle.words.proofs.Laws.{put_then}
use Rattle.house_cells.proofs.put_packet.Goals as goal

pub returns : goal.returns
returns c =
    let a = c.args in (
      search rules,
      put_then a.out.now c.put_two.new.out c.put_bytes.new.out (a.x ∷ a.y ∷ []) a.v.now a.at 2 refl (omega (arith, c.requires)) c.put_two.ensures
          c.put_bytes.ensures,
    )
