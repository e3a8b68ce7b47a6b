-- `put_header` meets its contract: the size, and then the kind.
use mathlib.Core.List.{List, []}
use mathlib.Core.Path.{◌∙◌, ap, refl, sym}
use Prim.Native.Nat.{ℕ, ◌+◌}
use native.Mathlib.Omega.{arith}
use Rattle.words.proofs.Laws.{put_append}
use Rattle.words.specs.Writes.{put}
use Rattle.words.specs.Words.{le16, le32}
use Rattle.words.proofs.put_header.Goals as goal

pub returns : goal.returns
returns c =
    let a = c.args in
    c.put_u16.ensures ∙ ap (λ (d : List ℕ). put d (a.at + 4) (le16 a.kind [])) c.put_u32.ensures
    ∙ sym (put_append a.out.now a.at (le32 a.size []) (le16 a.kind []) 4 refl (omega arith))
