-- `put_common` meets its contract: all is set to zero, and then each field is stored.
use mathlib.Core.Path.{ap, ◌∙◌}
use Prim.Native.Nat.{ℕ}
use lib.ListN.{replicate}
use Rattle.reel_header.proofs.Laws.{blank_stored}
use Rattle.reel_header.proofs.put_common.Goals as goal

pub returns : goal.returns
returns c =
    let a = c.args in
    blank_stored a.magic a.width a.height c.fill.new.part c.put_u16.new.out c.put_u16-2.new.out c.put_u16-3.new.out c.put_u16-4.new.out
    (c.fill.ensures ∙ ap (λ (n : ℕ). replicate n 0) c.requires.0) c.put_u16.ensures c.put_u16-2.ensures c.put_u16-3.ensures c.put_u16-4.ensures
