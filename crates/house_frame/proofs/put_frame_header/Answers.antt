-- `put_frame_header` meets its contract: size and type, then the count, then eight zeros, each stored where the one before ends.
use mathlib.Core.List.{List, [], ◌∷◌, ◌++◌}
use mathlib.Core.Path.{◌≡◌, refl, ap, ◌∙◌}
use Prim.Native.Nat.{ℕ}
use native.Mathlib.Omega.{arith}
use lib.ListN.{length, replicate}
use Rattle.words.specs.Writes.{put}
use Rattle.words.specs.Words.{le16, le32}
use Rattle.words.proofs.Laws.{put_then, span_back, span_length}
use Rattle.format.specs.Format.{FRAME_TYPE}
use Rattle.house_frame.specs.Plans.{header_bytes}
use Rattle.house_frame.proofs.put_frame_header.Goals as goal

pub returns : goal.returns
unfolding header_bytes
returns c =
    let a = c.args in
    let zeros : List ℕ = 0 ∷ 0 ∷ 0 ∷ 0 ∷ 0 ∷ 0 ∷ 0 ∷ 0 ∷ [] in
    let d = c.put_u16.new.out in
    let e = c.put_header.new.out in
    let h = le32 a.size (le16 FRAME_TYPE []) in
    let l : length d ≡ length a.out.now = omega arith in
    let first : d ≡ put a.out.now 0 (h ++ le16 a.count []) =
    put_then a.out.now e d h (le16 a.count []) 0 6 refl (omega arith) c.put_header.ensures c.put_u16.ensures in
    put_then a.out.now d _ (h ++ le16 a.count []) zeros 0 8 refl (omega arith) first
    (span_back d c.fill.new.part zeros 8 16 8 (c.fill.ensures ∙ ap (λ (n : ℕ). replicate n 0) (span_length d 8 16 8 (omega arith) refl)) refl refl)
