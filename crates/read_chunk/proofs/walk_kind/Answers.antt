-- At each kind the definition computes to that kind's walk, on the picture or on the palette; the other is left as it was.
use mathlib.Core.Path.{◌≡◌, ap, ◌∙◌, sym}
use mathlib.Core.List.{[]}
use native.Mathlib.Omega.{arith}
use lib.ListN.{length}
use Rattle.read_colour.specs.Colour.{colour}
use Rattle.read_colour.specs.declared.Levels.TheVariants.{Of64, Of256}
use Rattle.read_full.specs.Full.{black, copied}
use Rattle.read_brun.specs.Brun.{brun}
use Rattle.read_lc.specs.Lc.{lc}
use Rattle.read_ss2.specs.Ss2.{ss2}
use Rattle.format.specs.Limits.{area}
use Rattle.walk.specs.Walk.{Verdict}
use Rattle.read_chunk.specs.Chunk.{judged, by_kind}
use Rattle.read_chunk.proofs.Laws.{judged_right, kind_is, kind_other, on_picture_lem, on_palette_lem, no_write}
use Rattle.read_chunk.proofs.walk_kind.Goals as goal
use Rattle.read_chunk.proofs.walk_kind.Goals.{in-4, in-7, in-11, in-12, in-13, in-15, in-16, in_default}

pub returns : goal.returns
unfolding by_kind
returns c =
    let a = c.args in
    let b = a.body.now in
    let out : (v : Verdict) → c.match-kind.verdict ≡ v → c.judge.result ≡ judged (length b) v = λ v e. c.judge.ensures ∙ ap (judged (length b)) e in
    elim c.match-kind.branch [
      | in-4 w ↦ on_palette_lem a.size a.kind b (colour Of256 b) _ _ _ _ _ _ (out _ (w.verdict-is ∙ w.walk_colour-verdict.ensures.verdict))
          (kind_is a.size a.kind b 4 w.in-4.is) w.picture-is (w.palette-is ∙ w.walk_colour-verdict.ensures.writes)
      | in-7 w ↦ on_picture_lem a.size a.kind b (ss2 a.size.width a.size.height b) _ _ _ _ _ _ (out _ (w.verdict-is ∙ w.walk_ss2-verdict.ensures.verdict))
          (kind_is a.size a.kind b 7 w.in-7.is) (w.picture-is ∙ w.walk_ss2-verdict.ensures.writes) w.palette-is
      | in-11 w ↦ on_palette_lem a.size a.kind b (colour Of64 b) _ _ _ _ _ _ (out _ (w.verdict-is ∙ w.walk_colour-verdict-in-11.ensures.verdict))
          (kind_is a.size a.kind b 11 w.in-11.is) w.picture-is (w.palette-is ∙ w.walk_colour-verdict-in-11.ensures.writes)
      | in-12 w ↦ on_picture_lem a.size a.kind b (lc a.size.width a.size.height b) _ _ _ _ _ _ (out _ (w.verdict-is ∙ w.walk_lc-verdict.ensures.verdict))
          (kind_is a.size a.kind b 12 w.in-12.is) (w.picture-is ∙ w.walk_lc-verdict.ensures.writes) w.palette-is
      | in-13 w ↦ on_picture_lem a.size a.kind b (black (area a.size)) _ _ _ _ _ _ (out _ (w.verdict-is ∙ w.walk_black-verdict.ensures.verdict))
          (kind_is a.size a.kind b 13 w.in-13.is) (w.picture-is ∙ w.walk_black-verdict.ensures.writes) w.palette-is
      | in-15 w ↦ on_picture_lem a.size a.kind b (brun a.size.width a.size.height b) _ _ _ _ _ _ (out _ (w.verdict-is ∙ w.walk_brun-verdict.ensures.verdict))
          (kind_is a.size a.kind b 15 w.in-15.is) (w.picture-is ∙ w.walk_brun-verdict.ensures.writes) w.palette-is
      | in-16 w ↦ on_picture_lem a.size a.kind b (copied (area a.size) b) _ _ _ _ _ _ (out _ (w.verdict-is ∙ w.walk_copy-verdict.ensures.verdict))
          (kind_is a.size a.kind b 16 w.in-16.is) (w.picture-is ∙ w.walk_copy-verdict.ensures.writes) w.palette-is
      | in_default w ↦ no_write _ _ _ _ _ _ _
          (kind_other a.size a.kind b (omega arith) (omega arith) (omega arith) (omega arith) (omega arith) (omega arith) (omega arith)
          ∙ ap (λ (v : Verdict). record { pixels = []; colours = []; verdict = v })
          (sym (out _ w.verdict-is ∙ judged_right (length b) (length b) (omega arith))))
          w.picture-is w.palette-is
    ]
