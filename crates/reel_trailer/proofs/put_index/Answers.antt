-- `put_index` meets its contract. The invariant: the whole index stored at the front of the bytes as found is the rest of the index stored behind the
-- entries that stand there.
use mathlib.Core.Path.{◌≡◌, ◌∙◌, sym, ap, ap₂}
use Prim.Native.Nat.{ℕ, ◌+◌, ◌-◌, ◌*◌}
use native.Mathlib.Omega.{arith}
use borrow.Author.Rules.{rules}
use Rattle.words.specs.Writes.{put}
use Rattle.chunks.specs.declared.Layout.TheVariants.{Loose}
use Rattle.chunks.specs.Spans.{Found, top_frames}
use Rattle.chunks.proofs.Spans.{next_in, found_none, found_fault, found_more}
use Rattle.reel_trailer.specs.Trailer.{index}
use Rattle.reel_trailer.proofs.Laws.{index_none, index_more}
use Rattle.reel_trailer.proofs.put_index.Goals as goal

pub returns-in-Err : goal.returns-in-Err
returns-in-Err c =
    let l = c.loop-k in
    sym (l.invariant.2 ∙ index_none l.out (4 * l.k) _
    (ap (λ (x : Found). x.offsets) (found_fault c.args.b.now (c.args.count - l.k) l.at (omega arith) _ (sym c.next_at.ensures ∙ c.in-Err.is))))

pub loop-k-preserved : goal.loop-k-preserved
loop-k-preserved c =
    let l = c.loop-k in
    let q = sym c.next_at.ensures ∙ c.in-Ok.is in
    let next : 4 * l.k + 4 ≡ 4 * (l.k + 1) = omega arith in
    let left : c.args.count - l.k - 1 ≡ c.args.count - (l.k + 1) = omega arith in (
      (next_in Loose c.args.b.now l.at _ q).2,
      search rules,
      l.invariant.2
          ∙ index_more l.out (4 * l.k) _ _ c.put_u32.new.out _
          (ap (λ (x : Found). x.offsets) (found_more c.args.b.now (c.args.count - l.k) l.at (omega arith) _ _ q)) (omega arith) c.put_u32.ensures
          ∙ ap₂ (λ (to n : ℕ). put c.put_u32.new.out to (index (top_frames c.args.b.now n c.in-Ok.frame.end).offsets)) next left,
    )

pub returns : goal.returns
returns c =
    let l = c.loop-k in
    sym (l.invariant.2 ∙ index_none l.out (4 * l.k) _ (ap (λ (x : Found). x.offsets) (found_none c.args.b.now (c.args.count - l.k) l.at (omega arith))))
