-- `write_picture` meets its contract: no plan stands for equal pictures; of the others only the delta's has its kind.
use mathlib.Core.List.{[]}
use mathlib.Core.Path.{sym, ap, subst, ◌∙◌}
use Prim.Native.Nat.{ℕ}
use native.Mathlib.Omega.{arith}
use Rattle.words.specs.Words.{chunk}
use Rattle.words.proofs.Laws.{put_nil, put_header_first}
use Rattle.house_delta.specs.Delta.{delta_body}
use Rattle.house_delta.proofs.Laws.{kind_between}
use Rattle.house_full.specs.Full.{full_chunk}
use Rattle.house_frame.specs.Plans.{plan_size, OfBrun}
use Rattle.house_frame.proofs.Laws.{put_as, picture_none, delta_planned, full_planned}
use Rattle.house_frame.proofs.write_picture.Goals as goal

pub returns-in_default : goal.returns-in_default
returns-in_default c =
    let a = c.args in
    put_as a.out.now a.out.now [] _ a.at (picture_none a.size a.previous.now a.next.now c.requires.2 c.in_default.is) (sym (put_nil a.out.now a.at))

pub put_header-requires : goal.put_header-requires
put_header-requires c =
    let a = c.args in
    let k = delta_planned a.size a.previous.now a.next.now c.requires.2 _ c.in-Some.is (c.if-chunk-kind.true ∙ c.delta_kind-kind.ensures) in
    (omega (arith, k.size, ap plan_size c.in-Some.is), omega (arith, c.delta_kind-kind.ensures, (kind_between c.args.size.format).1))

pub write_delta-requires : goal.write_delta-requires
write_delta-requires c =
    let a = c.args in
    let s = c.requires in
    let k = delta_planned a.size a.previous.now a.next.now c.requires.2 _ c.in-Some.is (c.if-chunk-kind.true ∙ c.delta_kind-kind.ensures) in
    (s.0, s.1, omega (arith, k.size, ap plan_size c.in-Some.is))

pub returns-then-chunk-kind : goal.returns-then-chunk-kind
returns-then-chunk-kind c =
    let a = c.args in
    let k = delta_planned a.size a.previous.now a.next.now c.requires.2 _ c.in-Some.is (c.if-chunk-kind.true ∙ c.delta_kind-kind.ensures) in
    let kind = c.delta_kind-kind in
    let header = c.put_header in
    let body = c.write_delta in
    let delta = delta_body a.size a.previous.now a.next.now in
    put_as a.out.now body.new.out (chunk kind.result delta) _ a.at (k.bytes ∙ ap (λ (n : ℕ). chunk n delta) (sym kind.ensures))
    (put_header_first a.out.now header.new.out body.new.out a.at c.in-Some.chunk.size kind.result delta
    k.size (omega (arith, k.size, ap plan_size c.in-Some.is)) header.ensures body.ensures)

pub write_full-requires : goal.write_full-requires
write_full-requires c =
    let a = c.args in
    let k = full_planned a.size a.previous.now a.next.now c.requires.2 _ c.in-Some.is (λ k. c.if-chunk-kind.false (k ∙ sym c.delta_kind-kind.ensures)) in
    (c.requires.1, k.kind, λ q. c.requires.3 (subst OfBrun (sym c.in-Some.is) q), omega (arith, k.size, ap plan_size c.in-Some.is))

pub returns : goal.returns
returns c =
    let a = c.args in
    let k = full_planned a.size a.previous.now a.next.now c.requires.2 _ c.in-Some.is (λ k. c.if-chunk-kind.false (k ∙ sym c.delta_kind-kind.ensures)) in
    put_as a.out.now c.write_full.new.out (full_chunk a.size.width a.size.height a.next.now) _ a.at k.bytes c.write_full.ensures
