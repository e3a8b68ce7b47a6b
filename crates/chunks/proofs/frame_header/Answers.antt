-- `frame_header` meets its contract: a frame of the size that stands there, where its header is and has its type.
use mathlib.Core.Path.{sym, ap, ◌∙◌}
use Prim.Native.Nat.{ℕ}
use native.Mathlib.Omega.{arith}
use Rattle.std.specs.Prelude.{Ok}
use Rattle.answer.proofs.Laws.{handed_on}
use Rattle.chunks.specs.Headers.{whole_of}
use Rattle.chunks.proofs.Headers.{onto, frame_cut, frame_type, frame_sized}
use Rattle.chunks.proofs.frame_header.Goals as goal

pub returns-then-b-lt-FRAME_HEADER : goal.returns-then-b-lt-FRAME_HEADER
returns-then-b-lt-FRAME_HEADER c = frame_cut _ c.if-b-lt-FRAME_HEADER.true

pub returns-then-u16_at-ne-FRAME_TYPE : goal.returns-then-u16_at-ne-FRAME_TYPE
returns-then-u16_at-ne-FRAME_TYPE c = frame_type _ c.if-b-lt-FRAME_HEADER.false (λ z. c.if-u16_at-ne-FRAME_TYPE.true (c.u16_at.ensures.value ∙ z))

pub returns-in_err-size : goal.returns-in_err-size
returns-in_err-size c = handed_on c.from_residual.ensures.1
    ∙ sym (frame_sized c.args.b.now (omega arith) (omega arith) ∙ ap (onto _) (sym c.size_at.ensures ∙ c.in_err-size.was))

pub returns : goal.returns
returns c = ap (λ (count : ℕ). Ok (whole_of count c.in_ok-size.size)) c.u16_at-2.ensures.value
    ∙ sym (frame_sized c.args.b.now (omega arith) (omega arith) ∙ ap (onto _) (sym c.size_at.ensures ∙ c.in_ok-size.was))
