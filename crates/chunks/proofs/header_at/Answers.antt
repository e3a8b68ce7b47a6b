-- `header_at` meets its contract: a chunk of the size that stands there, where its header is.
use mathlib.Core.Path.{sym, ap, ◌∙◌}
use Prim.Native.Nat.{ℕ, ◌+◌}
use native.Mathlib.Omega.{arith}
use Rattle.std.specs.Prelude.{Ok}
use Rattle.answer.proofs.Laws.{handed_on}
use Rattle.words.specs.Words.{u16_at}
use Rattle.chunks.specs.Headers.{chunk_to}
use Rattle.chunks.proofs.Headers.{onto, header_cut, header_sized}
use Rattle.chunks.proofs.header_at.Goals as goal

pub returns-then-b-at-lt-CHUNK_HEADER : goal.returns-then-b-at-lt-CHUNK_HEADER
returns-then-b-at-lt-CHUNK_HEADER c = header_cut _ _ (omega arith)

pub returns-in_err-size : goal.returns-in_err-size
returns-in_err-size c = handed_on c.from_residual.ensures.1
    ∙ sym (header_sized c.args.b.now c.args.at (omega arith) ∙ ap (onto _) (sym c.size_at.ensures ∙ c.in_err-size.was))

pub returns : goal.returns
returns c = ap (λ (kind : ℕ). Ok (chunk_to kind (c.args.at + c.in_ok-size.size))) c.u16_at.ensures.value
    ∙ sym (header_sized c.args.b.now c.args.at (omega arith) ∙ ap (onto _) (sym c.size_at.ensures ∙ c.in_ok-size.was))
