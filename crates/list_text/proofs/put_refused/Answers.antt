-- `put_refused` meets its contract: its word, the refusal's number and its place one behind the other.
use lib.ListN.{length}
use mathlib.Core.Path.{subst, ap}
use native.Mathlib.Omega.{arith}
use Prim.Native.Nat.{ℕ}
use Rattle.answer.specs.Answer.{number}
use Rattle.list_text.specs.Stored.{Stored}
use Rattle.list_text.specs.Text.{numeral, SPACE}
use Rattle.list_text.proofs.Laws.{refused_length, stored_refused}
use Rattle.list_text.proofs.put_refused.Goals as goal

pub put_text-a-requires : goal.put_text-a-requires
put_text-a-requires c = omega (arith, c.requires, refused_length (number c.args.refusal) c.args.place)

pub put_number-b-requires : goal.put_number-b-requires
put_number-b-requires c =
    let e = ap (λ (k : ℕ). length (numeral k SPACE)) c.from.ensures in
    omega (arith, c.requires, refused_length (number c.args.refusal) c.args.place, c.put_text-a.ensures.end, c.put_text-a.auto.out, e)

pub put_number-requires : goal.put_number-requires
put_number-requires c =
    let e = ap (λ (k : ℕ). length (numeral k SPACE)) c.from.ensures in
    omega (
      arith,
      c.requires,
      refused_length (number c.args.refusal) c.args.place,
      c.put_text-a.ensures.end,
      c.put_text-a.auto.out,
      e,
      c.put_number-b.ensures.end,
      c.put_number-b.auto.out,
    )

pub returns : goal.returns
returns c =
    let number_put = subst (λ (k : ℕ). Stored c.put_text-a.new.out c.put_text-a.result (numeral k SPACE) c.put_number-b.new.out c.put_number-b.result)
    c.from.ensures c.put_number-b.ensures in
    stored_refused (number c.args.refusal) c.args.place c.requires c.put_text-a.ensures number_put c.put_number.ensures
