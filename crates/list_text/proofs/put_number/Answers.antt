-- `put_number` meets its contract: the number, and one byte behind it.
use native.Mathlib.Omega.{arith}
use Rattle.list_text.proofs.Laws.{numeral_length, stored_byte}
use Rattle.list_text.proofs.put_number.Goals as goal

pub put_decimal-end-requires : goal.put_decimal-end-requires
put_decimal-end-requires c = omega (arith, c.requires, numeral_length c.args.x c.args.behind)

pub bounds-out-end : goal.bounds-out-end
bounds-out-end c = omega (arith, c.requires, numeral_length c.args.x c.args.behind, c.put_decimal-end.ensures.end, c.put_decimal-end.auto.out)

pub overflow_add-result : goal.overflow_add-result
overflow_add-result c = omega (arith, c.requires, numeral_length c.args.x c.args.behind, c.put_decimal-end.ensures.end, c.well_formed.0.0)

pub returns : goal.returns
returns c = stored_byte c.args.behind c.requires c.put_decimal-end.ensures
