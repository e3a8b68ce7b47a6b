-- `put_decimal` meets its contract: the digits of a tenth of the number, and its last digit behind them.
use Rattle.std.proofs.Common.{arith}
use Rattle.list_text.proofs.Laws.{decimal_one, decimal_longer, stored_small, stored_large}
use Rattle.list_text.proofs.+put_decimal.Goals as goal

pub bounds-out-at : goal.bounds-out-at
bounds-out-at t c = omega (arith, c.requires, decimal_one c.args.x (omega arith))

pub returns-then-x-lt10 : goal.returns-then-x-lt10
returns-then-x-lt10 t c =
    let a = c.args in
    stored_small a.out.now a.at a.x (omega arith) (omega (arith, c.requires, decimal_one a.x (omega arith)))

pub put_decimal-end-requires : goal.put_decimal-end-requires
put_decimal-end-requires t c = (omega (arith, c.decreases), omega (arith, c.requires, decimal_longer c.args.x (omega arith)))

pub bounds-out-end : goal.bounds-out-end
bounds-out-end t c = omega (arith, c.put_decimal-end.ensures.end, c.put_decimal-end.auto.out, c.requires, decimal_longer c.args.x (omega arith))

pub returns : goal.returns
returns t c =
    let a = c.args in
    stored_large a.out.now _ a.at _ a.x (omega arith) c.requires c.put_decimal-end.ensures
