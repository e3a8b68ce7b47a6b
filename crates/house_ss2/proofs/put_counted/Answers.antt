-- The packets, and then their count in front of them.
use Rattle.house_ss2.proofs.LineLaws.{counted_length, counted_stored}
use native.Mathlib.Omega.{arith}
use Rattle.house_ss2.proofs.put_counted.Goals as goal

pub put_row-p-requires : goal.put_row-p-requires
put_row-p-requires c = omega (arith, c.requires, counted_length c.args.width c.args.a.now c.args.b.now)

pub put_u16-requires : goal.put_u16-requires
put_u16-requires c =
    let a = c.args in
    omega (arith, c.put_row-p.ensures.1, c.requires.0, c.requires.3, counted_length a.width a.a.now a.b.now)

pub returns : goal.returns
returns c =
    let a = c.args in
    let p = c.put_row-p in
    counted_stored a.width a.a.now a.b.now a.out.now p.new.out c.put_u16.new.out a.at p.result.count p.result.end c.requires.3 p.ensures.0 c.put_u16.ensures
