-- The rows, and then the line count in front of them.
use Rattle.house_ss2.proofs.RowLaws.{body_length, body_stored}
use native.Mathlib.Omega.{arith}
use Rattle.house_ss2.proofs.write_delta.Goals as goal

pub put_rows-count-requires : goal.put_rows-count-requires
put_rows-count-requires c =
    let a = c.args in
    (c.requires.0, c.requires.1, c.requires.2, c.requires.3, c.requires.4, omega (arith, c.requires.5, body_length a.width a.height a.previous.now a.next.now))

pub put_u16-requires : goal.put_u16-requires
put_u16-requires c =
    let a = c.args in
    omega (arith, c.put_rows-count.ensures.1, c.requires.2, c.requires.5, body_length a.width a.height a.previous.now a.next.now)

pub returns : goal.returns
returns c =
    let a = c.args in
    let p = c.put_rows-count in
    body_stored a.width a.height a.previous.now a.next.now a.out.now p.new.out c.put_u16.new.out a.at p.result p.ensures.0 c.requires.5 p.ensures.2
    c.put_u16.ensures
