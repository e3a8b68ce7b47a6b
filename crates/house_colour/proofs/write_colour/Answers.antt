-- The packets, and then the packet count in front of them.
use Rattle.house_colour.proofs.Laws.{body_length, body_stored}
use native.Mathlib.Omega.{arith}
use Rattle.house_colour.proofs.write_colour.Goals as goal

pub put_packets-count-requires : goal.put_packets-count-requires
put_packets-count-requires c = (c.requires.0, c.requires.1, omega (arith, c.requires.2, body_length c.args.previous.now c.args.next.now))

pub put_u16-requires : goal.put_u16-requires
put_u16-requires c =
    let p = c.put_packets-count in
    omega (arith, c.requires.2, p.ensures.1, body_length c.args.previous.now c.args.next.now)

pub returns : goal.returns
returns c =
    let a = c.args in
    let p = c.put_packets-count in
    body_stored a.previous.now a.next.now a.out.now p.new.out c.put_u16.new.out a.at p.result p.ensures.0 c.requires.2 p.ensures.2 c.put_u16.ensures
