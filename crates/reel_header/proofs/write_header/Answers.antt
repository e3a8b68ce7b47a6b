-- `write_header` meets its contract: each field that is not zero is stored behind the common ones.
use Rattle.reel_header.proofs.Laws.{opened_stored}
use Rattle.reel_header.proofs.write_header.Goals as goal

pub returns : goal.returns
returns c =
    let a = c.args in
    opened_stored a.width a.height a.speed c.put_common.new.out c.put_u32.new.out c.put_u32-2.new.out c.put_u32-3.new.out c.put_u16.new.out
    c.put_u16-2.new.out c.aspect_of.result c.aspect_of-2.result
    c.put_common.ensures c.put_u32.ensures c.put_u32-2.ensures c.put_u32-3.ensures c.aspect_of.ensures.0 c.put_u16.ensures c.aspect_of-2.ensures.0
    c.put_u16-2.ensures
