-- `write_fli_header` meets its contract: the speed is stored behind the common fields.
use Rattle.reel_header.proofs.Laws.{opened_fli_stored}
use Rattle.reel_header.proofs.write_fli_header.Goals as goal

pub returns : goal.returns
returns c =
    let a = c.args in
    opened_fli_stored a.width a.height a.speed c.put_common.new.out c.put_u16.new.out c.put_common.ensures c.put_u16.ensures
