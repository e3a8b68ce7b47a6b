-- `close_header` meets its contract: size and frames are stored, and then, of an FLC, the flags and both oframes.
use Rattle.reel_header.proofs.Laws.{closed_flc, closed_fli}
use Rattle.reel_header.proofs.close_header.Goals as goal

pub returns-in-Fli : goal.returns-in-Fli
returns-in-Fli c =
    let a = c.args in
    rw c.in-Fli.is (closed_fli a.size a.frames a.second a.bytes.now c.put_u32.new.out c.put_u16.new.out c.put_u32.ensures c.put_u16.ensures)

pub returns-in-Flc : goal.returns-in-Flc
returns-in-Flc c =
    let a = c.args in
    rw c.in-Flc.is (closed_flc a.size a.frames a.second a.bytes.now c.put_u32.new.out c.put_u16.new.out c.close_flc.new.bytes c.put_u32.ensures
    c.put_u16.ensures c.close_flc.ensures)
