-- `put_line` meets its contract: its four numbers one behind the other.
use native.Mathlib.Omega.{arith}
use Rattle.list_text.proofs.Laws.{chunk_length, stored_chunk}
use Rattle.list_text.proofs.put_line.Goals as goal

pub put_number-a-requires : goal.put_number-a-requires
put_number-a-requires c =
    let a = c.args in
    omega (arith, c.requires, chunk_length a.depth a.offset a.kind a.size)

pub put_number-b-requires : goal.put_number-b-requires
put_number-b-requires c =
    let a = c.args in
    omega (arith, c.requires, chunk_length a.depth a.offset a.kind a.size, c.put_number-a.ensures.end, c.put_number-a.auto.out)

pub put_number-c-requires : goal.put_number-c-requires
put_number-c-requires c =
    let a = c.args in
    omega (
      arith,
      c.requires,
      chunk_length a.depth a.offset a.kind a.size,
      c.put_number-a.ensures.end,
      c.put_number-a.auto.out,
      c.put_number-b.ensures.end,
      c.put_number-b.auto.out,
    )

pub put_number-requires : goal.put_number-requires
put_number-requires c =
    let a = c.args in
    omega (
      arith,
      c.requires,
      chunk_length a.depth a.offset a.kind a.size,
      c.put_number-a.ensures.end,
      c.put_number-a.auto.out,
      c.put_number-b.ensures.end,
      c.put_number-b.auto.out,
      c.put_number-c.ensures.end,
      c.put_number-c.auto.out,
    )

pub returns : goal.returns
returns c =
    let a = c.args in
    stored_chunk a.depth a.offset a.kind a.size c.requires c.put_number-a.ensures c.put_number-b.ensures c.put_number-c.ensures c.put_number.ensures
