-- `put_head` meets its contract: its word, and its three numbers one behind the other.
use native.Mathlib.Omega.{arith}
use Rattle.list_text.proofs.Laws.{head_length, stored_head}
use Rattle.list_text.proofs.put_head.Goals as goal

pub put_text-a-requires : goal.put_text-a-requires
put_text-a-requires c = let a = c.args in omega (arith, c.requires, head_length a.width a.height a.frames)

pub put_number-b-requires : goal.put_number-b-requires
put_number-b-requires c = let a = c.args in
    omega (arith, c.requires, head_length a.width a.height a.frames, c.put_text-a.ensures.end, c.put_text-a.auto.out)

pub put_number-c-requires : goal.put_number-c-requires
put_number-c-requires c = let a = c.args in omega (
  arith,
  c.requires,
  head_length a.width a.height a.frames,
  c.put_text-a.ensures.end,
  c.put_text-a.auto.out,
  c.put_number-b.ensures.end,
  c.put_number-b.auto.out,
)

pub put_number-requires : goal.put_number-requires
put_number-requires c = let a = c.args in omega (
  arith,
  c.requires,
  head_length a.width a.height a.frames,
  c.put_text-a.ensures.end,
  c.put_text-a.auto.out,
  c.put_number-b.ensures.end,
  c.put_number-b.auto.out,
  c.put_number-c.ensures.end,
  c.put_number-c.auto.out,
)

pub returns : goal.returns
returns c = let a = c.args in
    stored_head a.width a.height a.frames c.requires c.put_text-a.ensures c.put_number-b.ensures c.put_number-c.ensures c.put_number.ensures
