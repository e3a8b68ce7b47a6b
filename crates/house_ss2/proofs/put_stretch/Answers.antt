-- The skip word, where there is one, and then the lines behind it.
use Rattle.house_ss2.proofs.RowLaws.{stretch_length, stretch_stored}
use Rattle.house_cells.proofs.EachLaws.{cells_few}
use lib.ListN.{length}
use native.Mathlib.Omega.{arith}
use Prim.Native.Nat.{◌+◌}
use Rattle.house_ss2.proofs.put_stretch.Goals as goal

pub put_skip-here-requires : goal.put_skip-here-requires
put_skip-here-requires c =
    let a = c.args in
    omega (arith, c.requires, stretch_length a.width a.i a.g a.n a.previous.now a.next.now)

pub overflow_add-i : goal.overflow_add-i
overflow_add-i c =
    let a = c.args in
    omega (arith, c.requires, cells_few a.width (a.i + a.g + a.n) (length a.next.now) c.requires.0 c.requires.4)

pub put_lines-requires : goal.put_lines-requires
put_lines-requires c =
    let a = c.args in
    omega (arith, c.requires, c.put_skip-here.ensures.0, stretch_length a.width a.i a.g a.n a.previous.now a.next.now)

pub returns : goal.returns
returns c =
    let a = c.args in
    let s = c.put_skip-here in
    let l = c.put_lines in (
      omega (arith, s.ensures.0, l.ensures.0, stretch_length a.width a.i a.g a.n a.previous.now a.next.now),
      stretch_stored a.width a.i a.g a.n a.previous.now a.next.now a.out.now s.new.out l.new.out a.at s.result c.requires.5 s.ensures.0 s.ensures.1 l.ensures.1,
    )
