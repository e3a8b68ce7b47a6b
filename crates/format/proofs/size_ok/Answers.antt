-- `size_ok` meets its contract: each early return decides the test that it stands for, and those before it hold.
use native.Mathlib.Omega.{arith}
use borrow.Author.Tests.{le-leb, lt-leb}
use Rattle.format.specs.Limits.{max_width}
use Rattle.format.proofs.size_ok.Goals as goal

pub returns-then-width-lt1 : goal.returns-then-width-lt1
returns-then-width-lt1 c = simp (lt-leb 1 _ c.if-width-lt1.true)

pub returns-then-width-gt-MAX_WIDTH : goal.returns-then-width-gt-MAX_WIDTH
returns-then-width-gt-MAX_WIDTH c = simp (le-leb 1 _ c.if-width-lt1.false, lt-leb c.args.width max_width (omega arith))

pub returns-then-height-lt1 : goal.returns-then-height-lt1
returns-then-height-lt1 c =
    simp (le-leb 1 _ c.if-width-lt1.false, le-leb _ max_width c.if-width-gt-MAX_WIDTH.false, lt-leb 1 _ c.if-height-lt1.true)

pub returns : goal.returns
returns c =
    simp (le-leb 1 _ c.if-width-lt1.false, le-leb _ max_width c.if-width-gt-MAX_WIDTH.false, le-leb 1 _ c.if-height-lt1.false)
