-- `front` meets its contract: a pair that holds a picture and a palette has their bytes at its front.
use mathlib.Core.Path.{sym}
use lib.Seq.{length-take-le}
use Rattle.state.specs.State.{shown}
use Rattle.state.proofs.Laws.{enough_in}
use Rattle.state.proofs.Pair.front.Goals as goal

pub slice_bounds-result-end-2 : goal.slice_bounds-result-end-2
slice_bounds-result-end-2 c = sym (length-take-le 768 c.args.self.palette.now (enough_in c.args.n (shown c.args.self) c.requires).1)
