-- `rewrite_accepted` meets its contract: the working pair becomes a copy of the previous one, is played on, and is what the house frame leads to.
use Rattle.state.specs.State.{state, shown}
use Rattle.state.specs.Outcome.{fitted}
use Rattle.house_frame.specs.House.{house_frame}
use Rattle.read_frame.specs.Frame.{frame}
use Rattle.words.specs.Writes.{applied}
use Prim.Native.Nat.{ℕ}
use native.Mathlib.Omega.{arith}
use mathlib.Core.List.{List}
use mathlib.Core.Path.{ap, ap₂, ◌∙◌}
use Rattle.house_rewrite.proofs.rewrite_accepted.Goals as goal

pub walk_frame-requires : goal.walk_frame-requires
walk_frame-requires c =
    let p = c.requires in
    (p.0.picture.size, (λ e. omega (arith, c.copy.auto.dst, p.0.picture.pixels)), λ e. omega (arith, c.copy-2.auto.dst, p.0.colours))

pub write_house-requires : goal.write_house-requires
write_house-requires c =
    let p = c.requires in
    let s = p.0.picture in
    let k = c.walk_frame.auto in
    (p.1, record { picture = record { size = s.size; pixels = k.picture ∙ c.copy.auto.dst ∙ s.pixels }; colours = k.palette ∙ c.copy-2.auto.dst ∙ p.0.colours })

pub returns : goal.returns
returns c =
    let a = c.args in
    let f = frame a.size a.bytes.now in
    let play = c.walk_frame.ensures in
    let picture = play.pixels ∙ ap (applied f.pixels) c.copy.ensures in
    let palette = play.colours ∙ ap (applied f.colours) c.copy-2.ensures in record {
      picture = picture;
      palette = palette;
      output =
          c.write_house.ensures
          ∙ ap₂ (λ (x y : List ℕ). fitted (house_frame a.size (shown a.previous) (state x y)) a.out.now) picture palette;
    }
