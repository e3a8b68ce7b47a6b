-- `write_planned` meets its contract: the plans' sizes make up the frame's, and its three parts are stored one after the other.
use native.Mathlib.Omega.{arith}
use mathlib.Core.Path.{◌≡◌, refl}
use Rattle.format.specs.declared.Size.{Size}
use Rattle.std.specs.Prelude.{Option}
use Rattle.state.specs.State.{State, shown, Exact}
use Rattle.house_frame.specs.declared.ChunkPlan.{ChunkPlan}
use Rattle.house_frame.specs.Plans.{colour_plan, picture_plan}
use Rattle.house_frame.proofs.Laws.{Planned, colours_in, picture_in, house_none, house_stored}
use Rattle.house_frame.proofs.write_planned.Goals as goal

-- the two states and what is planned
plans : {z : Size} {s t : State} {a b : Option ChunkPlan} → Exact z s → Exact z t → a ≡ colour_plan s.palette t.palette → b ≡ picture_plan z s.picture t.picture
    → Planned z s t a b
plans previous next colours picture = record { previous = previous; next = next; colours = colours; picture = picture }

pub overflow_add-at : goal.overflow_add-at
overflow_add-at c = omega (arith, (colours_in (plans c.requires.0 c.requires.1 c.requires.2 c.requires.3) _ _ refl c.size_of-at.ensures).short)

pub overflow_add-whole : goal.overflow_add-whole
overflow_add-whole c =
    let p = plans c.requires.0 c.requires.1 c.requires.2 c.requires.3 in
    omega (arith, (colours_in p _ _ refl c.size_of-at.ensures).short, (picture_in p _ _ refl c.size_of.ensures).short)

pub returns-then-out-whole : goal.returns-then-out-whole
returns-then-out-whole c =
    let p = plans c.requires.0 c.requires.1 c.requires.2 c.requires.3 in
    let a = c.args in
    house_none a.size (shown a.previous) (shown a.next)
    (colours_in p _ _ refl c.size_of-at.ensures) (picture_in p _ _ refl c.size_of.ensures) c.args.out.now c.if-out-whole.true

pub returns : goal.returns
returns c =
    let p = plans c.requires.0 c.requires.1 c.requires.2 c.requires.3 in
    let header = c.put_frame_header in
    let colours = c.write_colours in
    let picture = c.write_picture in
    let a = c.args in
    house_stored a.size (shown a.previous) (shown a.next)
    (colours_in p _ _ c.count_of.ensures c.size_of-at.ensures) (picture_in p _ _ c.count_of-2.ensures c.size_of.ensures)
    c.args.out.now header.new.out colours.new.out picture.new.out c.if-out-whole.false header.ensures colours.ensures picture.ensures
