-- `put_colours` meets its contract: the part of the palette comes back with the components as they are shown, or nothing is written.
use mathlib.Core.Path.{ap, sym, ◌∙◌}
use mathlib.Core.List.{map}
use Prim.Native.Nat.{ℕ, ◌-◌, ◌+◌}
use lib.ListN.{take, drop, length-map, length-drop}
use lib.Seq.{length-take-le}
use native.Mathlib.Nat.{add-sub_cancel_left}
use native.Mathlib.Omega.{arith}
use Rattle.words.proofs.Laws.{lent_back, part_length}
use Rattle.walk.specs.Walk.{stored}
use Rattle.walk.specs.declared.Pass.{Pass}
use Rattle.walk.proofs.Laws.{stored_wet}
use Rattle.read_colour.specs.Colour.{level, levels_ok}
use Rattle.read_colour.proofs.put_colours.Goals as goal

pub put_levels-requires : goal.put_levels-requires
put_levels-requires c =
    let a = c.args in
    let p = a.p in record {
      src_len = part_length a.body.now p.from p.len c.requires.0 ∙ sym (part_length a.palette.now p.to p.len (c.requires.1 c.in-Wet.is));
      src_value = ap (λ (n : ℕ). levels_ok a.levels (take n (drop p.from a.body.now))) (add-sub_cancel_left p.from p.len) ∙ c.requires.2;
    }

pub returns-in-Dry : goal.returns-in-Dry
returns-in-Dry c =
    let a = c.args in
    sym (ap (λ (k : Pass). stored k a.palette.now a.p.to (map (level a.levels) (take a.p.len (drop a.p.from a.body.now)))) c.in-Dry.is)

pub returns-in-Wet : goal.returns-in-Wet
returns-in-Wet c =
    let a = c.args in
    let p = a.p in
    let v = map (level a.levels) (take p.len (drop p.from a.body.now)) in
    lent_back a.palette.now c.put_levels.new.dst v p.to (p.to + p.len - p.to)
    (c.put_levels.ensures ∙ ap (λ (n : ℕ). map (level a.levels) (take n (drop p.from a.body.now))) (add-sub_cancel_left p.from p.len))
    (length-map (take p.len (drop p.from a.body.now)) (level a.levels)
    ∙ length-take-le _ _ (simp length-drop (omega (arith, c.requires.0))) ∙ sym (add-sub_cancel_left p.to p.len))
    ∙ stored_wet a.pass a.palette.now p.to v c.in-Wet.is
