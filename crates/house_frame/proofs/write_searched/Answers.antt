-- `write_searched` meets its contract: the shorter of the delta and the full chunk is the picture's plan, and the rows of a BRUN chunk were planned
-- by the measure.
use mathlib.Core.Path.{◌≡◌, ap, ◌∙◌}
use mathlib.Core.List.{List}
use Prim.Native.Nat.{ℕ, ◌-◌, ◌≤◌}
use native.Mathlib.Omega.{arith}
use lib.Seq.{take_at, length-take-le}
use lib.ListN.{length, take, drop, replicate, length-append, length-replicate}
use Rattle.std.specs.Prelude.{Some}
use Rattle.format.specs.Limits.{max_area}
use Rattle.house_full.proofs.Laws.{sized_small, brun_planned}
use Rattle.house_frame.proofs.Laws.{shorter_brun, shorter_picture}
use Rattle.house_frame.proofs.write_searched.Goals as goal

-- there is room for the rows
room_long : (room : List ℕ) → room ≡ replicate max_area 0 → length room ≡ max_area
room_long room e = ap length e ∙ length-replicate {0} {A = ℕ} max_area 0

rows : (room : List ℕ) (n : ℕ) → room ≡ replicate max_area 0 → n ≤ max_area → length (take (n - 0) room) ≡ n
rows room n e h = length-take-le (n - 0) room (omega (arith, room_long room e)) ∙ omega arith

pub slice_bounds-rows-end : goal.slice_bounds-rows-end
slice_bounds-rows-end c = omega (arith, room_long c.picture_room-rows.result c.picture_room-rows.ensures, sized_small c.requires.1.picture)

pub measure_picture-picture-requires : goal.measure_picture-picture-requires
measure_picture-picture-requires c =
    let long = rows c.picture_room-rows.result (length c.args.next.picture.now) c.picture_room-rows.ensures (omega (arith, sized_small c.requires.1.picture)) in
    (c.requires.1.picture, long)

pub slice_bounds-write_planned-end : goal.slice_bounds-write_planned-end
slice_bounds-write_planned-end c =
    let long = rows c.picture_room-rows.result (length c.args.next.picture.now) c.picture_room-rows.ensures (omega (arith, sized_small c.requires.1.picture)) in
    omega (
      arith,
      length-append c.measure_picture-picture.new.rows (drop (length c.args.next.picture.now - 0) c.picture_room-rows.result),
      c.measure_picture-picture.auto.rows,
      long,
      room_long c.picture_room-rows.result c.picture_room-rows.ensures,
    )

pub write_planned-requires : goal.write_planned-requires
write_planned-requires c =
    let a = c.args in
    let p = c.requires in
    let long = rows c.picture_room-rows.result (length a.next.picture.now) c.picture_room-rows.ensures (omega (arith, sized_small p.1.picture)) in
    let m = c.measure_picture-picture in (
      p.0,
      p.1,
      p.2,
      ap Some m.ensures.0 ∙ shorter_picture a.size a.previous.picture.now a.next.picture.now p.3 a.delta p.4,
      λ k.
          take_at m.new.rows (drop (length a.next.picture.now - 0) c.picture_room-rows.result) (length a.next.picture.now - 0)
          (m.auto.rows ∙ long ∙ omega arith)
          ∙ m.ensures.1
          ∙ brun_planned a.size.width a.size.height a.next.picture.now _ (shorter_brun a.size a.next.picture.now a.delta m.ensures.0 k),
    )
