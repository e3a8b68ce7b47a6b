-- `add_frame` meets its contract: the checks stand in the paper's order, and where all hold the answer about the frame put at the end is the answer
-- about the record.
use mathlib.Core.Path.{sym, refl, ap, ap₂, ◌∙◌}
use mathlib.Core.Bool.{Bool, ◌&&◌}
use Prim.Native.Nat.{◌+◌}
use native.Mathlib.Omega.{arith}
use lib.ListN.{length}
use Rattle.std.specs.Prelude.{Ok}
use Rattle.answer.proofs.Laws.{handed_on}
use Rattle.format.specs.Limits.{area}
use Rattle.format.proofs.Laws.{size_in_lem}
use Rattle.state.specs.State.{shown, enough}
use Rattle.state.specs.Outcome.{lent_bytes}
use Rattle.state.proofs.Laws.{front_exact}
use Rattle.reel_build.specs.Record.{reel_of, Built, built}
use Rattle.reel_build.proofs.Laws.{end_in, add_few, add_closed, add_size, add_short, add_record, Passed, add_stopped, add_done}
use Rattle.reel_build.proofs.add_frame.Goals as goal
use Rattle.reel_build.proofs.add_frame.Goals.{then-not-holds-via-then-not-holds, then-not-holds-via-else-not-holds+then-not-holds-2}

pub returns-then-not-add_ok : goal.returns-then-not-add_ok
returns-then-not-add_ok c =
    let a = c.args in
    let lent_shown = shown a.showing in
    let lent_next = shown a.next in
    sym (add_closed a.reel a.bytes.now lent_shown lent_next (sym c.add_ok.ensures ∙ c.if-not-add_ok.true))

pub returns-then-not-size_fits : goal.returns-then-not-size_fits
returns-then-not-size_fits c =
    let a = c.args in
    let lent_shown = shown a.showing in
    let lent_next = shown a.next in
    sym (add_size a.reel a.bytes.now lent_shown lent_next (sym c.add_ok.ensures ∙ c.if-not-add_ok.false) (sym c.size_fits.ensures ∙ c.if-not-size_fits.true))

pub overflow_mul-n : goal.overflow_mul-n
overflow_mul-n c = let z = c.args.reel.size in omega (arith, (size_in_lem z (sym c.size_fits.ensures ∙ c.if-not-size_fits.false)).area)

pub returns-then-not-holds : goal.returns-then-not-holds
returns-then-not-holds c =
    let a = c.args in
    let lent_shown = shown a.showing in
    let lent_next = shown a.next in
    let short = add_short a.reel a.bytes.now lent_shown lent_next (sym c.add_ok.ensures ∙ c.if-not-add_ok.false)
    (sym c.size_fits.ensures ∙ c.if-not-size_fits.false) in
    elim c.then-not-holds.branch [
      | then-not-holds-via-then-not-holds w ↦
          sym (short (ap (λ (t : Bool). t && enough (area a.reel.size) lent_next) (sym c.holds.ensures ∙ w.if-not-holds.true)))
      | then-not-holds-via-else-not-holds+then-not-holds-2 w ↦
          sym (short (ap₂ (λ (t u : Bool). t && u) (sym c.holds.ensures ∙ w.if-not-holds.false) (sym w.holds-else-not-holds.ensures ∙ w.if-not-holds-2.true)))
    ]

pub returns-then-not-end_ok : goal.returns-then-not-end_ok
returns-then-not-end_ok c =
    let a = c.args in
    let lent_shown = shown a.showing in
    let lent_next = shown a.next in
    sym (add_record a.reel a.bytes.now lent_shown lent_next (sym c.add_ok.ensures ∙ c.if-not-add_ok.false)
    (sym c.size_fits.ensures ∙ c.if-not-size_fits.false)
    (sym c.holds.ensures ∙ c.if-not-holds.false) (sym c.holds-else-not-holds.ensures ∙ c.if-not-holds-2.false) (sym c.end_ok.ensures ∙ c.if-not-end_ok.true))

pub front-requires : goal.front-requires
front-requires c = sym c.holds.ensures ∙ c.if-not-holds.false

pub front-requires-2 : goal.front-requires-2
front-requires-2 c = sym c.holds-else-not-holds.ensures ∙ c.if-not-holds-2.false

pub append-requires : goal.append-requires
append-requires c =
    let a = c.args in
    let z = a.reel.size in
    let sized = sym c.size_fits.ensures ∙ c.if-not-size_fits.false in (
      (end_in a.reel.end (length a.bytes.now) (sym c.end_ok.ensures ∙ c.if-not-end_ok.false)).1,
      rw c.front.ensures (front_exact z (shown a.showing) sized (area z) refl (sym c.holds.ensures ∙ c.if-not-holds.false)),
      rw c.front-2.ensures (front_exact z (shown a.next) sized (area z) refl (sym c.holds-else-not-holds.ensures ∙ c.if-not-holds-2.false)),
    )

pub overflow_add-result : goal.overflow_add-result
overflow_add-result c =
    let r = c.args.reel in omega (arith, add_few r.frames r.closed (sym c.add_ok.ensures ∙ c.if-not-add_ok.false))

pub returns-in_err-end : goal.returns-in_err-end
returns-in_err-end c =
    let a = c.args in
    let lent_shown = shown a.showing in
    let lent_next = shown a.next in
    let p : Passed a.reel a.bytes.now lent_shown lent_next = record {
      taken = sym c.add_ok.ensures ∙ c.if-not-add_ok.false;
      sized = sym c.size_fits.ensures ∙ c.if-not-size_fits.false;
      shown = sym c.holds.ensures ∙ c.if-not-holds.false;
      next = sym c.holds-else-not-holds.ensures ∙ c.if-not-holds-2.false;
      ended = sym c.end_ok.ensures ∙ c.if-not-end_ok.false;
    } in
    ap (λ (y : Built). built a.reel y (lent_bytes c.append.new.bytes)) (handed_on c.from_residual.ensures.1)
    ∙ add_stopped a.reel a.bytes.now lent_shown lent_next p c.append.result c.append.new.bytes _ _ c.front.ensures c.front-2.ensures
    c.append.ensures _ c.in_err-end.was

pub returns : goal.returns
returns c =
    let a = c.args in
    let r = a.reel in
    let lent_shown = shown a.showing in
    let lent_next = shown a.next in
    let p : Passed r a.bytes.now lent_shown lent_next = record {
      taken = sym c.add_ok.ensures ∙ c.if-not-add_ok.false;
      sized = sym c.size_fits.ensures ∙ c.if-not-size_fits.false;
      shown = sym c.holds.ensures ∙ c.if-not-holds.false;
      next = sym c.holds-else-not-holds.ensures ∙ c.if-not-holds-2.false;
      ended = sym c.end_ok.ensures ∙ c.if-not-end_ok.false;
    } in
    ap (λ (t : Bool). built r (Ok (reel_of r.size (r.frames + 1) c.in_ok-end.end t)) (lent_bytes c.append.new.bytes)) (add_few r.frames r.closed p.taken).0
    ∙ add_done r a.bytes.now lent_shown lent_next p c.append.result c.append.new.bytes _ _ c.front.ensures c.front-2.ensures c.append.ensures _ c.in_ok-end.was
