-- `put_pixels` meets its contract: a repeat fills as many pixels as its type says, a copy takes as many bytes.
use Rattle.read_brun.proofs.Laws.{data_repeat, data_copy, pixels_repeat, pixels_copy, length_pixels}
use Rattle.read_brun.specs.Brun.{pixels}
use Rattle.words.proofs.Laws.{magnitude_plus, magnitude_minus, span_length, span_back}
use lib.ListN.{take, drop, get_or, replicate}
use native.Mathlib.Omega.{arith}
use Prim.Native.Nat.{ℕ, ◌+◌, ◌-◌}
use mathlib.Core.Path.{◌≡◌, ap, ◌∙◌, sym}
use Rattle.read_brun.proofs.put_pixels.Goals as goal

pub overflow_add-stop : goal.overflow_add-stop
overflow_add-stop c = omega (arith, magnitude_plus c.args.code c.if-code-lt128.true)

pub slice_bounds-fill-end : goal.slice_bounds-fill-end
slice_bounds-fill-end c = omega (arith, magnitude_plus c.args.code c.if-code-lt128.true)

pub bounds-body-at : goal.bounds-body-at
bounds-body-at c = omega (arith, data_repeat c.args.code c.if-code-lt128.true)

pub returns-then-code-lt128 : goal.returns-then-code-lt128
returns-then-code-lt128 c =
    let a = c.args in
    let n = c.from.result in
    let m : n ≡ a.code = c.from.ensures in
    let k = magnitude_plus a.code c.if-code-lt128.true in
    span_back a.picture.now c.fill.new.part (pixels a.body.now a.at a.code) a.to (a.to + n) n
    (c.fill.ensures ∙ ap (λ (i : ℕ). replicate i (get_or a.body.now a.at 0))
    (span_length a.picture.now a.to (a.to + n) a.code (omega (arith, k)) (omega arith)) ∙ sym (pixels_repeat a.body.now a.at a.code c.if-code-lt128.true))
    (length_pixels a.body.now a.at a.code c.requires.0 ∙ k ∙ sym m) (omega arith)

pub overflow_add-stop-2 : goal.overflow_add-stop-2
overflow_add-stop-2 c = omega (arith, magnitude_minus c.args.code c.if-code-lt128.false)

pub overflow_add-end : goal.overflow_add-end
overflow_add-end c = omega (arith, data_copy c.args.code c.if-code-lt128.false)

pub slice_bounds-copy-end : goal.slice_bounds-copy-end
slice_bounds-copy-end c = omega (arith, magnitude_minus c.args.code c.if-code-lt128.false)

pub slice_bounds-copy-end-2 : goal.slice_bounds-copy-end-2
slice_bounds-copy-end-2 c = omega (arith, data_copy c.args.code c.if-code-lt128.false)

pub copy-requires : goal.copy-requires
copy-requires c =
    let a = c.args in
    let n = 256 - c.from-n.result in
    span_length a.body.now a.at (a.at + n) n (omega (arith, data_copy a.code c.if-code-lt128.false)) (omega arith)
    ∙ sym (span_length a.picture.now a.to (a.to + n) n (omega (arith, magnitude_minus a.code c.if-code-lt128.false)) (omega arith))

pub returns : goal.returns
returns c =
    let a = c.args in
    let n = 256 - c.from-n.result in
    let k = magnitude_minus a.code c.if-code-lt128.false in
    let z : a.at + n - a.at ≡ 256 - a.code = omega arith in
    span_back a.picture.now c.copy.new.dst (pixels a.body.now a.at a.code) a.to (a.to + n) n
    (c.copy.ensures ∙ ap (λ (i : ℕ). take i (drop a.at a.body.now)) z ∙ sym (pixels_copy a.body.now a.at a.code c.if-code-lt128.false))
    (length_pixels a.body.now a.at a.code c.requires.0 ∙ omega (arith, k)) (omega arith)
