-- A copy takes the data as it stands, a repeat fills with the one pixel or pair: the law of each case.
use mathlib.Core.Path.{◌≡◌, ap, ◌∙◌, sym}
use Prim.Native.Nat.{ℕ, ◌+◌, ◌-◌, ◌*◌}
use native.Mathlib.Omega.{arith}
use lib.ListN.{take, drop}
use Rattle.words.proofs.Laws.{span_length, span_back}
use Rattle.read_packets.proofs.Laws.{data_repeat, copied_pixels, copied_bytes, repeated_pixels, pixels_copy, pixels_repeat, length_pixels}
use Rattle.read_packets.specs.Packets.{repeated, pixels}
use Rattle.read_packets.proofs.put_pixels.Goals as goal

pub overflow_add-stop : goal.overflow_add-stop
overflow_add-stop g c = omega (arith, copied_pixels g.row.UNIT c.args.code c.from-len.result c.from-len.ensures c.if-code-lt128.true)

pub overflow_add-end : goal.overflow_add-end
overflow_add-end g c = omega (arith, copied_bytes g.row.UNIT c.args.code c.from-len.result c.from-len.ensures c.if-code-lt128.true)

pub slice_bounds-copy-end : goal.slice_bounds-copy-end
slice_bounds-copy-end g c = omega (arith, copied_pixels g.row.UNIT c.args.code c.from-len.result c.from-len.ensures c.if-code-lt128.true)

pub slice_bounds-copy-end-then-code-lt128 : goal.slice_bounds-copy-end-then-code-lt128
slice_bounds-copy-end-then-code-lt128 g c = omega (arith, copied_bytes g.row.UNIT c.args.code c.from-len.result c.from-len.ensures c.if-code-lt128.true)

pub copy-requires : goal.copy-requires
copy-requires g c =
    let a = c.args in
    let n = g.row.UNIT * c.from-len.result in
    let d = copied_bytes g.row.UNIT a.code c.from-len.result c.from-len.ensures c.if-code-lt128.true in
    let m = copied_pixels g.row.UNIT a.code c.from-len.result c.from-len.ensures c.if-code-lt128.true in
    span_length a.body.now a.at (a.at + n) n (omega (arith, d)) (omega arith)
    ∙ sym (span_length a.picture.now a.to (a.to + n) n (omega (arith, m)) (omega arith))

pub returns-then-code-lt128 : goal.returns-then-code-lt128
returns-then-code-lt128 g c =
    let a = c.args in
    let n = g.row.UNIT * c.from-len.result in
    let m = copied_pixels g.row.UNIT a.code c.from-len.result c.from-len.ensures c.if-code-lt128.true in
    let z : a.at + n - a.at ≡ g.row.UNIT * a.code = omega (arith, ap (λ (k : ℕ). g.row.UNIT * k) c.from-len.ensures) in
    span_back a.picture.now c.copy.new.dst (pixels g.row.UNIT a.body.now a.at a.code) a.to (a.to + n) n
    (c.copy.ensures ∙ ap (λ (k : ℕ). take k (drop a.at a.body.now)) z ∙ sym (pixels_copy g.row.UNIT a.body.now a.at a.code c.if-code-lt128.true))
    (length_pixels g.row.UNIT a.body.now a.at a.code c.requires.0 ∙ m) (omega arith)

pub overflow_add-stop-2 : goal.overflow_add-stop-2
overflow_add-stop-2 g c = omega (arith, repeated_pixels g.row.UNIT c.args.code c.from-n.result c.from-n.ensures c.if-code-lt128.false)

pub overflow_add-end-2 : goal.overflow_add-end-2
overflow_add-end-2 g c = omega (arith, data_repeat g.row.UNIT c.args.code c.if-code-lt128.false)

pub slice_bounds-repeat-end : goal.slice_bounds-repeat-end
slice_bounds-repeat-end g c = omega (arith, repeated_pixels g.row.UNIT c.args.code c.from-n.result c.from-n.ensures c.if-code-lt128.false)

pub slice_bounds-repeat-end-2 : goal.slice_bounds-repeat-end-2
slice_bounds-repeat-end-2 g c = omega (arith, data_repeat g.row.UNIT c.args.code c.if-code-lt128.false)

pub repeat-requires : goal.repeat-requires
repeat-requires g c =
    let a = c.args in
    let n = 256 - c.from-n.result in
    let d = data_repeat g.row.UNIT a.code c.if-code-lt128.false in
    let m = repeated_pixels g.row.UNIT a.code c.from-n.result c.from-n.ensures c.if-code-lt128.false in
    let v = span_length a.body.now a.at (a.at + g.row.UNIT) g.row.UNIT (omega (arith, d)) (omega arith) in (
      omega (arith, v),
      omega (arith, v),
      span_length a.picture.now a.to (a.to + g.row.UNIT * n) (g.row.UNIT * n) (omega (arith, m)) (omega arith) ∙ ap (λ (k : ℕ). k * n) (sym v),
    )

pub returns : goal.returns
returns g c =
    let a = c.args in
    let n = 256 - c.from-n.result in
    let m = repeated_pixels g.row.UNIT a.code c.from-n.result c.from-n.ensures c.if-code-lt128.false in
    let z : a.at + g.row.UNIT - a.at ≡ g.row.UNIT = omega arith in
    span_back a.picture.now c.repeat.new.part (pixels g.row.UNIT a.body.now a.at a.code) a.to (a.to + g.row.UNIT * n) (g.row.UNIT * n)
    (c.repeat.ensures ∙ ap (λ (k : ℕ). repeated n (take k (drop a.at a.body.now))) z
    ∙ ap (λ (k : ℕ). repeated (256 - k) (take g.row.UNIT (drop a.at a.body.now))) c.from-n.ensures
    ∙ sym (pixels_repeat g.row.UNIT a.body.now a.at a.code c.if-code-lt128.false))
    (length_pixels g.row.UNIT a.body.now a.at a.code c.requires.0 ∙ m) (omega arith)
