-- `write_full` meets its contract: the kind tells which chunk the full one is; a BRUN body is written before its header, which has its size.
use mathlib.Core.Path.{sym, refl, ap, ◌∙◌}
use mathlib.Core.List.{[]}
use Prim.Native.Nat.{ℕ, ◌+◌}
use native.Mathlib.Omega.{arith}
use lib.ListN.{length}
use Rattle.words.specs.Writes.{put}
use Rattle.words.proofs.Laws.{put_nil, put_header_first, put_header_last}
use Rattle.format.specs.Format.{FLI_BLACK, FLI_BRUN, FLI_COPY}
use Rattle.house_full.specs.Full.{brun_body}
use Rattle.house_full.proofs.Laws.{kind_black, kind_brun, kind_copy, taken_size}
use Rattle.house_full.proofs.write_full.Goals as goal

pub put_header-requires : goal.put_header-requires
put_header-requires c =
    let a = c.args in
    let t = kind_black a.width a.height a.picture.now c.requires.1 c.in-13.is in
    (omega (arith, taken_size t), omega arith)

pub returns-in-13 : goal.returns-in-13
returns-in-13 c =
    let a = c.args in
    let t = kind_black a.width a.height a.picture.now c.requires.1 c.in-13.is in
    put_header_first a.out.now c.put_header.new.out c.put_header.new.out a.at 6 FLI_BLACK [] refl (omega (arith, taken_size t)) c.put_header.ensures
    (sym (put_nil c.put_header.new.out (a.at + 6)))
    ∙ ap (put a.out.now a.at) (sym t.whole)

pub write_brun-size-requires : goal.write_brun-size-requires
write_brun-size-requires c =
    let a = c.args in
    let t = kind_brun a.width a.height a.picture.now c.requires.1 c.in-15.is in
    (c.requires.0, c.requires.2 c.in-15.is, omega (arith, taken_size t))

pub put_header-requires-in-15 : goal.put_header-requires-in-15
put_header-requires-in-15 c =
    let a = c.args in
    let t = kind_brun a.width a.height a.picture.now c.requires.1 c.in-15.is in
    (omega (arith, taken_size t), omega arith)

pub returns-in-15 : goal.returns-in-15
returns-in-15 c =
    let a = c.args in
    let t = kind_brun a.width a.height a.picture.now c.requires.1 c.in-15.is in
    put_header_last a.out.now c.write_brun-size.new.out c.put_header-in-15.new.out a.at (6 + c.write_brun-size.result) FLI_BRUN
    (brun_body a.width a.height a.picture.now)
    (ap (λ (n : ℕ). 6 + n) c.write_brun-size.ensures.0) (omega (arith, taken_size t)) c.write_brun-size.ensures.1 c.put_header-in-15.ensures
    ∙ ap (put a.out.now a.at) (sym t.whole)

pub put_header-requires-in_default : goal.put_header-requires-in_default
put_header-requires-in_default c =
    let a = c.args in
    let t = kind_copy a.width a.height a.picture.now c.requires.1 (λ e. absurd (omega arith)) (λ e. absurd (omega arith)) in
    (omega (arith, taken_size t), omega arith)

pub put_bytes-requires : goal.put_bytes-requires
put_bytes-requires c =
    let a = c.args in
    let t = kind_copy a.width a.height a.picture.now c.requires.1 (λ e. absurd (omega arith)) (λ e. absurd (omega arith)) in
    omega (arith, taken_size t)

pub returns-in_default : goal.returns-in_default
returns-in_default c =
    let a = c.args in
    let t = kind_copy a.width a.height a.picture.now c.requires.1 (λ e. absurd (omega arith)) (λ e. absurd (omega arith)) in
    put_header_first a.out.now c.put_header-in_default.new.out c.put_bytes.new.out a.at (6 + length a.picture.now) FLI_COPY a.picture.now
    refl (omega (arith, taken_size t)) c.put_header-in_default.ensures c.put_bytes.ensures
    ∙ ap (put a.out.now a.at) (sym t.whole)
