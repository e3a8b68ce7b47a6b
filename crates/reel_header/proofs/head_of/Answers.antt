-- `head_of` meets its contract: the checks stand in the paper's order.
use mathlib.Core.Bool.{true, false}
use mathlib.Core.Path.{◌∙◌, sym, refl}
use borrow.Author.Tests.{lt-leb, le-leb}
use Rattle.chunks.specs.Spans.{HEADER_BYTES}
use Rattle.reel_header.proofs.Laws.{head_is}
use Rattle.reel_header.proofs.head_of.Goals as goal

pub returns-then-b-lt-HEADER_BYTES : goal.returns-then-b-lt-HEADER_BYTES
returns-then-b-lt-HEADER_BYTES c = head_is _ c.args.b.now _ _ _ _ _ _ _ false _ _ _ _ _ refl refl refl refl refl refl refl
    (lt-leb HEADER_BYTES _ c.if-b-lt-HEADER_BYTES.true) refl refl refl refl refl

pub returns-then-not-magic_ok : goal.returns-then-not-magic_ok
returns-then-not-magic_ok c = head_is _ c.args.b.now _ _ _ _ _ _ _ true false _ _ _ _ c.u16_at.ensures.value refl refl refl refl refl refl
    (le-leb HEADER_BYTES _ c.if-b-lt-HEADER_BYTES.false) (sym c.magic_ok.ensures ∙ c.if-not-magic_ok.true) refl refl refl refl

pub returns-then-size-lt-HEADER_BYTES : goal.returns-then-size-lt-HEADER_BYTES
returns-then-size-lt-HEADER_BYTES c = head_is _ c.args.b.now _ _ _ _ _ _ _ true true false _ _ _ c.u16_at.ensures.value c.u32_at-size.ensures.value
    refl refl refl refl refl (le-leb HEADER_BYTES _ c.if-b-lt-HEADER_BYTES.false) (sym c.magic_ok.ensures ∙ c.if-not-magic_ok.false)
    (lt-leb HEADER_BYTES _ c.if-size-lt-HEADER_BYTES.true) refl refl refl

pub returns-then-b-size : goal.returns-then-b-size
returns-then-b-size c = head_is _ c.args.b.now _ _ _ _ _ _ _ true true true false _ _ c.u16_at.ensures.value c.u32_at-size.ensures.value refl refl
    refl refl refl (le-leb HEADER_BYTES _ c.if-b-lt-HEADER_BYTES.false) (sym c.magic_ok.ensures ∙ c.if-not-magic_ok.false)
    (le-leb HEADER_BYTES _ c.if-size-lt-HEADER_BYTES.false) (lt-leb _ _ c.if-b-size.true) refl refl

pub returns-then-not-size_fits : goal.returns-then-not-size_fits
returns-then-not-size_fits c =
    head_is _ c.args.b.now _ _ _ _ _ _ _ true true true true false _ c.u16_at.ensures.value c.u32_at-size.ensures.value c.size_at-picture.ensures
    refl refl refl refl
    (le-leb HEADER_BYTES _ c.if-b-lt-HEADER_BYTES.false) (sym c.magic_ok.ensures ∙ c.if-not-magic_ok.false)
    (le-leb HEADER_BYTES _ c.if-size-lt-HEADER_BYTES.false) (le-leb _ _ c.if-b-size.false) (sym c.size_fits.ensures ∙ c.if-not-size_fits.true) refl

pub returns-then-not-form_ok : goal.returns-then-not-form_ok
returns-then-not-form_ok c =
    head_is _ c.args.b.now _ _ _ _ _ _ _ true true true true true false c.u16_at.ensures.value c.u32_at-size.ensures.value c.size_at-picture.ensures
    c.u16_at-frames.ensures.value c.u16_at-2.ensures.value c.u16_at-3.ensures.value refl
    (le-leb HEADER_BYTES _ c.if-b-lt-HEADER_BYTES.false) (sym c.magic_ok.ensures ∙ c.if-not-magic_ok.false)
    (le-leb HEADER_BYTES _ c.if-size-lt-HEADER_BYTES.false) (le-leb _ _ c.if-b-size.false) (sym c.size_fits.ensures ∙ c.if-not-size_fits.false)
    (sym c.form_ok.ensures ∙ c.if-not-form_ok.true)

pub returns : goal.returns
returns c =
    head_is _ c.args.b.now _ _ _ _ _ _ _ true true true true true true c.u16_at.ensures.value c.u32_at-size.ensures.value c.size_at-picture.ensures
    c.u16_at-frames.ensures.value c.u16_at-2.ensures.value c.u16_at-3.ensures.value c.delay_at.ensures
    (le-leb HEADER_BYTES _ c.if-b-lt-HEADER_BYTES.false) (sym c.magic_ok.ensures ∙ c.if-not-magic_ok.false)
    (le-leb HEADER_BYTES _ c.if-size-lt-HEADER_BYTES.false) (le-leb _ _ c.if-b-size.false) (sym c.size_fits.ensures ∙ c.if-not-size_fits.false)
    (sym c.form_ok.ensures ∙ c.if-not-form_ok.false)
