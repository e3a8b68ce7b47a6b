-- `open_fli` meets its contract: the checks stand in the paper's order, and where all hold the header comes back in the first 128 bytes.
use mathlib.Core.Bool.{true, false}
use mathlib.Core.Path.{refl, sym, ap, ◌∙◌}
use mathlib.Core.List.{◌++◌}
use lib.ListN.{drop}
use Rattle.std.specs.Prelude.{Ok}
use Rattle.reel_build.specs.declared.Reel.{Reel}
use Rattle.reel_build.specs.Record.{no_reel, built}
use native.Mathlib.Omega.{arith}
use borrow.Author.Tests.{le-leb, lt-leb}
use lib.Seq.{length-take-le}
use Rattle.format.specs.Limits.{size_of}
use Rattle.format.specs.declared.Format.TheVariants.{Fli}
use Rattle.format.proofs.Laws.{size_in_lem}
use Rattle.delay.specs.Delay.{jiffies}
use Rattle.state.specs.Outcome.{lent_bytes}
use Rattle.reel_header.specs.Written.{opened_fli}
use Rattle.reel_header.proofs.Laws.{opened_fli_length}
use Rattle.reel_build.proofs.Laws.{opening_short, opening_done, open_fli_is}
use Rattle.reel_build.proofs.open_fli.Goals as goal

pub returns-then-not-size_fits : goal.returns-then-not-size_fits
returns-then-not-size_fits c =
    let a = c.args in
    open_fli_is a.width a.height a.bytes.now false a.delay _ (sym c.size_fits.ensures ∙ c.if-not-size_fits.true) refl

pub returns-then-delay-gt65535 : goal.returns-then-delay-gt65535
returns-then-delay-gt65535 c =
    let a = c.args in
    open_fli_is a.width a.height a.bytes.now true a.delay false (sym c.size_fits.ensures ∙ c.if-not-size_fits.false) (lt-leb a.delay 65535 (omega arith))

pub returns-then-bytes-lt-HEADER_BYTES : goal.returns-then-bytes-lt-HEADER_BYTES
returns-then-bytes-lt-HEADER_BYTES c =
    let a = c.args in
    sym (opening_short (size_of Fli a.width a.height) (opened_fli a.width a.height (jiffies a.delay)) a.bytes.now c.if-bytes-lt-HEADER_BYTES.true)
    ∙ open_fli_is a.width a.height a.bytes.now true a.delay true (sym c.size_fits.ensures ∙ c.if-not-size_fits.false)
    (le-leb a.delay 65535 c.if-delay-gt65535.false)

pub write_fli_header-requires : goal.write_fli_header-requires
write_fli_header-requires c =
    let a = c.args in
    let s = size_in_lem (size_of Fli a.width a.height) (sym c.size_fits.ensures ∙ c.if-not-size_fits.false) in
    (length-take-le 128 a.bytes.now c.if-bytes-lt-HEADER_BYTES.false, omega (arith, s.wide), omega (arith, s.high))

pub returns : goal.returns
returns c =
    let a = c.args in
    ap (λ (r : Reel). built no_reel (Ok r) (lent_bytes (c.write_fli_header.new.out ++ drop 128 a.bytes.now))) c.new_reel.ensures
    ∙ opening_done (size_of Fli a.width a.height) (opened_fli a.width a.height (jiffies a.delay)) a.bytes.now
    (opened_fli_length a.width a.height (jiffies a.delay)) c.if-bytes-lt-HEADER_BYTES.false c.write_fli_header.new.out c.write_fli_header.ensures
    ∙ open_fli_is a.width a.height a.bytes.now true a.delay true (sym c.size_fits.ensures ∙ c.if-not-size_fits.false)
    (le-leb a.delay 65535 c.if-delay-gt65535.false)
