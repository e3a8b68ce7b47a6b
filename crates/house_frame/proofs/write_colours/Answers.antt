-- `write_colours` meets its contract: no plan stands for equal palettes; any other has the size of the chunk written.
use Rattle.house_frame.proofs.Laws.{put_as, colour_none, colour_planned}
use Rattle.house_colour.specs.Colours.{colour_body}
use Rattle.format.specs.Format.{FLI_COLOR256}
use Rattle.words.proofs.Laws.{put_nil, put_header_first}
use Rattle.words.specs.Words.{chunk}
use Rattle.house_frame.specs.Plans.{plan_size}
use native.Mathlib.Omega.{arith}
use mathlib.Core.Path.{sym, ap}
use mathlib.Core.List.{[]}
use Rattle.house_frame.proofs.write_colours.Goals as goal

pub returns-in_default : goal.returns-in_default
returns-in_default c =
    let a = c.args in
    put_as a.out.now a.out.now [] _ a.at (colour_none a.previous.now a.next.now c.requires.2 c.in_default.is) (sym (put_nil a.out.now a.at))

pub put_header-requires : goal.put_header-requires
put_header-requires c =
    let k = colour_planned c.args.previous.now c.args.next.now c.requires.2 _ c.in-Some.is in
    (omega (arith, k.size, ap plan_size c.in-Some.is), omega arith)

pub write_colour-requires : goal.write_colour-requires
write_colour-requires c =
    let k = colour_planned c.args.previous.now c.args.next.now c.requires.2 _ c.in-Some.is in
    (c.requires.0, c.requires.1, omega (arith, k.size, ap plan_size c.in-Some.is))

pub returns-in-Some : goal.returns-in-Some
returns-in-Some c =
    let a = c.args in
    let k = colour_planned a.previous.now a.next.now c.requires.2 _ c.in-Some.is in
    let header = c.put_header in
    let body = c.write_colour in
    put_as a.out.now body.new.out (chunk FLI_COLOR256 (colour_body a.previous.now a.next.now)) _ a.at k.bytes
    (put_header_first a.out.now header.new.out body.new.out a.at c.in-Some.chunk.size FLI_COLOR256 (colour_body a.previous.now a.next.now)
    k.size (omega (arith, k.size, ap plan_size c.in-Some.is)) header.ensures body.ensures)
