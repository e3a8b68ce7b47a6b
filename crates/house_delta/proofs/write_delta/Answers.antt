-- `write_delta` meets its contract: in each format the body is that of its delta.
use mathlib.Core.Path.{sym, ap, ◌∙◌}
use lib.ListN.{length}
use Rattle.words.specs.Writes.{put}
use Rattle.house_delta.proofs.Laws.{body_by, asked}
use Rattle.house_delta.proofs.write_delta.Goals as goal

pub write_delta-requires : goal.write_delta-requires
write_delta-requires c =
    let a = c.args in
    let p = c.requires in
    asked a.size a.previous.now a.next.now c.in-Flc.is p.0 p.1 a.at (length a.out.now) p.2

pub write_delta-requires-in-Fli : goal.write_delta-requires-in-Fli
write_delta-requires-in-Fli c =
    let a = c.args in
    let p = c.requires in
    asked a.size a.previous.now a.next.now c.in-Fli.is p.0 p.1 a.at (length a.out.now) p.2

pub returns-in-Flc : goal.returns-in-Flc
returns-in-Flc c =
    let a = c.args in
    c.write_delta.ensures ∙ ap (put a.out.now a.at) (sym (body_by a.size a.previous.now a.next.now c.in-Flc.is))

pub returns-in-Fli : goal.returns-in-Fli
returns-in-Fli c =
    let a = c.args in
    c.write_delta-in-Fli.ensures ∙ ap (put a.out.now a.at) (sym (body_by a.size a.previous.now a.next.now c.in-Fli.is))
