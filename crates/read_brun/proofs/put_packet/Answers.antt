-- `put_packet` meets its contract: what is stored in a wet pass; a dry one changes nothing.
use Rattle.read_brun.specs.Brun.{pixels}
use Rattle.walk.proofs.Laws.{stored_wet}
use mathlib.Core.Path.{◌∙◌}
use Rattle.read_brun.proofs.put_packet.Goals as goal

pub returns-in-Wet : goal.returns-in-Wet
returns-in-Wet c =
    let a = c.args in
    c.put_pixels.ensures ∙ stored_wet a.pass a.picture.now a.to (pixels a.body.now a.at a.code) c.in-Wet.is
