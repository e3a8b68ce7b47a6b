-- `word_at` meets its contract: the columns noted are the tile row's, so that its tiles are.
use mathlib.Core.Path.{ap, ◌∙◌}
use Rattle.board_tiles.specs.Marks.{word_of}
use Rattle.board_tiles.specs.Noted.{noted}
use Rattle.board_tiles.proofs.Laws.{tiles_ceil}
use Rattle.board_tiles.proofs.Noting.{made}
use Rattle.board_tiles.proofs.Pair.word_at.Goals as goal

pub returns : goal.returns
returns c = let s = c.args.self in made s.width s.height s.previous.now s.next.now c.args.j _ _ _ c.requires.0 c.note_tiles.ensures
    (c.word_of.ensures ∙ ap (word_of (noted c.note_tiles.new.marks)) (c.div_ceil.ensures ∙ tiles_ceil s.width))
