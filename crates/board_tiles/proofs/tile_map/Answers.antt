-- `tile_map` meets its contract: the checks stand in the order of the paper, and the words are stored only where all held.
use native.Mathlib.Omega.{arith}
use mathlib.Core.Path.{sym, ◌∙◌}
use Rattle.state.proofs.Laws.{fitted_none, fitted_whole}
use Rattle.format.proofs.Laws.{size_ok_in}
use Rattle.board_tiles.specs.Mapping.{tile_words}
use Rattle.board_tiles.specs.Tiles.{tiles}
use Rattle.board_tiles.proofs.Laws.{map_size, map_previous, map_next, map_fitted, length_words, tiles_ceil}
use Rattle.board_tiles.proofs.tile_map.Goals as goal

pub returns-then-not-size_ok : goal.returns-then-not-size_ok
returns-then-not-size_ok c = let a = c.args in map_size a.width a.height a.previous.now a.next.now a.words.now (sym c.size_ok.ensures ∙ c.if-not-size_ok.true)

pub overflow_mul-area : goal.overflow_mul-area
overflow_mul-area c = omega (arith, (size_ok_in c.args.width c.args.height (sym c.size_ok.ensures ∙ c.if-not-size_ok.false)).area)

pub returns-then-previous-area : goal.returns-then-previous-area
returns-then-previous-area c = let a = c.args in
    map_previous a.width a.height a.previous.now a.next.now a.words.now (sym c.size_ok.ensures ∙ c.if-not-size_ok.false) c.if-previous-area.true

pub returns-then-next-area : goal.returns-then-next-area
returns-then-next-area c = let a = c.args in
    map_next a.width a.height a.previous.now a.next.now a.words.now (sym c.size_ok.ensures ∙ c.if-not-size_ok.false) c.if-previous-area.false
    c.if-next-area.true

pub returns-then-words-count : goal.returns-then-words-count
returns-then-words-count c =
    let a = c.args in
    fitted_none (tile_words a.width a.height a.previous.now a.next.now) a.words.now c.div_ceil-count.result
    (length_words a.width a.height a.previous.now a.next.now 0 (tiles a.height) ∙ sym (c.div_ceil-count.ensures ∙ tiles_ceil a.height)) c.if-words-count.true
    ∙ map_fitted a.width a.height a.previous.now a.next.now a.words.now (sym c.size_ok.ensures ∙ c.if-not-size_ok.false) c.if-previous-area.false
    c.if-next-area.false

pub store_words-requires : goal.store_words-requires
store_words-requires c = omega (arith, c.div_ceil-count.ensures, tiles_ceil c.args.height)

pub returns : goal.returns
returns c =
    let a = c.args in
    fitted_whole (tile_words a.width a.height a.previous.now a.next.now) a.words.now c.div_ceil-count.result
    (length_words a.width a.height a.previous.now a.next.now 0 (tiles a.height) ∙ sym (c.div_ceil-count.ensures ∙ tiles_ceil a.height))
    _ c.if-words-count.false c.store_words.ensures
    ∙ map_fitted a.width a.height a.previous.now a.next.now a.words.now (sym c.size_ok.ensures ∙ c.if-not-size_ok.false) c.if-previous-area.false
    c.if-next-area.false
