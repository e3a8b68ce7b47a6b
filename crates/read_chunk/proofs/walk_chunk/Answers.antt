-- A kind that has no place in the format is a fault before its body is looked at; any other's body is walked over by its kind.
use mathlib.Core.Path.{refl, ap, sym, ◌∙◌}
use mathlib.Core.Bool.{true, false}
use Rattle.walk.specs.Walk.{wrote}
use Rattle.read_chunk.specs.Chunk.{ChunkWalk}
use Rattle.read_chunk.proofs.Laws.{chunk_by, no_write}
use Rattle.read_chunk.proofs.walk_chunk.Goals as goal

pub returns-then-not-kind_ok : goal.returns-then-not-kind_ok
returns-then-not-kind_ok c =
    let a = c.args in
    no_write _ _ a.pass a.picture.now a.palette.now _ _
    (chunk_by a.size a.kind a.body.now false (sym c.kind_ok.ensures ∙ c.if-not-kind_ok.true)) refl refl

pub returns : goal.returns
returns c =
    let a = c.args in
    let x = c.walk_kind in
    let here = sym (chunk_by a.size a.kind a.body.now true (sym c.kind_ok.ensures ∙ c.if-not-kind_ok.false)) in record {
      verdict = x.ensures.verdict ∙ ap (λ (w : ChunkWalk). w.verdict) here;
      pixels = x.ensures.pixels ∙ ap (λ (w : ChunkWalk). wrote a.pass w.pixels a.picture.now) here;
      colours = x.ensures.colours ∙ ap (λ (w : ChunkWalk). wrote a.pass w.colours a.palette.now) here;
    }
