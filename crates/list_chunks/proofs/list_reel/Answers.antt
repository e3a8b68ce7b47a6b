-- `list_reel` meets its contract: its text is the three parts, stored one behind the other; they fit into `list_most` bytes.
use mathlib.Core.Path.{◌≡◌, refl}
use mathlib.Core.List.{List, ◌++◌}
use Prim.Native.Nat.{ℕ, ◌+◌, ◌≤◌, ◌<◌}
use native.Mathlib.Omega.{arith}
use lib.ListN.{length, get_or, length-append}
use Rattle.chunks.specs.Spans.{HEADER_BYTES}
use Rattle.list_text.proofs.Laws.{stored_then}
use Rattle.list_text.specs.Text.{head_line, ok_line}
use Rattle.list_chunks.specs.Listing.{children_of}
use Rattle.list_chunks.specs.Room.{Listed, list_most}
use Rattle.list_chunks.proofs.Laws.{chunk_lines_are}
use Rattle.list_chunks.proofs.Short.{listed_head, reel_short}
use Rattle.list_chunks.proofs.list_reel.Goals as goal

-- all of the text fits
room : (b out : List ℕ) (w h frames end : ℕ) → ((i : ℕ) → get_or b i 0 < 256) → Listed b w h frames → HEADER_BYTES ≤ end → end ≤ length b
    → list_most ≤ length out → length (head_line w h frames) + length (children_of b 0 0 end (length b) HEADER_BYTES) + length ok_line ≤ length out
room b out w h frames end bytes l least most fits = omega (arith, reel_short b bytes w h frames end (length b) l least most)

pub put_head-n-requires : goal.put_head-n-requires
put_head-n-requires c = let a = c.args in omega (arith, listed_head a.b.now a.head.picture.width a.head.picture.height a.head.frames c.requires.0, c.requires.3)

pub list_children-m-requires : goal.list_children-m-requires
list_children-m-requires c =
    let a = c.args in
    let p = c.put_head-n in
    let kept : length p.new.out ≡ length a.out.now = p.auto.out in (
      c.requires.1,
      c.requires.2,
      c.requires.0.short,
      omega arith,
      omega (
        arith,
        listed_head a.b.now a.head.picture.width a.head.picture.height a.head.frames c.requires.0,
        c.requires.0.short,
        c.requires.3,
        p.ensures.end,
        kept,
        c.requires.1,
        c.requires.2,
      ),
    )

pub put_ok-requires : goal.put_ok-requires
put_ok-requires c =
    let a = c.args in
    let p = c.put_head-n in
    let kept : length c.list_children-m.new.out ≡ length p.new.out = c.list_children-m.auto.out in
    let kept₀ : length p.new.out ≡ length a.out.now = p.auto.out in
    omega (
      arith,
      kept,
      kept₀,
      room a.b.now a.out.now a.head.picture.width a.head.picture.height a.head.frames a.end (λ i. omega (arith, c.type_inv.b i)) c.requires.0 c.requires.1
          c.requires.2 c.requires.3,
      p.ensures.end,
      c.list_children-m.ensures.end,
    )

pub returns : goal.returns
returns c =
    let a = c.args in
    let p = c.put_head-n in
    let kept : length p.new.out ≡ length a.out.now = p.auto.out in
    let head = head_line a.head.picture.width a.head.picture.height a.head.frames in
    let lines = children_of a.b.now 0 0 a.end (length a.b.now) HEADER_BYTES in
    let r = room a.b.now a.out.now a.head.picture.width a.head.picture.height a.head.frames a.end (λ i. omega (arith, c.type_inv.b i))
    c.requires.0 c.requires.1 c.requires.2 c.requires.3 in
    let i = length-append head (lines ++ ok_line) in
    let j = length-append lines ok_line in
    let e = p.ensures.end in
    rw (← chunk_lines_are a.b.now a.end (length a.b.now) refl)
    (stored_then (omega arith) p.ensures (stored_then {t = lines} (omega arith) c.list_children-m.ensures c.put_ok.ensures))
