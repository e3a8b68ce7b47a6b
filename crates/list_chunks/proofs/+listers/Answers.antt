-- The listers meet their contracts: each turn of the loop stores a child's line and what is inside it, and a container its children.
use Rattle.std.proofs.Common.{◌≡◌, ◌+◌, ◌-◌, ◌*◌, ◌<◌, true, false, cond, [], length, sym, ◌∙◌, arith}
use Rattle.list_text.specs.Stored.{Stored}
use Rattle.list_text.specs.Text.{chunk_line}
use Rattle.list_text.proofs.Resumes.{resumes_as, resumes_then, resumes_done, stored_none, stored_length}
use Rattle.list_chunks.specs.Listing.{opens, container_of}
use Rattle.list_chunks.proofs.Laws.{children_none, children_step, container_deep, container_short, container_children}
use Rattle.list_chunks.proofs.Short.{child_in, opened_short}
use Rattle.list_chunks.proofs.+listers.Goals as goal
use Rattle.list_chunks.proofs.+listers.Goals.{list_children-then-is_opened, list_children-else-is_opened, list_container-then-depth-ge-LIST_DEPTH-via-then-depth-ge-LIST_DEPTH, list_container-then-depth-ge-LIST_DEPTH-via-else-depth-ge-LIST_DEPTH+then-end-at}

pub list_children-returns-in_default : goal.list_children-returns-in_default
list_children-returns-in_default t c =
    let a = c.args in
    let l = c.loop in
    let stop = children_step _ a.b.now a.depth a.parent a.to (a.count - l.counter) (a.count - (l.counter + 1)) l.at (omega arith) _
    (sym c.header_at.ensures ∙ c.in_default.is) in
    resumes_done (resumes_as stop l.invariant.resumes)

pub list_children-overflow_sub-child : goal.list_children-overflow_sub-child
list_children-overflow_sub-child t c =
    let a = c.args in
    let x = child_in a.b.now (λ i. omega (arith, c.type_inv.b i)) (omega arith) a.depth a.to c.loop.at _ _ (omega arith) (omega arith)
    (sym c.header_at.ensures ∙ c.in-Ok.is) in
    omega arith

pub list_children-put_line-n-requires : goal.list_children-put_line-n-requires
list_children-put_line-n-requires t c =
    let a = c.args in
    let x = child_in a.b.now (λ i. omega (arith, c.type_inv.b i)) (omega arith) a.depth a.to c.loop.at _ _ (omega arith) (omega arith)
    (sym c.header_at.ensures ∙ c.in-Ok.is) in
    omega arith

pub list_children-list_container-n-requires : goal.list_children-list_container-n-requires
list_children-list_container-n-requires t c =
    let a = c.args in
    let l = c.loop in
    let x = child_in a.b.now (λ i. omega (arith, c.type_inv.b i)) (omega arith) a.depth a.to l.at _ _ (omega arith) (omega arith)
    (sym c.header_at.ensures ∙ c.in-Ok.is) in
    let less : 2 * (c.in-Ok.child.end - l.at) < t = omega arith in
    (less, (omega arith, omega arith, omega arith, omega arith, omega arith))

pub list_children-loop-preserved : goal.list_children-loop-preserved
list_children-loop-preserved t c =
    let a = c.args in
    let l = c.loop in
    let kind = c.in-Ok.child.kind in
    let end = c.in-Ok.child.end in
    let p = c.put_line-n in
    let j = c.if-is_opened in
    let there = sym c.header_at.ensures ∙ c.in-Ok.is in
    let x = child_in a.b.now (λ i. omega (arith, c.type_inv.b i)) (omega arith) a.depth a.to l.at _ _ (omega arith) (omega arith) there in
    let line = chunk_line a.depth l.at kind (end - l.at) in
    let opened = cond (opens kind a.parent) (container_of a.b.now a.depth l.at end kind) [] in
    let room = opened_short a.b.now (λ i. omega (arith, c.type_inv.b i)) (omega arith) a.depth (omega arith) (opens kind a.parent) a.to l.at
    kind end (omega arith) x in
    let came : Stored p.new.out p.result opened j.out j.n =
    elim j.branch [
      | list_children-then-is_opened w ↦
          (let o : opens kind a.parent ≡ true = sym c.is_opened.ensures ∙ w.if-is_opened.true in rw (o, w.out-is, w.n-is) w.list_container-n.ensures)
      | list_children-else-is_opened w ↦
          (let o : opens kind a.parent ≡ false = sym c.is_opened.ensures ∙ w.if-is_opened.false in
          rw (o, w.out-is, w.n-is) (stored_none p.new.out p.result))
    ] in
    let kept : length p.new.out ≡ length l.out = p.auto.out in
    let next : p.result ≡ l.n + length line = p.ensures.end in
    let same = stored_length (omega arith) came in
    let behind : j.n ≡ p.result + length opened = came.end in
    let step = children_step _ a.b.now a.depth a.parent a.to (a.count - l.counter) (a.count - (l.counter + 1)) l.at (omega arith) _ there in
    record {
      after_start = omega arith;
      within = omega arith;
      long = same ∙ kept ∙ l.invariant.long;
      room = omega arith;
      resumes = resumes_then _ (omega arith) came (resumes_then _ (omega arith) p.ensures (resumes_as step l.invariant.resumes));
    }

pub list_children-returns : goal.list_children-returns
list_children-returns t c =
    let a = c.args in
    let l = c.loop in
    resumes_done (resumes_as (children_none _ a.b.now a.depth a.parent a.to (a.count - l.counter) l.at (omega arith)) l.invariant.resumes)

pub list_container-returns-then-depth-ge-LIST_DEPTH : goal.list_container-returns-then-depth-ge-LIST_DEPTH
list_container-returns-then-depth-ge-LIST_DEPTH t c =
    let a = c.args in
    elim c.then-depth-ge-LIST_DEPTH.branch [
      | list_container-then-depth-ge-LIST_DEPTH-via-then-depth-ge-LIST_DEPTH w ↦
          rw (container_deep a.b.now a.depth a.at a.container.end a.container.kind (omega (arith, w.if-depth-ge-LIST_DEPTH.true))) (stored_none _ _)
      | list_container-then-depth-ge-LIST_DEPTH-via-else-depth-ge-LIST_DEPTH+then-end-at w ↦
          rw (container_short a.b.now a.depth a.at a.container.end a.container.kind (omega (arith, w.if-depth-ge-LIST_DEPTH.false))
          (rw c.head_bytes-head.ensures at w.if-end-at.true)) (stored_none _ _)
    ]

pub list_container-returns : goal.list_container-returns
list_container-returns t c =
    let a = c.args in
    let h = c.head_bytes-head.ensures in
    let e = container_children a.b.now a.depth a.at a.container.end a.container.kind (omega arith) (rw h at c.if-end-at.false) in
    rw (e, ← h, ← c.child_count-count.ensures) c.list_children.ensures
