-- The loop over children: to store the children from here on, here, is all that is left of storing them from the start; room for a line is left for
-- each 6 bytes of the container that are left. The measure: twice the bytes to be listed, and one more for the children, since a container lists
-- them behind its first 12 or 16 bytes.
use Rattle.std.proofs.Common.{◌≡◌, ◌+◌, ◌-◌, ◌*◌, ◌≤◌, length}
use Rattle.list_text.proofs.Resumes.{Resumes}
use Rattle.list_chunks.specs.Listing.{children_of}
use Rattle.list_chunks.specs.Room.{Lines}
use Rattle.list_chunks.proofs.+listers.Given as goal

abbrev pub decreases-list_children : goal.decreases-list_children
decreases-list_children l = 2 * (l.to - l.from) + 1

abbrev pub decreases-list_container : goal.decreases-list_container
decreases-list_container l = 2 * (l.container.end - l.at)

abbrev pub invariant-list_children-loop : goal.invariant-list_children-loop
invariant-list_children-loop l = record {
  after_start : l.from ≤ l.at;
  within : l.at ≤ l.to;
  long : length l.out ≡ length l.initial.out;
  room : Lines l.n (l.to - l.at) l.out;
  resumes : Resumes l.initial.out l.start (children_of l.b l.depth l.parent l.to l.count l.from) l.out l.n
      (children_of l.b l.depth l.parent l.to (l.count - l.counter) l.at);
}
