-- `write_row` meets its contract. The invariant: what is still to be written, put at here, gives what the contract says; a packet's bytes are the front of it.
use Prim.Native.Nat.{◌-◌}
use lib.ListN.{length}
use Rattle.house_rows.proofs.Writing.{Writing}
use Rattle.house_rows.proofs.write_row.Given as goal

abbrev pub invariant-loop-x : goal.invariant-loop-x
invariant-loop-x l = Writing l.row l.initial.out l.at l.out l.here l.x l.packets

abbrev pub decreases-loop-x : goal.decreases-loop-x
decreases-loop-x l = length l.row - l.x
