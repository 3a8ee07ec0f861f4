use Rattle.std.proofs.Common.{◌+◌, ◌-◌, length}
use Rattle.forced_rows.specs.Seats.{KeepsSeats}
use Rattle.forced_rows.proofs.seats.add_seats.Given as goal

abbrev pub invariant-loop-alloc : goal.invariant-loop-alloc
invariant-loop-alloc l = KeepsSeats l.fn.seats.items l.seats.items

abbrev pub decreases-loop-alloc : goal.decreases-loop-alloc
decreases-loop-alloc l = l.session + 1 - length l.seats.items
