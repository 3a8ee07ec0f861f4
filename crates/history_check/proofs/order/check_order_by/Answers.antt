use Rattle.history_check.proofs.Orderly.{orderly_from, owned_from}
use Rattle.history_check.proofs.CellSteps.{writers_of}
use Rattle.history_check.proofs.order.check_order_by.Goals as goal

pub first_unkept_by-requires-clause-orderly : goal.first_unkept_by-requires-clause-orderly
first_unkept_by-requires-clause-orderly g c = rw c.as_slice.ensures (orderly_from c.args.trace.now.initial c.args.trace.now.events c.requires.right)

pub first_unkept_by-requires-clause-owned : goal.first_unkept_by-requires-clause-owned
first_unkept_by-requires-clause-owned g c = rw c.as_slice.ensures (owned_from c.args.trace.now.initial c.args.trace.now.events c.requires.right)

pub first_unkept_by-requires-clause-writers : goal.first_unkept_by-requires-clause-writers
first_unkept_by-requires-clause-writers g c =
    rw c.as_slice.ensures (writers_of c.args.trace.now.events c.args.cells.now c.requires.numbered c.requires.notes)
