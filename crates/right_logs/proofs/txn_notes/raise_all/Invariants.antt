use Rattle.order_test.proofs.Taken.{AreRaised}
use Rattle.right_logs.proofs.txn_notes.raise_all.Given as goal

abbrev pub invariant-loop-at : goal.invariant-loop-at
invariant-loop-at l = AreRaised l.fn.clock.items l.others l.clock.items l.at
