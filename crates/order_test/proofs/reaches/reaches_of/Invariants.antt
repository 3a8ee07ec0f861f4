use Rattle.std.specs.Prelude.{IsTrue}
use Rattle.order_test.specs.Firsts.{HoldListed}
use Rattle.order_test.specs.Reaches.{AreReachesUpTo}
use Rattle.order_test.proofs.reaches.reaches_of.Given as goal

abbrev pub invariant-loop-at : goal.invariant-loop-at
invariant-loop-at l = record {
  reaches : AreReachesUpTo l.places.at.items l.writers.lists.entries l.at l.reaches;
  firsts : IsTrue l.scans → HoldListed l.writers l.reaches.firsts;
}
