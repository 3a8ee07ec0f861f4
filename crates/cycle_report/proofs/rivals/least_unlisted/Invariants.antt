use Rattle.order_test.specs.Sights.{IsLeastUpTo}
use Rattle.cycle_report.proofs.rivals.least_unlisted.Given as goal

abbrev pub invariant-loop-at : goal.invariant-loop-at
invariant-loop-at l = IsLeastUpTo l.table l.keys l.writes l.at l.least
