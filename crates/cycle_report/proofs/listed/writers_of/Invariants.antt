use Rattle.cycle_report.specs.Listed.{ListWriters}
use Rattle.cycle_report.proofs.listed.writers_of.Given as goal

abbrev pub invariant-loop-at : goal.invariant-loop-at
invariant-loop-at l = ListWriters l.txns l.at l.writers
