use Rattle.order_witness.proofs.Tracing.{IsTrace, unmet_count}
use Rattle.cycle_report.proofs.sorting.cycle_from.Given as goal

abbrev pub invariant-loop-first : goal.invariant-loop-first
invariant-loop-first l = IsTrace l.edges l.marks l.path.items l.met.items l.at

abbrev pub decreases-loop-first : goal.decreases-loop-first
decreases-loop-first l = unmet_count l.met.items
