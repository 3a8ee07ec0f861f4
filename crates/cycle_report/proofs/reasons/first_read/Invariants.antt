use Rattle.cycle_report.proofs.ReasonLemmas.{NoReadBelow}
use Rattle.cycle_report.proofs.reasons.first_read.Given as goal

abbrev pub invariant-loop-place : goal.invariant-loop-place
invariant-loop-place l = NoReadBelow l.view.events.now l.source l.reader l.place
