use Rattle.cycle_report.proofs.ReasonLemmas.{NoDemandBelow}
use Rattle.cycle_report.proofs.reasons.first_demand.Given as goal

abbrev pub invariant-loop-place : goal.invariant-loop-place
invariant-loop-place l = NoDemandBelow l.level l.view.events.now l.first l.second l.place
