use Rattle.std.proofs.Common.{arith}
use Rattle.cycle_report.proofs.ReasonLemmas.{no_demand_step, no_demand_all}
use Rattle.cycle_report.proofs.reasons.first_demand.Goals as goal

pub loop-place-init : goal.loop-place-init
loop-place-init c = λ earlier below demand. absurd (omega arith)

pub returns-in-Some-clause-some : goal.returns-in-Some-clause-some
returns-in-Some-clause-some c = record { is = c.in-Some.ensures.some; none_before = c.loop-place.invariant }

pub loop-place-preserved : goal.loop-place-preserved
loop-place-preserved c =
    no_demand_step c.args.level c.args.view.now.events.now c.args.first c.args.second c.loop-place.place c.in-None.ensures.none c.loop-place.invariant

pub returns-clause-none : goal.returns-clause-none
returns-clause-none c = λ place demand.
    no_demand_all c.args.level c.args.view.now.events.now c.args.first c.args.second c.loop-place.place c.loop-place-test.false c.loop-place.invariant place demand
