use Rattle.txn_buffer.proofs.Lists.{contains_at}
use Rattle.history_check.proofs.EventLemmas.{take_next}
use Rattle.cycle_report.proofs.StepLemmas.{steps_none, steps_push, steps_whole}
use Rattle.cycle_report.proofs.levels.steps_of.Goals as goal

pub loop-at-init : goal.loop-at-init
loop-at-init c = rw c.new-steps.ensures.items (steps_none c.args.level c.args.view.now.events.now)

pub step_of-requires-clause-listed : goal.step_of-requires-clause-listed
step_of-requires-clause-listed c = c.requires.listed c.edge_at-edge.result (contains_at c.args.ring.now c.loop-at.at c.edge_at-edge.result c.edge_at-edge.ensures)

pub loop-at-preserved : goal.loop-at-preserved
loop-at-preserved c =
    rw c.in_ok-push.ensures.items
    (steps_push c.args.level c.args.view.now.events.now _ _ c.edge_at-edge.result c.loop-at.steps.items c.in_ok-step.step
    (take_next c.args.ring.now c.loop-at.at c.edge_at-edge.result c.edge_at-edge.ensures) c.in_ok-step.ensures.edge c.in_ok-step.ensures.reason c.loop-at.invariant)

pub returns : goal.returns
returns c = steps_whole c.args.level c.args.view.now.events.now c.args.ring.now c.loop-at.at c.loop-at.steps.items c.loop-at-test.false c.loop-at.invariant
