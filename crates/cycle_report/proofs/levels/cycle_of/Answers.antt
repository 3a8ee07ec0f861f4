use Rattle.cycle_report.proofs.StepLemmas.{ring_listed, cycle_is}
use Rattle.cycle_report.proofs.levels.cycle_of.Goals as goal

pub steps_of-requires-clause-listed : goal.steps_of-requires-clause-listed
steps_of-requires-clause-listed c =
    rw c.deref-2.ensures.value
    (ring_listed c.args.level c.args.view.now.events.now c.args.graph.now.edges.items c.in_ok-ring.ring.items c.requires.listed
    (rw c.deref.ensures.value at c.in_ok-ring.ensures.ring))

pub returns : goal.returns
returns c =
    cycle_is c.args.level c.args.view.now.events.now c.args.graph.now.edges.items c.in_ok-ring.ring.items c.in_ok-steps.steps.items
    (rw c.deref.ensures.value at c.in_ok-ring.ensures.ring) c.in_ok-ring.ensures.once (rw c.deref-2.ensures.value at c.in_ok-steps.ensures)
