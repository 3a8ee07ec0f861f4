use Rattle.cycle_report.proofs.RingLemmas.{least_none, least_whole}
use Rattle.cycle_report.proofs.rings.least_at.Goals as goal

pub loop-at-init : goal.loop-at-init
loop-at-init c = (least_none c.args.cycle.now c.requires, c.requires)

pub loop-at-preserved : goal.loop-at-preserved
loop-at-preserved c = (c.lesser-least.ensures.least, c.lesser-least.ensures.within)

pub returns : goal.returns
returns c = least_whole c.args.cycle.now c.loop-at.least c.loop-at.at c.loop-at-test.false c.loop-at.invariant.0
