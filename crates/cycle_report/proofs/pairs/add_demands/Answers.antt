use Rattle.std.proofs.Common.{arith}
use Rattle.cycle_report.proofs.PairSteps.{demands_none, demands_more, demands_whole}
use Rattle.cycle_report.proofs.pairs.add_demands.Goals as goal

pub loop-at-init : goal.loop-at-init
loop-at-init c = demands_none c.args.level c.args.view.now.events.now c.args.place c.args.edges.now.items

pub loop-at-preserved : goal.loop-at-preserved
loop-at-preserved c =
    demands_more c.args.level c.args.view.now.events.now c.args.place c.args.event.now c.loop-at.at c.args.edges.now.items c.loop-at.edges.items
    c.add_demand.new.edges.items c.requires.read.of.is c.loop-at.invariant c.in_ok-add_demand.ensures

pub returns : goal.returns
returns c =
    demands_whole c.args.level c.args.view.now.events.now c.args.place c.loop-at.at c.args.edges.now.items c.loop-at.edges.items
    (let n = c.requires.view.txns_are.count in let end = c.loop-at-test.false in omega arith) c.loop-at.invariant
