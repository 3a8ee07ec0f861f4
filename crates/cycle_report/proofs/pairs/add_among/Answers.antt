use Rattle.std.proofs.Common.{arith}
use Rattle.txn_buffer.proofs.Lists.{contains_at}
use Rattle.cycle_report.proofs.PairSteps.{among_more, among_whole}
use Rattle.cycle_report.proofs.SpanLemmas.{among_start, among_end}
use Rattle.cycle_report.proofs.pairs.add_among.Goals as goal

pub loop-at-init : goal.loop-at-init
loop-at-init c =
    among_start c.args.level c.args.view.now.events.now c.args.place c.first_from-from.result c.args.floor c.args.event.now c.args.numbers.now c.args.edges.now.items
    c.requires.read.of.is c.requires.floor c.first_from-from.ensures

pub add_demand-requires-clause-writer : goal.add_demand-requires-clause-writer
add_demand-requires-clause-writer c =
    c.requires.numbers c.number_at-writer.result (contains_at c.args.numbers.now c.loop-at.at c.number_at-writer.result c.number_at-writer.ensures)

pub loop-at-preserved : goal.loop-at-preserved
loop-at-preserved c =
    among_more c.args.level c.args.view.now.events.now c.args.place c.args.event.now c.args.numbers.now c.loop-at.at c.number_at-writer.result c.args.edges.now.items
    c.loop-at.edges.items c.add_demand.new.edges.items c.requires.read.of.is c.number_at-writer.ensures c.loop-at.invariant c.in_ok-add_demand.ensures

pub returns-then-writer-top : goal.returns-then-writer-top
returns-then-writer-top c =
    among_end c.args.level c.args.view.now.events.now c.args.place c.loop-at.at c.number_at-writer.result c.args.top c.args.reader c.args.event.now c.args.numbers.now
    c.args.edges.now.items c.loop-at.edges.items c.requires.view.orderly c.requires.read c.requires.ascending c.requires.numbers c.requires.top c.number_at-writer.ensures
    (let late = c.if-writer-top.true in omega arith) c.requires.whole c.loop-at.invariant

pub returns : goal.returns
returns c =
    among_whole c.args.level c.args.view.now.events.now c.args.place c.args.numbers.now c.loop-at.at c.args.edges.now.items c.loop-at.edges.items c.loop-at-test.false
    c.requires.whole c.loop-at.invariant
