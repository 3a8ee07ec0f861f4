use Rattle.std.proofs.lemmas.Result.{on_ok_weaker}
use Rattle.cycle_report.proofs.PairSteps.{read_then}
use Rattle.cycle_report.proofs.pairs.add_read.Goals as goal

pub returns : goal.returns
returns c =
    on_ok_weaker c.add_asked.result
    (λ adds. read_then c.args.level c.args.view.now.events.now c.args.place c.args.event.now c.args.source c.reader_at-reader.result c.args.edges.now.items
    c.add_edge.new.edges.items c.add_asked.new.edges.items c.requires.view.orderly c.reader_at-reader.ensures c.requires.reading c.requires.source
    c.in_ok-add_edge.ensures adds)
    c.add_asked.ensures
