use Rattle.std.proofs.Common.{arith}
use Rattle.std.proofs.lemmas.Option.{slice_get_within}
use Rattle.order_test.proofs.SearchLemmas.{read_at}
use Rattle.cycle_report.proofs.view.reader_at.Goals as goal

pub bounds-owners-place : goal.bounds-owners-place
bounds-owners-place c =
    let within = slice_get_within c.args.view.now.events.now c.args.place c.args.event.now c.requires.is in
    let n = c.requires.view.owners_are.count in omega arith

pub returns : goal.returns
returns c =
    read_at c.args.view.now.events.now c.args.view.now.owners.now c.args.place c.args.event.now c.requires.view.owners_are c.requires.view.orderly c.requires.is
    c.requires.reading
