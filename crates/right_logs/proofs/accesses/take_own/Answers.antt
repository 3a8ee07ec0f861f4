use Rattle.std.proofs.Common.{refl}
use Rattle.cell_writers.proofs.Taken.{takes_within}
use Rattle.right_logs.proofs.AccessLemmas.{own_goes, cells_few}
use Rattle.right_logs.proofs.accesses.take_own.Goals as goal

pub number_cell-requires-clause-count : goal.number_cell-requires-clause-count
number_cell-requires-clause-count c = (cells_few c.args.places.now.at.items c.args.pass.now c.requires.stands c.requires.few).0

pub number_cell-requires-clause-few : goal.number_cell-requires-clause-few
number_cell-requires-clause-few c = (cells_few c.args.places.now.at.items c.args.pass.now c.requires.stands c.requires.few).1

pub shows_last-requires : goal.shows_last-requires
shows_last-requires c =
    takes_within c.args.pass.now.cells c.number_cell.new.cells c.args.cell.now c.in_ok-at.at c.in_ok-at.ensures
    (cells_few c.args.places.now.at.items c.args.pass.now c.requires.stands c.requires.few).0

pub returns : goal.returns
returns c = λ _.
    let shows = c.shows_last.ensures c.if-not-shows_last.false in
    own_goes c.args.places.now.at.items c.args.session c.in-Some.reader c.args.cell.now c.in_ok-at.at c.args.value.now c.args.pass.now _ shows.0 c.in-Some.ensures c.in_ok-at.ensures
    shows.1.0 shows.1.1 (record { session_notes = refl; committed = refl; tables = refl; last = refl }) refl c.in_ok-push_unset.ensures
    (record { txns = refl; clocked = refl; highest = refl; reads = refl; met = refl })
