use Rattle.std.proofs.Common.{refl}
use Rattle.cell_writers.proofs.Taken.{takes_within}
use Rattle.right_logs.proofs.AccessLemmas.{read_goes, cells_few, txns_within, apart_from_source, reads_within}
use Rattle.right_logs.proofs.accesses.take_read.Goals as goal

pub number_cell-requires-clause-count : goal.number_cell-requires-clause-count
number_cell-requires-clause-count c = (cells_few c.args.places.now.at.items c.args.pass.now c.requires.stands c.requires.few).0

pub number_cell-requires-clause-few : goal.number_cell-requires-clause-few
number_cell-requires-clause-few c = (cells_few c.args.places.now.at.items c.args.pass.now c.requires.stands c.requires.few).1

pub is_clear-requires : goal.is_clear-requires
is_clear-requires c =
    takes_within c.args.pass.now.cells c.number_cell.new.cells c.args.cell.now c.in_ok-at.at c.in_ok-at.ensures
    (cells_few c.args.places.now.at.items c.args.pass.now c.requires.stands c.requires.few).0

pub note_source-requires-clause-reader : goal.note_source-requires-clause-reader
note_source-requires-clause-reader c =
    let shows = c.is_clear.ensures c.if-not-is_clear.false in
    (txns_within c.args.places.now.at.items c.args.pass.now c.args.session c.in-Some.reader c.args.cell.now c.args.source c.args.count c.args.value.now shows.0 c.requires.stands c.in-Some.ensures
    shows.1.1).0

pub note_source-requires-clause-source : goal.note_source-requires-clause-source
note_source-requires-clause-source c =
    let shows = c.is_clear.ensures c.if-not-is_clear.false in
    (txns_within c.args.places.now.at.items c.args.pass.now c.args.session c.in-Some.reader c.args.cell.now c.args.source c.args.count c.args.value.now shows.0 c.requires.stands c.in-Some.ensures
    shows.1.1).1

pub note_source-requires-clause-apart : goal.note_source-requires-clause-apart
note_source-requires-clause-apart c =
    let shows = c.is_clear.ensures c.if-not-is_clear.false in
    apart_from_source c.args.places.now.at.items c.args.pass.now c.args.session c.in-Some.reader c.args.cell.now c.args.source c.args.count c.args.value.now shows.0 c.requires.stands
    c.in-Some.ensures shows.1.1

pub add_read-requires-clause-some : goal.add_read-requires-clause-some
add_read-requires-clause-some c = (reads_within c.args.places.now.at.items c.args.pass.now c.args.session c.in-Some.reader c.args.cell.now c.requires.stands c.in-Some.ensures).0

pub add_read-requires-clause-opened : goal.add_read-requires-clause-opened
add_read-requires-clause-opened c = (reads_within c.args.places.now.at.items c.args.pass.now c.args.session c.in-Some.reader c.args.cell.now c.requires.stands c.in-Some.ensures).1

pub returns : goal.returns
returns c = λ _.
    let shows = c.is_clear.ensures c.if-not-is_clear.false in
    read_goes c.args.places.now.at.items c.args.session c.in-Some.reader c.args.cell.now c.in_ok-at.at c.args.source c.args.count c.args.word c.args.value.now c.args.pass.now _ shows.0
    (record { cell = c.in_ok-at.at; source = c.args.source; reader = c.in-Some.reader; place = c.len-place.result }) c.in-Some.ensures c.in_ok-at.ensures shows.1.0 shows.1.1
    (record { session_notes = refl; committed = refl; tables = refl; last = refl }) refl c.in_ok-push_unset.ensures refl refl refl c.len-place.ensures
    (record { txns = c.in_ok-note_source.ensures; clocked = refl; highest = refl; reads = c.in_ok-add_read.ensures; met = refl })
