use Rattle.std.proofs.Common.{refl}
use Rattle.cell_writers.proofs.Taken.{takes_within}
use Rattle.right_logs.proofs.AccessLemmas.{write_goes, cells_few, list_within}
use Rattle.right_logs.proofs.accesses.take_write.Goals as goal

pub number_cell-requires-clause-count : goal.number_cell-requires-clause-count
number_cell-requires-clause-count c = (cells_few c.args.places.now.at.items c.args.pass.now c.requires.stands c.requires.few).0

pub number_cell-requires-clause-few : goal.number_cell-requires-clause-few
number_cell-requires-clause-few c = (cells_few c.args.places.now.at.items c.args.pass.now c.requires.stands c.requires.few).1

pub set_place-requires : goal.set_place-requires
set_place-requires c =
    takes_within c.args.pass.now.cells c.number_cell.new.cells c.args.cell.now c.in_ok-at.at c.in_ok-at.ensures
    (cells_few c.args.places.now.at.items c.args.pass.now c.requires.stands c.requires.few).0

pub add_place-requires-clause-some : goal.add_place-requires-clause-some
add_place-requires-clause-some c = (list_within c.args.places.now.at.items c.args.pass.now c.args.session c.in-Some.writer c.args.cell.now c.requires.stands c.in-Some.ensures).0

pub add_place-requires-clause-opened : goal.add_place-requires-clause-opened
add_place-requires-clause-opened c = (list_within c.args.places.now.at.items c.args.pass.now c.args.session c.in-Some.writer c.args.cell.now c.requires.stands c.in-Some.ensures).1

pub returns : goal.returns
returns c = λ _.
    write_goes c.args.places.now.at.items c.args.session c.in-Some.writer c.args.cell.now c.in_ok-at.at c.len-place.result c.args.value.now c.args.pass.now _
    c.number_cell.new.cells c.in-Some.ensures (c.is_storable.ensures.0 c.if-not-is_storable.false) c.in_ok-at.ensures refl c.len-place.ensures c.in_ok-set_place.ensures
    c.in_ok-add_place.ensures c.in_ok-push.ensures (record { session_notes = refl; committed = refl; tables = refl; last = refl })
    (record { txns = refl; clocked = refl; highest = refl; reads = refl; met = refl })
