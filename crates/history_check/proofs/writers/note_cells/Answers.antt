use Rattle.std.proofs.lemmas.Result.{on_ok_weaker}
use Rattle.order_test.proofs.PastSteps.{sound_from}
use Rattle.history_check.proofs.CellSteps.{cells_stay, cells_write, cells_commit, ascending_of, pending_within, pending_number}
use Rattle.history_check.proofs.writers.note_cells.Goals as goal

pub note_all_committed-requires-clause-ascending : goal.note_all_committed-requires-clause-ascending
note_all_committed-requires-clause-ascending c =
    ascending_of c.requires.notes

pub note_all_committed-requires-clause-numbered : goal.note_all_committed-requires-clause-numbered
note_all_committed-requires-clause-numbered c =
    rw c.as_slice.ensures.value
    (pending_within c.args.before.now c.args.event.now c.in-Commit.session c.places_in.result.now c.args.cells.now.numbers c.requires.numbered c.places_in.ensures)

pub note_all_committed-requires-clause-within : goal.note_all_committed-requires-clause-within
note_all_committed-requires-clause-within c =
    rw c.as_slice.ensures.value
    (pending_number c.args.before.now c.args.event.now c.in-Commit.session c.places_in.result.now c.args.cells.now.numbers c.args.cells.now.notes.items c.requires.numbered
    c.requires.notes.count c.places_in.ensures)

pub returns-in-Write-clause-notes : goal.returns-in-Write-clause-notes
returns-in-Write-clause-notes c =
    on_ok_weaker c.set_place.result
    (λ sets. rw c.in-Write.is (cells_write c.args.before.now (sound_from c.args.before.now c.requires.settled) c.in-Write.session c.owner_of.result c.number_at-at.result c.in-Write.cell
    c.in-Write.value c.args.cells.now.numbers.cells.keys c.args.cells.now.notes.items c.set_place.new.notes.items c.requires.numbered.unique c.number_at-at.ensures
    (rw c.in-Write.is at c.owner_of.ensures) sets c.requires.notes))
    c.set_place.ensures

pub returns-in-Commit-clause-notes : goal.returns-in-Commit-clause-notes
returns-in-Commit-clause-notes c =
    on_ok_weaker c.note_all_committed.result
    (λ gain. rw c.in-Commit.is (cells_commit c.args.before.now (sound_from c.args.before.now c.requires.settled) c.in-Commit.session c.owner_of-in-Commit.result
    c.args.cells.now.numbers c.places_in.result.now c.args.cells.now.notes.items c.note_all_committed.new.notes.items (rw c.in-Commit.is at c.requires.numbered)
    (rw c.in-Commit.is at c.owner_of-in-Commit.ensures) c.places_in.ensures (rw c.as_slice.ensures.value at gain) c.requires.notes))
    c.note_all_committed.ensures

pub returns-in_default-clause-notes : goal.returns-in_default-clause-notes
returns-in_default-clause-notes c =
    cells_stay c.args.before.now c.args.event.now c.args.cells.now.numbers.cells.keys c.args.cells.now.notes.items c.in_default.not-Write c.in_default.not-Commit c.requires.notes
