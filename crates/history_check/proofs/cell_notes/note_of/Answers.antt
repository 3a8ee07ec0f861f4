use Rattle.std.proofs.Common.{length, refl, arith}
use Rattle.std.proofs.lemmas.Option.{slice_get_read, slice_get_within}
use Rattle.history_check.proofs.CellSteps.{never_written}
use Rattle.history_check.proofs.cell_notes.note_of.Goals as goal

pub returns-in-Some-clause-some : goal.returns-in-Some-clause-some
returns-in-Some-clause-some c =
    let within = slice_get_within c.args.cells.now.numbers.cells.keys c.in-Some.number c.args.cell.now c.in-Some.ensures.some in
    let count = c.requires.notes.count in
    c.requires.notes.each c.in-Some.number c.args.cell.now c.index.result.now c.in-Some.ensures.some
    (slice_get_read c.args.cells.now.notes.items (length c.args.cells.now.notes.items) c.in-Some.number c.index.result.now refl (omega arith) c.index.ensures)

pub returns-in-None-clause-none : goal.returns-in-None-clause-none
returns-in-None-clause-none c = never_written c.args.before.now c.args.cell.now c.args.cells.now.numbers c.requires.numbered c.in-None.ensures.none
