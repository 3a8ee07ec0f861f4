use Rattle.std.proofs.Common.{length, refl, arith}
use Rattle.std.proofs.lemmas.Option.{slice_get_read, slice_get_within}
use Rattle.history_check.proofs.cell_notes.note_at.Goals as goal

pub returns : goal.returns
returns c =
    let within = slice_get_within c.args.cells.now.numbers.cells.keys c.number_at.result c.args.cell.now c.number_at.ensures in
    let count = c.requires.notes.count in
    c.requires.notes.each c.number_at.result c.args.cell.now c.index.result.now c.number_at.ensures
    (slice_get_read c.args.cells.now.notes.items (length c.args.cells.now.notes.items) c.number_at.result c.index.result.now refl (omega arith) c.index.ensures)
