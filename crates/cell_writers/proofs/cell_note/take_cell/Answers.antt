use Rattle.std.proofs.Common.{◌∙◌, ap, ◌++◌, ◌∷◌, []}
use Rattle.cell_writers.proofs.Taken.{takes_from}
use Rattle.cell_writers.proofs.cell_note.take_cell.Goals as goal

pub returns : goal.returns
returns c =
    takes_from c.args.cells.now c.add_note.new.cells _ c.args.cell.now c.in_ok-number.number c.add_note.ensures.numbers c.requires.count c.in_ok-number.ensures.ok
    c.in_ok-number.ensures.is (c.in_ok-push.ensures.items ∙ ap (λ v. v.items ++ c.in_ok-number.number ∷ []) c.number_cell.ensures.kept) c.in_ok-add_note.ensures.notes
