use Rattle.history_check.proofs.CellSteps.{cells_none_if}
use Rattle.history_check.proofs.cell_notes.cell_notes.Goals as goal

pub returns-clause-notes : goal.returns-clause-notes
returns-clause-notes c = cells_none_if c.blank_cells.result c.blank_cells.ensures.count c.blank_cells.ensures.blank
