use Rattle.history_log.proofs.fields.take_cell.Goals as goal

pub returns-in-Some : goal.returns-in-Some
returns-in-Some c = rw c.cell.ensures c.in-Some.ensures.some
