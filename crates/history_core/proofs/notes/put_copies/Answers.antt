use Rattle.history_core.proofs.notes.put_copies.Goals as goal

pub returns-in-Ok-clause-ok : goal.returns-in-Ok-clause-ok
returns-in-Ok-clause-ok c = rw c.reserve.ensures.writes at c.put.ensures.value
