use Rattle.history_core.proofs.notes.keep_write.Goals as goal

pub returns-in-Ok-clause-ok : goal.returns-in-Ok-clause-ok
returns-in-Ok-clause-ok c = rw (c.in_ok-cell.ensures, c.in-Ok.ensures) at c.put_copies.ensures.ok
