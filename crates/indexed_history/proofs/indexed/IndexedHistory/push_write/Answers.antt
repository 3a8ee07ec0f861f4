use Rattle.indexed_history.proofs.indexed.IndexedHistory.push_write.Goals as goal

pub returns-clause-full : goal.returns-clause-full
returns-clause-full c = rw (← c.self.view_is) c.push_write.ensures.full
