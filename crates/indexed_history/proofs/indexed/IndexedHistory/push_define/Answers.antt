use Rattle.indexed_history.proofs.indexed.IndexedHistory.push_define.Goals as goal

pub returns-clause-full : goal.returns-clause-full
returns-clause-full c = rw (← c.self.view_is) c.push_table.ensures.full
