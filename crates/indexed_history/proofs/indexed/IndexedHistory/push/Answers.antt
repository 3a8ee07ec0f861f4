use Rattle.indexed_history.proofs.indexed.IndexedHistory.push.Goals as goal

pub returns-clause-full : goal.returns-clause-full
returns-clause-full c = rw (← c.self.view_is) c.push_plain.ensures.full
