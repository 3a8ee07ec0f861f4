use Rattle.history_core.proofs.history.History.pending.Goals as goal

pub returns : goal.returns
returns c = rw (← c.self.view_is) c.pending_of.ensures
