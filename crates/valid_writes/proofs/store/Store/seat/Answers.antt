use Rattle.valid_writes.proofs.store.Store.seat.Goals as goal

pub returns-clause-pending : goal.returns-clause-pending
returns-clause-pending c = rw (← c.self.view_is) c.seated.ensures.pending

pub returns-clause-idle : goal.returns-clause-idle
returns-clause-idle c = rw (← c.self.view_is) c.seated.ensures.idle
