use Rattle.txn_buffer.proofs.buffer.TxnBuffer.get.Goals as goal

pub returns-in-None-clause-absent : goal.returns-in-None-clause-absent
returns-in-None-clause-absent c = rw (← c.self.view_is, ← c.deref.ensures.value) c.in-None.ensures.absent
