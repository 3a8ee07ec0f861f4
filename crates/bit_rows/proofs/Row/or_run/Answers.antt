use Rattle.bit_rows.proofs.Row.or_run.Goals as goal

pub returns : goal.returns
returns c = rw (← c.self.view_is) c.fill.ensures.union
