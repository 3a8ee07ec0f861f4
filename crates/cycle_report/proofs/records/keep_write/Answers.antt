use Rattle.cycle_report.proofs.records.keep_write.Goals as goal

pub returns : goal.returns
returns c = rw c.reserve.ensures.writes at c.put.ensures.value
