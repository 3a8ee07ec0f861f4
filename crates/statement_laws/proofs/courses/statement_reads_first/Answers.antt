use Rattle.statement_laws.proofs.ReadsFirst.{reads_first}
use Rattle.statement_laws.proofs.courses.statement_reads_first.Goals as goal

pub returns : goal.returns
returns c = reads_first
