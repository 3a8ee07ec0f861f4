use Rattle.level_laws.proofs.Promised.{takes_whole, takes_none_older}
use Rattle.level_laws.proofs.promises.no_fractured_reads.Goals as goal

pub returns : goal.returns
returns c = record { whole = takes_whole; older = takes_none_older }
