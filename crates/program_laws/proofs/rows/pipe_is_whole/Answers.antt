use Rattle.program_laws.proofs.Alone.{alone_whole}
use Rattle.program_laws.proofs.rows.pipe_is_whole.Goals as goal

pub returns : goal.returns
returns c = alone_whole
