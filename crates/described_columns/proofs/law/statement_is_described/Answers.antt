use Rattle.described_columns.proofs.Described.{statement_described}
use Rattle.described_columns.proofs.law.statement_is_described.Goals as goal

pub returns : goal.returns
returns c = statement_described
