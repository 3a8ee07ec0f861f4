use Rattle.described_columns.proofs.Described.{columns_described}
use Rattle.described_columns.proofs.law.columns_are_described.Goals as goal

pub returns : goal.returns
returns c = columns_described
