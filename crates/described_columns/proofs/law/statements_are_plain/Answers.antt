use Rattle.described_columns.proofs.Plain.{statements_plain}
use Rattle.described_columns.proofs.law.statements_are_plain.Goals as goal

pub returns : goal.returns
returns c = statements_plain
