use Rattle.statement_laws.proofs.RowsKept.{statement_keeps}
use Rattle.statement_laws.proofs.keeping.statement_keeps_rows.Goals as goal

pub returns : goal.returns
returns c = statement_keeps
