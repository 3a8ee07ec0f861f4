use Rattle.statement_laws.proofs.RowsWhole.{all_set}
use Rattle.statement_laws.proofs.whole.rows_are_whole.Goals as goal

pub returns : goal.returns
returns c tables initial events state legal rows keeps = all_set tables initial events (record { state = state; legal = legal; rows = rows; keeps = keeps })
