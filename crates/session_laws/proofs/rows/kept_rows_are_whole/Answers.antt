use Rattle.statement_laws.proofs.RowsWhole.{all_set}
use Rattle.session_laws.proofs.Histories.{keeps_rows}
use Rattle.session_laws.proofs.rows.kept_rows_are_whole.Goals as goal

pub returns : goal.returns
returns c history legal rows alone =
    all_set history.tables history.initial history.events
    (record { state = legal.initial; legal = legal.legal; rows = rows; keeps = keeps_rows history.tables history.events alone })
