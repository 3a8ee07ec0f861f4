-- The columns of a written list are the table's, each once.
use Rattle.change_typing.specs.Targets.{targets}
use Rattle.change_typing.proofs.Numbers.{listed_columns}
use Rattle.change_typing.proofs.insert.typed_insert.Goals as goal

pub rows_of-requires-clause-columns : goal.rows_of-requires-clause-columns
rows_of-requires-clause-columns c =
    rw (← c.as_slice-columns.ensures, c.as_slice-3.ensures)
    (listed_columns c.as_slice-columns.result.now c.as_slice.result.now (targets c.in_ok-listed.listed) c.in_ok-listed.ensures)
