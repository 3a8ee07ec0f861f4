-- A column by its number.
use Rattle.row_writes.proofs.Assigning.{kind_there, kind_nowhere}
use Rattle.row_writes.proofs.assigned.kind_at.Goals as goal

pub returns-in-Some : goal.returns-in-Some
returns-in-Some c =
    let found = c.in-Some.ensures.lookup in
    kind_there c.args.columns.now c.args.column c.in-Some.column.now found.3.0 found.1

pub returns-in-None : goal.returns-in-None
returns-in-None c = let found = c.in-None.ensures.lookup in kind_nowhere c.args.columns.now c.args.column found.3
