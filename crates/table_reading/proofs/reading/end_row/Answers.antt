-- The row is put after those that were found.
use Rattle.std.proofs.Common.{List, [], ◌∷◌, ◌++◌, ap, ◌∙◌}
use Rattle.cell_base.specs.declared.value.Value.{Value}
use Rattle.row_meaning.specs.Pictures.{TableRow}
use Rattle.table_reading.specs.Left.{rows_course}
use Rattle.table_reading.proofs.Counting.{if_ok}
use Rattle.table_reading.proofs.reading.end_row.Goals as goal

pub returns-clause-course : goal.returns-clause-course
returns-clause-course c =
    let found = c.in_ok-push.ensures.ok ∙ ap (λ (values : List Value). c.args.found ++ (c.args.key, values) ∷ []) c.in_ok-values.ensures in
    if_ok _ _ c.next_row.result
    (λ step h rest. h rest ∙ ap (λ (rows : List TableRow). rows_course c.args.tables c.args.keys rows rest) found)
    c.next_row.ensures.course
