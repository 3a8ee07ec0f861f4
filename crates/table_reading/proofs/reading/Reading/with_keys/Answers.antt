-- A scan lists fewer than 2^32 keys.
use Rattle.std.proofs.Common.{◌*◌, ◌+◌, ◌≤◌, List, length, subst}
use Rattle.cell_base.specs.declared.key.Key.{Key}
use Rattle.table_reading.specs.Left.{row_answers, tables_answers, rows_answers, step_answers}
use Rattle.table_reading.proofs.Counting.{if_ok, fewer_keys}
use Rattle.table_reading.proofs.reading.Reading.with_keys.Goals as goal

pub returns-clause-less : goal.returns-clause-less
returns-clause-less c =
    let tables = c.args.self.tables in
    if_ok (λ step. step_answers step ≤ rows_answers tables c.from_items.result) _ c.next_row.result
    (λ step h. fewer_keys (length c.args.keys) (length tables.columns) (tables_answers tables.parts) (step_answers step) c.requires
    (subst (λ (keys : List Key). step_answers step ≤ length keys * row_answers tables.columns + tables_answers tables.parts) c.from_items.ensures h))
    c.next_row.ensures.few
