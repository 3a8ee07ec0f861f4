-- No table, no part.
use Rattle.std.proofs.Common.{[], map, sym, ap, ◌∙◌, ◌++◌, Option}
use Rattle.std.proofs.lemmas.List.{append-nil}
use Rattle.std.proofs.lemmas.Option.{slice_get_past}
use Rattle.sql_tree.specs.declared.table.Table.{Table}
use Rattle.statement_course.specs.Reading as course
use Rattle.table_reading.specs.Left.{part_of as seen}
use Rattle.cell_compile.proofs.parts.with_part.Goals as goal

pub returns-in-None : goal.returns-in-None
returns-in-None c =
    let parts = map seen c.args.parts in
    let none = c.in-None.ensures.lookup in
    sym (ap (λ (table : Option Table). parts ++ course.part_before c.args.number table c.args.columns.now c.args.point.now [])
    (slice_get_past c.args.tables.now c.args.number none.3) ∙ append-nil parts)
