-- What the course of every statement demands, where each scan of a table lists its keys and each cell has its value.
use Rattle.std.specs.Prelude.{◌≡◌, ℕ, List, [], ◌∷◌, ◌++◌, flat_map, slice_get, Some}
use Rattle.cell_base.specs.declared.cell.Cell.{Cell}
use Rattle.cell_base.specs.declared.key.Key.{Key}
use Rattle.cell_base.specs.declared.value.Value.{Value}
use Rattle.sql_tree.specs.declared.table.Table.{Table}
use Rattle.sql_tree.specs.declared.typed.Typed.TheVariants.{Select, Insert, Change}
use Rattle.sql_tree.specs.declared.typed.TypedChange.{TypedChange}
use Rattle.sql_tree.specs.declared.typed.TypedInsert.{TypedInsert}
use Rattle.sql_tree.specs.declared.typed.TypedSelect.{TypedSelect}
use Rattle.row_meaning.specs.Changes.{changes_of}
use Rattle.row_meaning.specs.Insertion.{rows_to_insert}
use Rattle.row_meaning.specs.Selection.{selected}
use Rattle.statement_course.specs.declared.demand.Demand.TheVariants.{Reply}
use Rattle.statement_course.specs.Statements.{rows_outcome, part_of_change, course_of}
use Rattle.statement_laws.specs.Demands.{demands_of}
use Rattle.statement_laws.specs.Shown.{parts_in_order, shown_rows, picture_of}
use Rattle.statement_laws.specs.Asked.{asks_part, writes_changes, inserts_rows}

-- a SELECT reads its tables, and comes to its rows over what it was shown
abbrev pub SelectAnswersPicture : Type 0
SelectAnswersPicture =
    (listed : ℕ → List Key) (value : Cell → Value) (tables : List Table) (select : TypedSelect)
    → let parts = parts_in_order tables select in
    demands_of listed value (course_of tables (Select select))
    ≡ flat_map (asks_part listed value) parts ++ Reply (rows_outcome select (selected select (picture_of listed value parts))) ∷ []

-- an UPDATE or a DELETE reads its table, and writes its changes of the rows that it was shown
abbrev pub ChangeAnswersPicture : Type 0
ChangeAnswersPicture =
    (listed : ℕ → List Key) (value : Cell → Value) (tables : List Table) (change : TypedChange) (table : Table)
    → slice_get tables change.table ≡ Some table
    → let part = part_of_change table change in
    demands_of listed value (course_of tables (Change change))
    ≡ asks_part listed value part ++ writes_changes change (changes_of table change (shown_rows listed value part))

-- an INSERT makes its rows, asks whether their keys are there, and writes the rows
abbrev pub InsertAnswersRows : Type 0
InsertAnswersRows =
    (listed : ℕ → List Key) (value : Cell → Value) (tables : List Table) (insert : TypedInsert) (table : Table)
    → slice_get tables insert.table ≡ Some table
    → demands_of listed value (course_of tables (Insert insert)) ≡ inserts_rows value insert.table table (rows_to_insert table insert.rows)
