-- What holds of the runs of every typed statement.
use Rattle.std.specs.Prelude.{◌≡◌, ⊤, List, [], ◌++◌, map, flat_map, slice_get, Some, Ok}
use Rattle.std.specs.List.{AllByRecursion}
use Rattle.sql_tree.specs.declared.statement.Statement.{Statement}
use Rattle.sql_tree.specs.declared.table.Table.{Table}
use Rattle.sql_tree.specs.declared.typed.Typed.{Typed}
use Rattle.sql_tree.specs.declared.typed.Typed.TheVariants.{Select, Insert, Change}
use Rattle.sql_tree.specs.declared.typed.TypedChange.{TypedChange}
use Rattle.sql_tree.specs.declared.typed.TypedInsert.{TypedInsert}
use Rattle.sql_tree.specs.declared.typed.TypedSelect.{TypedSelect}
use Rattle.typing_rules.specs.Typed.{typed}
use Rattle.row_meaning.specs.Changes.{changes_of}
use Rattle.row_meaning.specs.Insertion.{rows_to_insert}
use Rattle.row_meaning.specs.Selection.{selected}
use Rattle.statement_course.specs.declared.demand.Outcome.{Outcome}
use Rattle.statement_course.specs.Course.{Course, done}
use Rattle.statement_course.specs.Statements.{rows_outcome, part_of_change, course_of}
use Rattle.statement_laws.specs.Shown.{parts_in_order, shown_rows, picture_of}
use Rattle.statement_laws.specs.Asked.{asks_part}
use Rattle.statement_laws.specs.Runs.{Step, demand_of, Ran, ListsOnce}
use Rattle.statement_laws.specs.Pictures.{Picture, IsOver}
use Rattle.statement_laws.specs.Scans.{ScansOnce}
use Rattle.statement_laws.specs.Writes.{change_writes, change_outcome, insert_asks, insert_outcome}

-- a run of a statement that has types over these tables, in which each scan lists a key once
pub record IsRun (tables : List Table) (t : Typed) (steps : List Step) (left : Course) : Type 0 where
  pub statement : Statement
  pub types : typed tables statement ≡ Ok t
  pub ran : Ran (course_of tables t) steps left
  pub once : AllByRecursion ListsOnce steps

-- ---- what a run that came to its end is over a picture

-- A SELECT read its tables, and came to its meaning over the rows that the picture shows.
pub record Selected (p : Picture) (tables : List Table) (select : TypedSelect) (steps : List Step) (outcome : Outcome) : Type 0 where
  pub asked : map demand_of steps ≡ flat_map (asks_part p.listed p.value) (parts_in_order tables select)
  pub came : outcome ≡ rows_outcome select (selected select (picture_of p.listed p.value (parts_in_order tables select)))

-- An UPDATE or a DELETE read its table, and made its changes of the rows that the picture shows.
pub record Changed (p : Picture) (tables : List Table) (change : TypedChange) (steps : List Step) (outcome : Outcome) : Type 0 where
  pub table : Table
  pub table_is : slice_get tables change.table ≡ Some table
  pub asked : map demand_of steps
      ≡ asks_part p.listed p.value (part_of_change table change)
      ++ change_writes change (changes_of table change (shown_rows p.listed p.value (part_of_change table change)))
  pub came : outcome ≡ change_outcome change (changes_of table change (shown_rows p.listed p.value (part_of_change table change)))

-- An INSERT asked whether its keys are there, and where the picture has none of them it wrote its rows.
pub record Inserted (p : Picture) (tables : List Table) (insert : TypedInsert) (steps : List Step) (outcome : Outcome) : Type 0 where
  pub table : Table
  pub table_is : slice_get tables insert.table ≡ Some table
  pub asked : map demand_of steps ≡ insert_asks p.value insert.table table (rows_to_insert table insert.rows)
  pub came : outcome ≡ insert_outcome p.value insert.table (rows_to_insert table insert.rows)

-- nothing is said of a run that was cut short
abbrev pub Means : Picture → List Table → Typed → List Step → Course → Type 0
Means p tables (Select select) steps (done outcome) = Selected p tables select steps outcome
Means p tables (Insert insert) steps (done outcome) = Inserted p tables insert steps outcome
Means p tables (Change change) steps (done outcome) = Changed p tables change steps outcome
Means p tables t steps _ = ⊤

-- ---- the laws

-- one picture shows all answers of the run, however far it came; and where it came to its end, it is its statement over that picture
pub record HasPicture (tables : List Table) (t : Typed) (steps : List Step) (left : Course) : Type 0 where
  pub picture : Picture
  pub over : IsOver picture (course_of tables t) steps left
  pub means : Means picture tables t steps left

-- each run of a statement that has types has one picture
abbrev pub RunHasPicture : Type 0
RunHasPicture = (tables : List Table) (t : Typed) (steps : List Step) (left : Course) → IsRun tables t steps left → HasPicture tables t steps left

-- a statement scans no table twice
abbrev pub StatementScansOnce : Type 0
StatementScansOnce = (tables : List Table) (t : Typed) → ScansOnce [] (course_of tables t)
