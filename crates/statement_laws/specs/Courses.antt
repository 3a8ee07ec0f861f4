-- What holds of the course of every statement.
use Rattle.std.specs.Prelude.{◌≡◌, List, [], length, Ok}
use Rattle.sql_tree.specs.declared.statement.Statement.{Statement}
use Rattle.sql_tree.specs.declared.table.Table.{Table}
use Rattle.sql_tree.specs.declared.typed.Typed.{Typed}
use Rattle.typing_rules.specs.Typed.{typed}
use Rattle.statement_course.specs.Laws.{ReadsFirst, TouchesOnce}
use Rattle.statement_course.specs.Statements.{course_of}

-- a statement over some tables reads their cells first, and then it only writes some of them
abbrev pub StatementReadsFirst : Type 0
StatementReadsFirst = (tables : List Table) (t : Typed) → ReadsFirst (length tables) (course_of tables t)

-- a statement that has types asks for each cell at most once, where each scan lists a key once
abbrev pub StatementTouchesOnce : Type 0
StatementTouchesOnce = (tables : List Table) (statement : Statement) (t : Typed) → typed tables statement ≡ Ok t → TouchesOnce [] (course_of tables t)
