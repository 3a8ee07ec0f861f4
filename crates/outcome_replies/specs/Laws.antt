-- What a statement with types comes to can be told.
use Rattle.std.specs.Prelude.{◌≡◌, List, All, Ok}
use Rattle.sql_tree.specs.declared.statement.Statement.{Statement}
use Rattle.sql_tree.specs.declared.table.Table.{Table}
use Rattle.sql_tree.specs.declared.typed.Typed.{Typed}
use Rattle.typing_rules.specs.Typed.{typed}
use Rattle.sound_table.specs.Sound.{IsSound}
use Rattle.described_columns.specs.Described.{HasPlainNames}
use Rattle.statement_course.specs.Statements.{course_of}
use Rattle.outcome_replies.specs.Replies.{CanBeTold}
use Rattle.outcome_replies.specs.Ends.{EndsIn}

-- over sound tables, a statement with plain names that has types
abbrev pub OutcomesCanBeTold : Type 0
OutcomesCanBeTold =
    (tables : List Table) (statement : Statement) (t : Typed) → All IsSound tables → HasPlainNames statement → typed tables statement ≡ Ok t
    → EndsIn CanBeTold (course_of tables t)
