-- What holds of the names of statements and of the columns of a result.
use Rattle.std.specs.Prelude.{◌≡◌, ℕ, List, Ok}
use Rattle.std.specs.List.{All}
use Rattle.sql_tree.specs.declared.statement.Select.{Select}
use Rattle.sql_tree.specs.declared.statement.Statement.{Statement}
use Rattle.sql_tree.specs.declared.statement.Statement.TheVariants as tree
use Rattle.sql_tree.specs.declared.table.Table.{Table}
use Rattle.sql_tree.specs.declared.typed.Typed.TheVariants as typed_tree
use Rattle.sql_tree.specs.declared.typed.TypedSelect.{TypedSelect}
use Rattle.cell_base.specs.Texts.{HasNoZero}
use Rattle.sql_statements.specs.Faults.{AreStatementsOf}
use Rattle.typing_rules.specs.Select.{typed_select}
use Rattle.typing_rules.specs.Typed.{typed}
use Rattle.sound_table.specs.Sound.{IsSound}
use Rattle.sound_table.specs.WellFormed.{IsWellFormed}
use Rattle.described_columns.specs.Described.{AreDescribed, HasPlainNames}

-- the statements of a text without a zero byte have plain names
abbrev pub StatementsArePlain : Type 0
StatementsArePlain = (text : List ℕ) (statements : List Statement) → HasNoZero text → AreStatementsOf text statements → All HasPlainNames statements

-- over well formed tables, the columns of a SELECT with plain names that has types can be described
abbrev pub ColumnsAreDescribed : Type 0
ColumnsAreDescribed =
    (tables : List Table) (select : Select) (t : TypedSelect) → All IsWellFormed tables → HasPlainNames (tree.Select select)
    → typed_select tables select ≡ Ok t → AreDescribed t.fields

-- over sound tables, so can those of each statement that is typed as a SELECT
abbrev pub StatementIsDescribed : Type 0
StatementIsDescribed =
    (tables : List Table) (statement : Statement) (t : TypedSelect) → All IsSound tables → HasPlainNames statement
    → typed tables statement ≡ Ok (typed_tree.Select t) → AreDescribed t.fields
