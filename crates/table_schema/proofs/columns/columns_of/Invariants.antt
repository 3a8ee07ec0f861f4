use Rattle.std.proofs.Common.{◌≡◌, [], take, drop}
use Rattle.typing_rules.specs.Building.{columns_from}
use Rattle.table_schema.specs.Columns.{names}
use Rattle.table_schema.proofs.ColumnLists.{left_over}
use Rattle.table_schema.proofs.columns.columns_of.Given as goal

abbrev pub invariant-loop-i : goal.invariant-loop-i
invariant-loop-i l = left_over l.built (names (take l.i l.columns)) (drop l.i l.columns) ≡ columns_from [] l.columns
