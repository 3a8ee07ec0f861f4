-- The reply of a statement that reads or writes rows (PostgreSQL's documentation, "Message Flow", Simple Query).
use Rattle.std.specs.Prelude.{ℕ, ◌≤◌, List, [], ◌++◌, length, flat_map, codes, All}
use Rattle.std.specs.Fmt.{decimal}
use Rattle.cell_base.specs.declared.value.Value.{Value}
use Rattle.pg_framing.specs.declared.replies.Severity.TheVariants as severities
use Rattle.pg_framing.specs.Replies.{two_bytes, value_bytes, row_description, data_row, command_complete, error_response, FitsMessage}
use Rattle.statement_course.specs.declared.demand.Outcome.{Outcome}
use Rattle.statement_course.specs.declared.demand.Outcome.TheVariants.{Rows, Inserted, Updated, Deleted, Failed}
use Rattle.sql_tree.specs.declared.table.OutField.{OutField}
use Rattle.described_columns.specs.Described.{AreDescribed}
use Rattle.outcome_replies.specs.declared.description.RowDescription.{RowDescription}
use Rattle.outcome_replies.specs.declared.description.RowDescription.TheVariants.{Told, Omitted}

-- the columns of a result, where they are told
abbrev pub columns_reply : RowDescription → List OutField → List ℕ
columns_reply Told fields = row_description fields
columns_reply Omitted fields = []

-- A SELECT is told by its columns, where they are told, its rows and how many they are; another statement by how many rows it changed; and
-- a statement that failed by its error alone.
unfoldable pub outcome_reply : RowDescription → Outcome → List ℕ
outcome_reply description (Rows fields rows) =
    columns_reply description fields ++ (flat_map data_row rows ++ command_complete (codes "SELECT " ++ decimal (length rows)))
outcome_reply description (Inserted n) = command_complete (codes "INSERT 0 " ++ decimal n)
outcome_reply description (Updated n) = command_complete (codes "UPDATE " ++ decimal n)
outcome_reply description (Deleted n) = command_complete (codes "DELETE " ++ decimal n)
outcome_reply description (Failed code) = error_response severities.Error code

-- a row fits one message
pub record RowFits (row : List Value) : Type 0 where
  pub few : length row ≤ 1664
  pub fits : FitsMessage (two_bytes (length row) ++ flat_map value_bytes row)

-- what a statement came to fits messages
abbrev pub CanBeTold : Outcome → Type 0
CanBeTold (Rows fields rows) = AreDescribed fields × All RowFits rows
CanBeTold _ = Unit {0}
