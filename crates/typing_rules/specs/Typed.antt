-- The typing of a statement that reads or writes rows: its typed tree, or the code that comes first.
use Rattle.std.specs.Prelude.{List, Ok, Err}
use Rattle.cell_base.specs.declared.sql_state.SqlState.TheVariants.{S0A000}
use Rattle.sql_tree.specs.declared.statement.Statement.{Statement}
use Rattle.sql_tree.specs.declared.statement.Statement.TheVariants as tree
use Rattle.sql_tree.specs.declared.table.Table.{Table}
use Rattle.sql_tree.specs.declared.typed.Typed.{Typed}
use Rattle.sql_tree.specs.declared.typed.Typed.TheVariants.{Select, Insert, Change}
use Rattle.typing_rules.specs.Outcome.{Outcome, and_then}
use Rattle.typing_rules.specs.Select.{typed_select}
use Rattle.typing_rules.specs.Insert.{typed_insert}
use Rattle.typing_rules.specs.Changes.{typed_update, typed_delete}

-- over the tables, which are numbered from 0; a statement of another kind has no types
abbrev pub typed : List Table → Statement → Outcome Typed
typed tables (tree.Select select) = and_then (typed_select tables select) (λ t. Ok (Select t))
typed tables (tree.Insert insert) = and_then (typed_insert tables insert) (λ t. Ok (Insert t))
typed tables (tree.Update update) = and_then (typed_update tables update) (λ t. Ok (Change t))
typed tables (tree.Delete delete) = and_then (typed_delete tables delete) (λ t. Ok (Change t))
typed tables _ = Err S0A000
