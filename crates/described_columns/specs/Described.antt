-- Which columns of a result can be described to a client, and which statements name theirs plainly.
-- (PostgreSQL's documentation, "Message Formats", RowDescription.)
use Rattle.std.specs.Prelude.{◌≤◌, List, ◌++◌, length, flat_map}
use Rattle.std.specs.List.{All}
use Rattle.sql_tree.specs.declared.expr.Expr.{out-Expr}
use Rattle.sql_tree.specs.declared.statement.Item.{Item}
use Rattle.sql_tree.specs.declared.statement.Item.TheVariants as item
use Rattle.sql_tree.specs.declared.statement.Statement.{Statement}
use Rattle.sql_tree.specs.declared.statement.Statement.TheVariants as tree
use Rattle.sql_tree.specs.declared.table.OutField.{OutField}
use Rattle.sql_grammar.specs.Limited.{IsPlainName}
use Rattle.typing_rules.specs.Select.{name_or, plain_name}
use Rattle.pg_framing.specs.Replies.{two_bytes, field_bytes, IsField, FitsMessage}

-- The columns fit one message: at most 1,664 of them, each with a name and a type that can be told, and a body that isn't too long.
pub record AreDescribed (fields : List OutField) : Type 0 where
  pub few : length fields ≤ 1664
  pub each : All IsField fields
  pub fits : FitsMessage (two_bytes (length fields) ++ flat_map field_bytes fields)

-- The name that an item gives to its column has at most 63 bytes and no zero byte: the alias, else the name of the column or of the
-- function as it is written. `*` names no column itself.
abbrev pub NamesPlainly : Item → Type 0
NamesPlainly item.Star = Unit {0}
NamesPlainly (item.Expr e alias) = IsPlainName (name_or (plain_name (out-Expr e)) alias)

-- each item of a SELECT does so; other statements have no items
abbrev pub HasPlainNames : Statement → Type 0
HasPlainNames (tree.Select select) = All NamesPlainly select.items
HasPlainNames _ = Unit {0}
