-- The tables that a session may define.
use Rattle.std.specs.Prelude.{◌≡◌, List, Ok}
use Rattle.std.specs.List.{Contains}
use Rattle.sql_tree.specs.declared.statement.CreateTable.{CreateTable}
use Rattle.sql_tree.specs.declared.statement.Statement.{Statement}
use Rattle.sql_tree.specs.declared.statement.Statement.TheVariants.{Create}
use Rattle.sql_tree.specs.declared.table.Table.{Table}
use Rattle.sql_tree.specs.declared.token.Token.{Token}
use Rattle.sql_grammar.specs.Limited.{IsLimited, IsPlain}
use Rattle.sql_grammar.specs.Words.{marks}
use Rattle.typing_rules.specs.Building.{built}

-- A table is sound where it is built from a CREATE TABLE that the grammar gives for a plain list of tokens.
pub record IsSound (table : Table) : Type 0 where
  pub tokens : List Token
  pub plain : IsPlain tokens
  pub statements : List Statement
  pub read : IsLimited (marks tokens) statements
  pub create : CreateTable
  pub among : Contains statements (Create create)
  pub built : built create ≡ Ok table
