-- What holds of the tokens of a text without a zero byte, and of the tables that it creates.
use Rattle.std.specs.Prelude.{◌≡◌, ℕ, List, Ok}
use Rattle.std.specs.List.{Contains}
use Rattle.sql_tree.specs.declared.statement.CreateTable.{CreateTable}
use Rattle.sql_tree.specs.declared.statement.Statement.{Statement}
use Rattle.sql_tree.specs.declared.statement.Statement.TheVariants.{Create}
use Rattle.sql_tree.specs.declared.table.Table.{Table}
use Rattle.sql_tree.specs.declared.token.Token.{Token}
use Rattle.sql_lexer.specs.Tokens.{AreTokensOf}
use Rattle.cell_base.specs.Texts.{HasNoZero}
use Rattle.sql_grammar.specs.Limited.{IsPlain}
use Rattle.sql_statements.specs.Faults.{AreStatementsOf}
use Rattle.typing_rules.specs.Building.{built}
use Rattle.sound_table.specs.Sound.{IsSound}

-- the tokens of a text without a zero byte are plain
abbrev pub TokensArePlain : Type 0
TokensArePlain = (text : List ℕ) (tokens : List Token) → HasNoZero text → AreTokensOf text tokens → IsPlain tokens

-- a table that is built from a CREATE TABLE of a text without a zero byte is sound
abbrev pub BuiltIsSound : Type 0
BuiltIsSound =
    (text : List ℕ) (statements : List Statement) (create : CreateTable) (table : Table) → HasNoZero text → AreStatementsOf text statements
    → Contains statements (Create create) → built create ≡ Ok table → IsSound table
