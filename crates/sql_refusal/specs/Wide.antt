-- The grammar without its limits, and the wide grammar, in which a type may also be a name with numbers in parentheses.
use Rattle.std.specs.Prelude.{ℕ, List, [], ◌∷◌, Option, Some, None}
use Rattle.cell_base.specs.declared.sql_type.SqlType.{SqlType}
use Rattle.sql_tree.specs.declared.statement.Statement.{Statement}
use Rattle.sql_tree.specs.declared.token.Sign.TheVariants as s
use Rattle.sql_grammar.specs.declared.mark.Mark.{Mark}
use Rattle.sql_grammar.specs.declared.mark.Word.TheVariants as w
use Rattle.sql_grammar.specs.Syntax.{Syntax, gives, integer, ◌⨟◌, map, either, repeat, spells}
use Rattle.sql_grammar.specs.Statements.{reserved, sign, ◌▹◌, for, option, optional, braced, listed, name, type_name, constraints, table_constraint, select, insert, update, delete, create, control, message}

-- the marks, all of them, spell statements within some limits
pub record IsUnlimited (ts : List Mark) : Type 0 where
  pub depth : ℕ
  pub rows : ℕ
  pub statements : ℕ
  pub trees : List Statement
  pub spelled : spells (message depth rows statements) ts trees

-- type := a type of the grammar | name [ '(' number { ',' number } ')' ]
unfoldable pub wide_type : Syntax (Unit {0})
wide_type = either (for tt type_name) (for tt (name ⨟ option (braced (listed integer))))

-- elem := name type { con } | [CONSTRAINT name] ( PRIMARY KEY '(' name { ',' name } ')' | CHECK '(' expr ')' )
unfoldable pub wide_element : ℕ → Syntax (Unit {0})
wide_element depth = either (for tt (name ⨟ wide_type ⨟ constraints depth)) (for tt (table_constraint depth))

-- create := CREATE TABLE name '(' elem { ',' elem } ')'
unfoldable pub wide_create : ℕ → Syntax (Unit {0})
wide_create depth = for tt (reserved w.Create ▹ reserved w.Table ▹ name ⨟ braced (listed (wide_element depth)))

-- stmt := select | insert | update | delete | create | begin | commit | rollback | set | show
unfoldable pub wide_statement : ℕ → ℕ → Syntax (Unit {0})
wide_statement depth rows =
    either (for tt (select depth)) (either (for tt (insert depth rows)) (either (for tt (update depth)) (either (for tt (delete depth)) (either (wide_create depth) (for tt control)))))

-- ';' [stmt]
unfoldable pub next_wide_piece : ℕ → ℕ → Syntax (List (Unit {0}))
next_wide_piece depth rows = for [] (sign s.Semi ▹ optional (wide_statement depth rows))

-- message := [stmt] { ';' [stmt] }
unfoldable pub wide_message : ℕ → ℕ → Syntax (List (Unit {0}))
wide_message depth rows = repeat (for [] (optional (wide_statement depth rows))) (next_wide_piece depth rows)

-- the marks, all of them, are spelled by the wide grammar within some limits
pub record IsWide (ts : List Mark) : Type 0 where
  pub depth : ℕ
  pub rows : ℕ
  pub value : List (Unit {0})
  pub spelled : spells (wide_message depth rows) ts value
