-- The limited grammar, and the lists of tokens that a text can have.
use Rattle.std.specs.Prelude.{◌≤◌, ℕ, ℤ, pos, negsuc, List, length, Contains}
use Rattle.cell_base.specs.Texts.{HasNoZero}
use Rattle.sql_tree.specs.declared.statement.Statement.{Statement}
use Rattle.sql_tree.specs.declared.token.Token.{Token}
use Rattle.sql_tree.specs.declared.token.TokenKind.{TokenKind}
use Rattle.sql_tree.specs.declared.token.TokenKind.TheVariants as kind
use Rattle.sql_grammar.specs.declared.mark.Mark.{Mark}
use Rattle.sql_grammar.specs.Statements.{message}
use Rattle.sql_grammar.specs.Syntax.{spells}

-- how deep an expression may be spelled
abbrev pub max_depth : ℕ
max_depth = 64

-- how many rows an INSERT may have
abbrev pub max_rows : ℕ
max_rows = 1000

-- how many statements a message may have
abbrev pub max_statements : ℕ
max_statements = 256

-- the marks, all of them, spell the statements within the limits
abbrev pub IsLimited : List Mark → List Statement → Type 0
IsLimited ts xs = spells (message max_depth max_rows max_statements) ts xs

-- ---- plain lists

pub record IsPlainName (name : List ℕ) : Type 0 where
  pub fits : length name ≤ 63
  pub no_zero : HasNoZero name

abbrev pub IsPlainNumber : ℤ → Type 0
IsPlainNumber (pos n) = Unit {0}
IsPlainNumber (negsuc n) = ⊥

-- names have at most 63 bytes, names and strings hold no zero byte, and numbers aren't negative
abbrev pub IsPlainKind : TokenKind → Type 0
IsPlainKind (kind.Word name) = IsPlainName name
IsPlainKind (kind.Quoted name) = IsPlainName name
IsPlainKind (kind.Str text) = HasNoZero text
IsPlainKind (kind.Number n) = IsPlainNumber n
IsPlainKind (kind.Param n) = Unit {0}
IsPlainKind (kind.Sign sign) = Unit {0}

-- each token is one that a text without a zero byte can have
abbrev pub IsPlain : List Token → Type 0
IsPlain tokens = (token : Token) → Contains tokens token → IsPlainKind token.kind
