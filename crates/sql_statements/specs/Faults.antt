-- The statements of a token list and of a text, and the fault of one that has none.
use Rattle.std.specs.Prelude.{◌≡◌, ℕ, List, Result, Ok, Err}
use Rattle.cell_base.specs.declared.sql_state.SqlState.{SqlState}
use Rattle.cell_base.specs.declared.sql_state.SqlState.TheVariants as states
use Rattle.sql_tree.specs.declared.statement.Statement.{Statement}
use Rattle.sql_tree.specs.declared.token.Token.{Token}
use Rattle.sql_lexer.specs.declared.fault.LexFault.TheVariants as lex
use Rattle.sql_lexer.specs.States as lexer
use Rattle.sql_lexer.specs.Tokens.{AreTokensOf, IsFirstFaultOf}
use Rattle.sql_grammar.specs.Words.{marks}
use Rattle.sql_refusal.specs.declared.cause.Cause.TheVariants as cause
use Rattle.sql_refusal.specs.Causes.{IsCause}
use Rattle.sql_statements.specs.declared.fault.ParseFault.{ParseFault}
use Rattle.sql_statements.specs.declared.fault.ParseFault.TheVariants.{Lex, Syntax, Unsupported, TooDeep, TooMany, Memory}
use Rattle.sql_grammar.specs.Limited.{IsLimited}

-- ---- token lists

-- the limited grammar doesn't hold the tokens
abbrev pub IsOutside : List Token → Type 0
IsOutside ts = (xs : List Statement) → ¬ (IsLimited (marks ts) xs)

-- this is the first row of the table that holds of the list
abbrev pub HasCause : List Token → ParseFault → Type 0
HasCause ts TooMany = IsCause ts cause.TooMany
HasCause ts TooDeep = IsCause ts cause.TooDeep
HasCause ts Unsupported = IsCause ts cause.Unsupported
HasCause ts Syntax = IsCause ts cause.Syntax
HasCause ts (Lex f) = ⊥
HasCause ts Memory = ⊥

-- the fault of a token list: it is outside the limited grammar, and this is the first row of the table that holds of it
abbrev pub IsFaultOfList : List Token → ParseFault → Type 0
IsFaultOfList ts f = IsOutside ts × HasCause ts f

-- ---- texts

-- the statements of a text are those of its tokens
pub record AreStatementsOf (text : List ℕ) (xs : List Statement) : Type 0 where
  pub tokens : List Token
  pub cut : AreTokensOf text tokens
  pub limited : IsLimited (marks tokens) xs

pub record TokensHaveFault (text : List ℕ) (f : ParseFault) : Type 0 where
  pub tokens : List Token
  pub cut : AreTokensOf text tokens
  pub fault : IsFaultOfList tokens f

-- the fault of a text: the first place at which nothing fits, or else the fault of its tokens
abbrev pub IsFaultOfText : List ℕ → ParseFault → Type 0
IsFaultOfText text (Lex lex.Memory) = ⊥
IsFaultOfText text (Lex f) = IsFirstFaultOf text f
IsFaultOfText text f = TokensHaveFault text f

-- ---- answers

-- the same, unless memory ran out
abbrev pub UnlessMemory : (ParseFault → Type 0) → ParseFault → Type 0
UnlessMemory P Memory = Unit {0}
UnlessMemory P f = P f

-- these statements are answered, unless memory ran out
abbrev pub Answers : Result (List Statement) ParseFault → List Statement → Type 0
Answers (Ok ys) xs = ys ≡ xs
Answers (Err Memory) xs = Unit {0}
Answers (Err f) xs = ⊥

-- this fault is answered, unless memory ran out
abbrev pub Refuses : Result (List Statement) ParseFault → ParseFault → Type 0
Refuses (Ok ys) f = ⊥
Refuses (Err Memory) f = Unit {0}
Refuses (Err g) f = g ≡ f

-- ---- codes

abbrev pub state_of : ParseFault → SqlState
state_of (Lex f) = lexer.state_of f
state_of TooMany = states.S54000
state_of TooDeep = states.S54000
state_of Unsupported = states.S0A000
state_of Syntax = states.S42601
state_of Memory = states.S53200
