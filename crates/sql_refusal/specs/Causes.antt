-- Why a token list outside the limited grammar is refused: the first row of a table that holds of the whole list.
use Rattle.std.specs.Prelude.{IsTrue, IsFalse, ◌⊎◌, List}
use Rattle.sql_tree.specs.declared.token.Token.{Token}
use Rattle.sql_grammar.specs.Words.{marks}
use Rattle.sql_refusal.specs.declared.cause.Cause.{Cause}
use Rattle.sql_refusal.specs.declared.cause.Cause.TheVariants.{TooMany, TooDeep, Unsupported, Syntax}
use Rattle.sql_refusal.specs.Pieces.{has_too_many, has_deep_token, has_unsupported_token}
use Rattle.sql_refusal.specs.Wide.{IsUnlimited, IsWide}

-- The rows: too many statements or rows; a level above 66; the unlimited grammar; the wide grammar or an unsupported token; all others.
abbrev pub IsCause : List Token → Cause → Type 0
IsCause ts TooMany = IsTrue (has_too_many ts)
IsCause ts TooDeep = IsFalse (has_too_many ts) × (IsTrue (has_deep_token ts) ⊎ IsUnlimited (marks ts))
IsCause ts Unsupported = IsFalse (has_too_many ts) × IsFalse (has_deep_token ts) × ¬ (IsUnlimited (marks ts)) × (IsWide (marks ts) ⊎ IsTrue (has_unsupported_token ts))
IsCause ts Syntax = IsFalse (has_too_many ts) × IsFalse (has_deep_token ts) × ¬ (IsUnlimited (marks ts)) × ¬ (IsWide (marks ts)) × IsFalse (has_unsupported_token ts)
