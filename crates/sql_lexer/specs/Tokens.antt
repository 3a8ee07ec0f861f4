-- Which tokens stand for a text, and which fault is its first.
use Rattle.std.specs.Prelude.{◌≡◌, ℕ, ◌+◌, Bool, false, List, [], ◌∷◌, ◌++◌, length}
use Rattle.sql_tree.specs.declared.token.Token.{Token}
use Rattle.sql_tree.specs.declared.token.TokenKind.{TokenKind}
use Rattle.sql_lexer.specs.declared.fault.LexFault.{LexFault}
use Rattle.sql_lexer.specs.declared.fault.LexFault.TheVariants.{Memory}
use Rattle.sql_lexer.specs.Lexemes.{IsGap, IsToken, IsFaultAt, joins}

abbrev pub token : TokenKind → ℕ → ℕ → Token
token kind start end = record { kind = kind; start = start; end = end }

-- The tokens stand for the text, whose first byte is at the place: each span is the longest spelling of its token there, and only
-- white space and comments stand between the spans. The Bool says that a name or a closing parenthesis stands directly before.
pub data StandsFor : Bool → ℕ → List ℕ → List Token → Type 0 where
  ended : (joined : Bool) (at : ℕ) → StandsFor joined at [] []
  gap : (joined : Bool) (at : ℕ) (bytes after : List ℕ) (ts : List Token) → IsGap bytes after → StandsFor false (at + length bytes) after ts → StandsFor joined at (bytes ++ after) ts
  kind : (joined : Bool) (at : ℕ) (bytes after : List ℕ) (k : TokenKind) (ts : List Token) → IsToken joined bytes after k → StandsFor (joins k) (at + length bytes) after ts
      → StandsFor joined at (bytes ++ after) (token k at (at + length bytes) ∷ ts)

-- Up to the place of the fault tokens, white space and comments fit, and there none does.
pub data FirstFault : Bool → ℕ → List ℕ → LexFault → Type 0 where
  here : (joined : Bool) (at : ℕ) (text : List ℕ) (f : LexFault) → IsFaultAt joined at text f → FirstFault joined at text f
  gap : (joined : Bool) (at : ℕ) (bytes after : List ℕ) (f : LexFault) → IsGap bytes after → FirstFault false (at + length bytes) after f → FirstFault joined at (bytes ++ after) f
  kind : (joined : Bool) (at : ℕ) (bytes after : List ℕ) (k : TokenKind) (f : LexFault) → IsToken joined bytes after k → FirstFault (joins k) (at + length bytes) after f → FirstFault joined at (bytes ++ after) f

-- the tokens of a whole text
abbrev pub AreTokensOf : List ℕ → List Token → Type 0
AreTokensOf text ts = StandsFor false 0 text ts

-- the fault of the first place of the text at which nothing fits
abbrev pub IsFirstFaultOf : List ℕ → LexFault → Type 0
IsFirstFaultOf text f = FirstFault false 0 text f

-- the same, unless memory ran out
abbrev pub IsFaultOf : List ℕ → LexFault → Type 0
IsFaultOf text Memory = Unit {0}
IsFaultOf text f = IsFirstFaultOf text f

-- the fault is this one, unless memory ran out
abbrev pub IsFaultOrMemory : LexFault → LexFault → Type 0
IsFaultOrMemory Memory f = Unit {0}
IsFaultOrMemory g f = g ≡ f
