-- The fault of a token list and of a text.
use Rattle.std.proofs.Common.{◌≡◌, ℕ, false, List, Result, Ok, Err, refl, ap, sym, ◌∙◌, subst}
use Rattle.std.specs.Prelude.{IfOk, IfErr}
use Rattle.sql_tree.specs.declared.statement.Statement.{Statement}
use Rattle.sql_tree.specs.declared.token.Token.{Token}
use Rattle.sql_lexer.specs.declared.fault.LexFault.{LexFault}
use Rattle.sql_lexer.specs.declared.fault.LexFault.TheVariants as lex
use Rattle.sql_lexer.specs.Tokens as lexer
use Rattle.sql_lexer.specs.Tokens.{AreTokensOf, IsFirstFaultOf}
use Rattle.sql_lexer.proofs.Once as once
use Rattle.sql_grammar.specs.Words.{marks}
use Rattle.sql_refusal.specs.declared.cause.Cause.{Cause}
use Rattle.sql_refusal.specs.declared.cause.Cause.TheVariants as cause
use Rattle.sql_refusal.specs.Causes.{IsCause}
use Rattle.sql_refusal.proofs.Once.{one_cause}
use Rattle.sql_statements.specs.declared.fault.ParseFault.{ParseFault}
use Rattle.sql_statements.specs.declared.fault.ParseFault.TheVariants.{Lex, Syntax, Unsupported, TooDeep, TooMany, Memory}
use Rattle.sql_grammar.specs.Limited.{IsLimited}
use Rattle.sql_statements.specs.Faults.{IsOutside, HasCause, IsFaultOfList, AreStatementsOf, TokensHaveFault, IsFaultOfText, UnlessMemory, Answers, Refuses}

-- ---- token lists

pub outside_fault : (ts : List Token) (f : ParseFault) → IsOutside ts → HasCause ts f → UnlessMemory (IsFaultOfList ts) f
outside_fault ts (Lex f) o h = (o, h)
outside_fault ts Syntax o h = (o, h)
outside_fault ts Unsupported o h = (o, h)
outside_fault ts TooDeep o h = (o, h)
outside_fault ts TooMany o h = (o, h)
outside_fault ts Memory o h = tt

-- the cause of a fault, and back
abbrev fault_of : Cause → ParseFault
fault_of cause.TooMany = TooMany
fault_of cause.TooDeep = TooDeep
fault_of cause.Unsupported = Unsupported
fault_of cause.Syntax = Syntax

pub record Caused (ts : List Token) (f : ParseFault) : Type 0 where
  pub by : Cause
  pub is : IsCause ts by
  pub same : fault_of by ≡ f

caused : (ts : List Token) (f : ParseFault) → HasCause ts f → Caused ts f
caused ts (Lex f) h = absurd h
caused ts Syntax h = record { by = cause.Syntax; is = h; same = refl }
caused ts Unsupported h = record { by = cause.Unsupported; is = h; same = refl }
caused ts TooDeep h = record { by = cause.TooDeep; is = h; same = refl }
caused ts TooMany h = record { by = cause.TooMany; is = h; same = refl }
caused ts Memory h = absurd h

pub one_fault : (ts : List Token) (f g : ParseFault) → HasCause ts f → HasCause ts g → f ≡ g
one_fault ts f g h k =
    let a = caused ts f h in
    let b = caused ts g k in
    sym a.same ∙ ap fault_of (one_cause ts a.by b.by a.is b.is) ∙ b.same

refuses_same : (f g : ParseFault) → f ≡ g → Refuses (Err f) g
refuses_same (Lex f) g e = e
refuses_same Syntax g e = e
refuses_same Unsupported g e = e
refuses_same TooDeep g e = e
refuses_same TooMany g e = e
refuses_same Memory g e = tt

pub list_refuses : (ts : List Token) (f : ParseFault) → HasCause ts f → (g : ParseFault) → IsFaultOfList ts g → Refuses (Err f) g
list_refuses ts f h g k = refuses_same f g (one_fault ts f g h k.1)

-- the same where memory may have run out
pub unless_outside : (ts : List Token) (f : ParseFault) → IsOutside ts → UnlessMemory (HasCause ts) f → UnlessMemory (IsFaultOfList ts) f
unless_outside ts (Lex f) o h = (o, h)
unless_outside ts Syntax o h = (o, h)
unless_outside ts Unsupported o h = (o, h)
unless_outside ts TooDeep o h = (o, h)
unless_outside ts TooMany o h = (o, h)
unless_outside ts Memory o h = tt

pub unless_refuses : (ts : List Token) (f : ParseFault) → UnlessMemory (HasCause ts) f → (g : ParseFault) → IsFaultOfList ts g → Refuses (Err f) g
unless_refuses ts (Lex f) h g k = absurd h
unless_refuses ts Syntax h g k = list_refuses ts Syntax h g k
unless_refuses ts Unsupported h g k = list_refuses ts Unsupported h g k
unless_refuses ts TooDeep h g k = list_refuses ts TooDeep h g k
unless_refuses ts TooMany h g k = list_refuses ts TooMany h g k
unless_refuses ts Memory h g k = tt

pub not_outside : (ts : List Token) (xs : List Statement) → IsLimited (marks ts) xs → (g : ParseFault) → IsFaultOfList ts g → ⊥
not_outside ts xs h g k = k.0 xs h

-- ---- texts

-- the clauses of an answer for a text
pub record IsAnswer (text : List ℕ) (r : Result (List Statement) ParseFault) : Type 0 where
  pub found : IfOk r (λ xs. AreStatementsOf text xs)
  pub only : (xs : List Statement) → AreStatementsOf text xs → Answers r xs
  pub fault : IfErr r (λ f. UnlessMemory (IsFaultOfText text) f)
  pub refused : (f : ParseFault) → IsFaultOfText text f → Refuses r f

pub tokens_are : (text : List ℕ) (ts us : List Token) → AreTokensOf text ts → AreTokensOf text us → us ≡ ts
tokens_are text ts us a b = once.one_reading false 0 text us ts b a

read_found : (text : List ℕ) (ts : List Token) (r : Result (List Statement) ParseFault) → AreTokensOf text ts → IfOk r (λ xs. IsLimited (marks ts) xs) → IfOk r (λ xs. AreStatementsOf text xs)
read_found text ts (Ok xs) a h = record { tokens = ts; cut = a; limited = h }
read_found text ts (Err f) a h = tt

lifted : (text : List ℕ) (ts : List Token) (f : ParseFault) → AreTokensOf text ts → UnlessMemory (IsFaultOfList ts) f → UnlessMemory (IsFaultOfText text) f
lifted text ts (Lex f) a h = absurd h.1
lifted text ts Syntax a h = record { tokens = ts; cut = a; fault = h }
lifted text ts Unsupported a h = record { tokens = ts; cut = a; fault = h }
lifted text ts TooDeep a h = record { tokens = ts; cut = a; fault = h }
lifted text ts TooMany a h = record { tokens = ts; cut = a; fault = h }
lifted text ts Memory a h = tt

read_fault : (text : List ℕ) (ts : List Token) (r : Result (List Statement) ParseFault) → AreTokensOf text ts → IfErr r (λ f. UnlessMemory (IsFaultOfList ts) f) → IfErr r (λ f. UnlessMemory (IsFaultOfText text) f)
read_fault text ts (Ok xs) a h = tt
read_fault text ts (Err f) a h = lifted text ts f a h

of_tokens : (text : List ℕ) (ts : List Token) (g : ParseFault) → AreTokensOf text ts → TokensHaveFault text g → IsFaultOfList ts g
of_tokens text ts g a h = let P : List Token → Type 0 = λ z. IsFaultOfList z g in subst P (tokens_are text ts h.tokens a h.cut) h.fault

no_lexer_fault : (text : List ℕ) (ts : List Token) (f : LexFault) → AreTokensOf text ts → IsFaultOfText text (Lex f) → ⊥
no_lexer_fault text ts lex.Memory a h = h
no_lexer_fault text ts f a h = once.no_fault false 0 text ts f a h

pub list_fault : (text : List ℕ) (ts : List Token) (g : ParseFault) → AreTokensOf text ts → IsFaultOfText text g → IsFaultOfList ts g
list_fault text ts (Lex f) a h = absurd (no_lexer_fault text ts f a h)
list_fault text ts Syntax a h = of_tokens text ts Syntax a h
list_fault text ts Unsupported a h = of_tokens text ts Unsupported a h
list_fault text ts TooDeep a h = of_tokens text ts TooDeep a h
list_fault text ts TooMany a h = of_tokens text ts TooMany a h
list_fault text ts Memory a h = of_tokens text ts Memory a h

-- the answer for the tokens of a text is the answer for the text
pub read_answer : (text : List ℕ) (ts : List Token) (r : Result (List Statement) ParseFault) → AreTokensOf text ts
    → IfOk r (λ xs. IsLimited (marks ts) xs) → ((xs : List Statement) → IsLimited (marks ts) xs → Answers r xs)
    → IfErr r (λ f. UnlessMemory (IsFaultOfList ts) f) → ((f : ParseFault) → IsFaultOfList ts f → Refuses r f) → IsAnswer text r
read_answer text ts r a found only fault refused = record {
  found = read_found text ts r a found;
  only = λ xs s. let P : List Token → Type 0 = λ z. IsLimited (marks z) xs in only xs (subst P (tokens_are text ts s.tokens a s.cut) s.limited);
  fault = read_fault text ts r a fault;
  refused = λ g h. refused g (list_fault text ts g a h);
}

-- ---- faults of the lexer

pub lexer_fault : (text : List ℕ) (f : LexFault) → (f ≡ lex.Memory → ⊥) → lexer.IsFaultOf text f → IsFirstFaultOf text f
lexer_fault text lex.Memory n h = absurd (n refl)
lexer_fault text _ n h = h

pub told : (text : List ℕ) (f : LexFault) → (f ≡ lex.Memory → ⊥) → IsFirstFaultOf text f → IsFaultOfText text (Lex f)
told text lex.Memory n h = absurd (n refl)
told text _ n h = h

pub first_told : (text : List ℕ) (f g : LexFault) → IsFirstFaultOf text f → IsFaultOfText text (Lex g) → Lex f ≡ Lex g
first_told text f lex.Memory h k = absurd k
first_told text f g h k = ap Lex (once.one_fault false 0 text f g h k)

pub no_tokens : (text : List ℕ) (f : LexFault) (g : ParseFault) → IsFirstFaultOf text f → TokensHaveFault text g → ⊥
no_tokens text f g h k = once.no_fault false 0 text k.tokens f k.cut h

lexer_refuses : (text : List ℕ) (f : LexFault) → IsFirstFaultOf text f → (g : ParseFault) → IsFaultOfText text g → Refuses (Err (Lex f)) g
lexer_refuses text f h (Lex g) k = first_told text f g h k
lexer_refuses text f h Syntax k = absurd (no_tokens text f Syntax h k)
lexer_refuses text f h Unsupported k = absurd (no_tokens text f Unsupported h k)
lexer_refuses text f h TooDeep k = absurd (no_tokens text f TooDeep h k)
lexer_refuses text f h TooMany k = absurd (no_tokens text f TooMany h k)
lexer_refuses text f h Memory k = absurd (no_tokens text f Memory h k)

pub lexer_answer : (text : List ℕ) (f : LexFault) → (f ≡ lex.Memory → ⊥) → lexer.IsFaultOf text f → IsAnswer text (Err (Lex f))
lexer_answer text f n h =
    let first = lexer_fault text f n h in
    record {
      found = tt;
      only = λ xs s. once.no_fault false 0 text s.tokens f s.cut first;
      fault = told text f n first;
      refused = lexer_refuses text f first;
    }
