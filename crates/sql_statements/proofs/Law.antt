-- A text has statements or a fault, not both, and no two of either.
use Rattle.std.proofs.Common.{◌≡◌, ℕ, Bool, false, List, [], ◌∷◌, Option, Some, None, refl, ap, sym, ◌∙◌, subst, inl, inr, arith, length}
use Rattle.std.specs.Prelude.{◌⊎◌}
use Rattle.sql_tree.specs.declared.statement.Statement.{Statement}
use Rattle.sql_tree.specs.declared.token.Token.{Token}
use Rattle.sql_lexer.specs.declared.fault.LexFault.{LexFault}
use Rattle.sql_lexer.specs.declared.fault.LexFault.TheVariants as lex
use Rattle.sql_lexer.specs.Lexemes as lexemes
use Rattle.sql_lexer.specs.Lexemes.{IsFaultAt}
use Rattle.sql_lexer.specs.Tokens as lexer
use Rattle.sql_lexer.specs.Tokens.{AreTokensOf, FirstFault, IsFirstFaultOf}
use Rattle.sql_lexer.proofs.Some.{some_reading}
use Rattle.sql_grammar.specs.declared.mark.Mark.{Mark}
use Rattle.sql_grammar.specs.Statements.{message}
use Rattle.sql_grammar.specs.Steps.{reading}
use Rattle.sql_grammar.specs.Words.{marks}
use Rattle.sql_grammar.proofs.Taken.{none_some}
use Rattle.sql_grammar.proofs.Messages as messages
use Rattle.sql_refusal.specs.declared.cause.Cause.{Cause}
use Rattle.sql_refusal.specs.declared.cause.Cause.TheVariants as cause
use Rattle.sql_refusal.specs.Causes.{IsCause}
use Rattle.sql_refusal.proofs.Always.{some_cause}
use Rattle.sql_statements.specs.declared.fault.ParseFault.{ParseFault}
use Rattle.sql_statements.specs.declared.fault.ParseFault.TheVariants.{Lex, Syntax, Unsupported, TooDeep, TooMany, Memory}
use Rattle.sql_grammar.specs.Limited.{IsLimited, max_depth, max_rows, max_statements}
use Rattle.sql_statements.specs.Faults.{IsOutside, AreStatementsOf, TokensHaveFault, IsFaultOfText}
use Rattle.sql_statements.proofs.Faulty.{one_fault, list_fault, tokens_are, told, first_told, no_tokens}

-- ---- no two

pub one_list : (text : List ℕ) (xs ys : List Statement) → AreStatementsOf text xs → AreStatementsOf text ys → xs ≡ ys
one_list text xs ys a b =
    let P : List Token → Type 0 = λ z. IsLimited (marks z) ys in
    messages.one_message max_depth max_rows max_statements (marks a.tokens) xs ys a.limited (subst P (tokens_are text a.tokens b.tokens a.cut b.cut) b.limited)

pub not_both : (text : List ℕ) (xs : List Statement) (f : ParseFault) → AreStatementsOf text xs → IsFaultOfText text f → ⊥
not_both text xs f a h = (list_fault text a.tokens f a.cut h).0 xs a.limited

lexer_first : (text : List ℕ) (f : LexFault) → IsFaultOfText text (Lex f) → IsFirstFaultOf text f
lexer_first text lex.Memory h = absurd h
lexer_first text f h = h

of_tokens : (text : List ℕ) (f g : ParseFault) → TokensHaveFault text f → IsFaultOfText text g → f ≡ g
of_tokens text f g a h = one_fault a.tokens f g a.fault.1 (list_fault text a.tokens g a.cut h).1

of_lexer : (text : List ℕ) (f : LexFault) (g : ParseFault) → IsFirstFaultOf text f → IsFaultOfText text g → Lex f ≡ g
of_lexer text f (Lex g) h k = first_told text f g h k
of_lexer text f Syntax h k = absurd (no_tokens text f Syntax h k)
of_lexer text f Unsupported h k = absurd (no_tokens text f Unsupported h k)
of_lexer text f TooDeep h k = absurd (no_tokens text f TooDeep h k)
of_lexer text f TooMany h k = absurd (no_tokens text f TooMany h k)
of_lexer text f Memory h k = absurd (no_tokens text f Memory h k)

pub one_text_fault : (text : List ℕ) (f g : ParseFault) → IsFaultOfText text f → IsFaultOfText text g → f ≡ g
one_text_fault text (Lex f) g h k = of_lexer text f g (lexer_first text f h) k
one_text_fault text Syntax g h k = of_tokens text Syntax g h k
one_text_fault text Unsupported g h k = of_tokens text Unsupported g h k
one_text_fault text TooDeep g h k = of_tokens text TooDeep g h k
one_text_fault text TooMany g h k = of_tokens text TooMany g h k
one_text_fault text Memory g h k = of_tokens text Memory g h k

-- ---- always one

abbrev pub HasStatements : List ℕ → Type 0
HasStatements text = (xs : List Statement) × AreStatementsOf text xs

abbrev pub HasFault : List ℕ → Type 0
HasFault text = (f : ParseFault) × IsFaultOfText text f

caused : (text : List ℕ) (ts : List Token) → AreTokensOf text ts → IsOutside ts → (c : Cause) → IsCause ts c → HasFault text
caused text ts a o cause.TooMany h = (TooMany, record { tokens = ts; cut = a; fault = (o, h) })
caused text ts a o cause.TooDeep h = (TooDeep, record { tokens = ts; cut = a; fault = (o, h) })
caused text ts a o cause.Unsupported h = (Unsupported, record { tokens = ts; cut = a; fault = (o, h) })
caused text ts a o cause.Syntax h = (Syntax, record { tokens = ts; cut = a; fault = (o, h) })

outside_faulty : (text : List ℕ) (ts : List Token) → AreTokensOf text ts → IsOutside ts → HasStatements text ⊎ HasFault text
outside_faulty text ts a o = let c = some_cause ts in inr (caused text ts a o c.by c.is)

-- how many marks are left
abbrev over : Option (List Statement × List Mark) → ℕ
over None = 0
over (Some p) = length p.1

left_over : {xs ys : List Statement} {m : Mark} {ms : List Mark} → ◌≡◌ {A = Option (List Statement × List Mark)} (Some (xs, m ∷ ms)) (Some (ys, [])) → ⊥
left_over {m = m} {ms = ms} e = let t : length (m ∷ ms) ≡ 0 = ap over e in omega (arith, t)

judged : (text : List ℕ) (ts : List Token) → AreTokensOf text ts → (o : Option (List Statement × List Mark)) → reading (message max_depth max_rows max_statements) (marks ts) ≡ o → HasStatements text ⊎ HasFault text
judged text ts a None e = outside_faulty text ts a (λ xs l. none_some (sym e ∙ messages.message_reads max_depth max_rows max_statements (marks ts) xs l))
judged text ts a (Some p) e = split p.0 p.1 e
  where
    split : (xs : List Statement) (ms : List Mark) → reading (message max_depth max_rows max_statements) (marks ts) ≡ Some (xs, ms) → HasStatements text ⊎ HasFault text
    split xs [] e = inl (xs, record { tokens = ts; cut = a; limited = messages.message_sound max_depth max_rows max_statements (marks ts) xs e })
    split xs (m ∷ ms) e = outside_faulty text ts a (λ ys l. left_over (sym e ∙ messages.message_reads max_depth max_rows max_statements (marks ts) ys l))

no_memory_at : {joined : Bool} {at : ℕ} {text : List ℕ} {f : LexFault} → IsFaultAt joined at text f → f ≡ lex.Memory → ⊥
no_memory_at (lexemes.unclosed_comment _ _ _ _) e = cc
no_memory_at (lexemes.unclosed_string _ _ _ _) e = cc
no_memory_at (lexemes.unclosed_name _ _ _ _) e = cc
no_memory_at _ e = cc

no_memory : {joined : Bool} {at : ℕ} {text : List ℕ} {f : LexFault} → FirstFault joined at text f → f ≡ lex.Memory → ⊥
no_memory (lexer.here _ _ _ _ h) e = no_memory_at h e
no_memory (lexer.gap _ _ _ _ _ _ h) e = no_memory h e
no_memory (lexer.kind _ _ _ _ _ _ _ h) e = no_memory h e

pub some_answer : (text : List ℕ) → HasStatements text ⊎ HasFault text
some_answer text = elim (some_reading false 0 text) as (λ _. HasStatements text ⊎ HasFault text) [
  | inl t ↦ judged text t.0 t.1 (reading (message max_depth max_rows max_statements) (marks t.0)) refl
  | inr f ↦ inr (Lex f.0, told text f.0 (no_memory f.1) f.1)
]
