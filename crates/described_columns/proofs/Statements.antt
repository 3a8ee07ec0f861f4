-- The statements that the grammar gives for plain tokens have plain names.
use Rattle.std.proofs.Common.{ℕ, List, [], ◌∷◌, Option, Some, None, All}
use Rattle.std.proofs.lemmas.List.Elements.{All-nil, All-cons}
use Rattle.sql_tree.specs.declared.statement.Statement.{Statement}
use Rattle.sql_tree.specs.declared.token.Token.{Token}
use Rattle.sql_grammar.specs.declared.mark.Word.{Word}
use Rattle.sql_grammar.specs.declared.mark.Word.TheVariants as w
use Rattle.sql_grammar.specs.Limited.{IsLimited, IsPlain, IsPlainName, max_depth, max_rows, max_statements}
use Rattle.sql_grammar.specs.Statements as grammar
use Rattle.sql_grammar.specs.Statements.{as_list}
use Rattle.sql_grammar.specs.Syntax.{Syntax, expression, map}
use Rattle.sql_grammar.specs.Words.{marks}
use Rattle.typing_rules.specs.Select.{name_or}
use Rattle.sound_table.proofs.Names.{marks_plain}
use Rattle.sound_table.proofs.Yields.{Yields, Any, whatever, a_name, both, made, given, passed, one_of, repeated, second, in_list}
use Rattle.described_columns.specs.Described.{NamesPlainly, HasPlainNames}
use Rattle.described_columns.proofs.Expressions.{HasPlainName, expression_named}

-- ---- SELECT

abbrev IsPlainAlias : Option (List ℕ) → Type 0
IsPlainAlias None = Unit {0}
IsPlainAlias (Some name) = IsPlainName name

named_or : (name : List ℕ) (alias : Option (List ℕ)) → IsPlainName name → IsPlainAlias alias → IsPlainName (name_or name alias)
named_or name None h k = h
named_or name (Some alias) h k = k

alias_plain : Yields grammar.alias IsPlainAlias
unfolding grammar.alias grammar.name
alias_plain = one_of (made {P = IsPlainName} (one_of (second a_name) a_name) (λ x h. h)) (given tt)

an_expression : (depth : ℕ) → Yields (expression depth) HasPlainName
an_expression depth = record { each = λ ts x h s. expression_named s.spelled h }

item_plain : (depth : ℕ) → Yields (grammar.item depth) NamesPlainly
unfolding grammar.item
item_plain depth =
    one_of (made {P = Any} whatever (λ _ _. tt))
    (made {P = λ p. HasPlainName p.0 × IsPlainAlias p.1} (both (an_expression depth) alias_plain) (λ p h. named_or _ p.1 h.0 h.1))

select_plain : (depth : ℕ) → Yields (grammar.select depth) HasPlainNames
unfolding grammar.select
select_plain depth = made {P = λ p. All NamesPlainly p.0 × Any p.1} (second (both (in_list NamesPlainly (item_plain depth)) whatever)) (λ p h. h.0)

-- ---- other statements

-- a rule that makes another statement of what it spells
other : {A : Type 0} {f : A → Statement} {a : Syntax A} → ((x : A) → HasPlainNames (f x)) → Yields (map f a) HasPlainNames
other k = made {P = Any} whatever (λ x _. k x)

modes_plain : Yields grammar.transaction_modes HasPlainNames
unfolding grammar.transaction_modes
modes_plain = other (λ _. tt)

assigned_plain : (but : List Word) → Yields (grammar.assigned but) HasPlainNames
unfolding grammar.assigned
assigned_plain but = other (λ _. tt)

session_plain : Yields grammar.session_setting HasPlainNames
unfolding grammar.session_setting grammar.characteristics
session_plain = one_of (second (one_of (second modes_plain) (other (λ _. tt)))) (assigned_plain (w.Characteristics ∷ []))

set_plain : Yields grammar.set HasPlainNames
unfolding grammar.set
set_plain =
    second (one_of modes_plain (one_of (second session_plain) (one_of (second (assigned_plain [])) (assigned_plain (w.Transaction ∷ w.Session ∷ w.Local ∷ [])))))

control_plain : Yields grammar.control HasPlainNames
unfolding grammar.control grammar.begin grammar.commit grammar.rollback grammar.show
control_plain = one_of (other (λ _. tt)) (one_of (other (λ _. tt)) (one_of (other (λ _. tt)) (one_of set_plain (other (λ _. tt)))))

statement_plain : (depth rows : ℕ) → Yields (grammar.statement depth rows) HasPlainNames
unfolding grammar.statement grammar.insert grammar.update grammar.delete grammar.create
statement_plain depth rows =
    one_of (select_plain depth) (one_of (other (λ _. tt)) (one_of (other (λ _. tt)) (one_of (other (λ _. tt)) (one_of (other (λ _. tt)) control_plain))))

-- ---- messages

abbrev IsPlainPiece : Option Statement → Type 0
IsPlainPiece None = Unit {0}
IsPlainPiece (Some x) = HasPlainNames x

listed_plain : (o : Option Statement) → IsPlainPiece o → All HasPlainNames (as_list o)
listed_plain None h = All-nil HasPlainNames
listed_plain (Some x) h = All-cons HasPlainNames x [] h (All-nil HasPlainNames)

piece_plain : (depth rows : ℕ) → Yields (map as_list (grammar.piece depth rows)) (All HasPlainNames)
unfolding grammar.piece
piece_plain depth rows = made {P = IsPlainPiece} (one_of (made (statement_plain depth rows) (λ x h. h)) (given tt)) listed_plain

message_plain : (depth rows statements : ℕ) → Yields (grammar.message depth rows statements) (All HasPlainNames)
unfolding grammar.message grammar.next_piece
message_plain depth rows statements = passed (repeated HasPlainNames (piece_plain depth rows) (second (piece_plain depth rows)))

pub read_plain : (tokens : List Token) (statements : List Statement) → IsPlain tokens → IsLimited (marks tokens) statements → All HasPlainNames statements
read_plain tokens statements h s = (message_plain max_depth max_rows max_statements).each (marks tokens) statements (marks_plain tokens h) s
