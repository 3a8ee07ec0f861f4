-- The names of a CREATE TABLE that the grammar gives for plain tokens are plain.
use Rattle.std.proofs.Common.{ℕ, List, [], ◌∷◌, Option, Some, None, All, get_or}
use Rattle.std.specs.List.{Contains}
use Rattle.std.proofs.lemmas.List.Elements.{All-nil, All-cons, All-head, All-tail, All-map, All-contains, Contains-get_or}
use Rattle.sql_tree.specs.declared.statement.ColumnDef.{ColumnDef}
use Rattle.sql_tree.specs.declared.statement.CreateTable.{CreateTable}
use Rattle.sql_tree.specs.declared.statement.Statement.{Statement}
use Rattle.sql_tree.specs.declared.statement.Statement.TheVariants as tree
use Rattle.sql_tree.specs.declared.token.Token.{Token}
use Rattle.sql_tree.specs.declared.token.TokenKind.{TokenKind}
use Rattle.sql_tree.specs.declared.token.TokenKind.TheVariants as t
use Rattle.sql_grammar.specs.declared.mark.Class.{Class}
use Rattle.sql_grammar.specs.declared.mark.Class.TheVariants as class_of
use Rattle.sql_grammar.specs.declared.mark.Element.{Element}
use Rattle.sql_grammar.specs.declared.mark.Element.TheVariants as element_of
use Rattle.sql_grammar.specs.declared.mark.Word.{Word}
use Rattle.sql_grammar.specs.declared.mark.Word.TheVariants as w
use Rattle.sql_grammar.specs.Limited.{IsLimited, IsPlain, IsPlainKind, IsPlainName, max_depth, max_rows, max_statements}
use Rattle.sql_grammar.specs.Statements as grammar
use Rattle.sql_grammar.specs.Statements.{all_columns, table_of, as_list}
use Rattle.sql_grammar.specs.Syntax.{Syntax, map}
use Rattle.sql_grammar.specs.Words.{class, mark_of, mark, marks}
use Rattle.sound_table.proofs.Yields.{IsPlainMark, ArePlain, Yields, Any, whatever, a_name, both, made, given, passed, one_of, repeated, second, in_braces, in_list}

-- ---- the names of a tree

abbrev pub IsNamed : ColumnDef → Type 0
IsNamed d = IsPlainName d.name

pub record HasPlainNames (create : CreateTable) : Type 0 where
  pub table : IsPlainName create.name
  pub columns : All IsNamed create.columns

abbrev IsPlainElement : Element → Type 0
IsPlainElement (element_of.Column named kind cs) = IsPlainName named
IsPlainElement _ = Unit {0}

abbrev IsPlainStatement : Statement → Type 0
IsPlainStatement (tree.Create create) = HasPlainNames create
IsPlainStatement _ = Unit {0}

columns_plain : (es : List Element) → All IsPlainElement es → All IsNamed (all_columns es)
columns_plain [] h = All-nil IsNamed
columns_plain (element_of.Column named kind cs ∷ es) h =
    All-cons IsNamed (grammar.column_of named kind cs) (all_columns es) (All-head IsPlainElement _ es h) (columns_plain es (All-tail IsPlainElement _ es h))
columns_plain (element_of.Primary names ∷ es) h = columns_plain es (All-tail IsPlainElement _ es h)
columns_plain (element_of.Check x ∷ es) h = columns_plain es (All-tail IsPlainElement _ es h)

-- ---- CREATE TABLE

column_plain : (depth : ℕ) → Yields (grammar.column depth) IsPlainElement
unfolding grammar.column grammar.name
column_plain depth = made {P = λ p. IsPlainName p.0 × Any p.1} (both a_name whatever) (λ p h. h.0)

constraint_plain : (depth : ℕ) → Yields (grammar.table_constraint depth) IsPlainElement
unfolding grammar.table_constraint
constraint_plain depth = second (one_of (made {P = Any} whatever (λ _ _. tt)) (made {P = Any} whatever (λ _ _. tt)))

element_plain : (depth : ℕ) → Yields (grammar.element depth) IsPlainElement
unfolding grammar.element
element_plain depth = one_of (column_plain depth) (constraint_plain depth)

create_plain : (depth : ℕ) → Yields (grammar.create depth) IsPlainStatement
unfolding grammar.create grammar.name
create_plain depth =
    made {P = λ p. IsPlainName p.0 × All IsPlainElement p.1} (second (second (both a_name (in_braces (in_list IsPlainElement (element_plain depth))))))
    (λ p h. record { table = h.0; columns = columns_plain p.1 h.1 })

-- ---- other statements

-- a rule that makes another statement of what it spells
other : {A : Type 0} {f : A → Statement} {a : Syntax A} → ((x : A) → IsPlainStatement (f x)) → Yields (map f a) IsPlainStatement
other k = made {P = Any} whatever (λ x _. k x)

modes_plain : Yields grammar.transaction_modes IsPlainStatement
unfolding grammar.transaction_modes
modes_plain = other (λ _. tt)

assigned_plain : (but : List Word) → Yields (grammar.assigned but) IsPlainStatement
unfolding grammar.assigned
assigned_plain but = other (λ _. tt)

session_plain : Yields grammar.session_setting IsPlainStatement
unfolding grammar.session_setting grammar.characteristics
session_plain = one_of (second (one_of (second modes_plain) (other (λ _. tt)))) (assigned_plain (w.Characteristics ∷ []))

set_plain : Yields grammar.set IsPlainStatement
unfolding grammar.set
set_plain =
    second (one_of modes_plain (one_of (second session_plain) (one_of (second (assigned_plain [])) (assigned_plain (w.Transaction ∷ w.Session ∷ w.Local ∷ [])))))

control_plain : Yields grammar.control IsPlainStatement
unfolding grammar.control grammar.begin grammar.commit grammar.rollback grammar.show
control_plain = one_of (other (λ _. tt)) (one_of (other (λ _. tt)) (one_of (other (λ _. tt)) (one_of set_plain (other (λ _. tt)))))

statement_plain : (depth rows : ℕ) → Yields (grammar.statement depth rows) IsPlainStatement
unfolding grammar.statement grammar.select grammar.insert grammar.update grammar.delete
statement_plain depth rows =
    one_of (other (λ _. tt)) (one_of (other (λ _. tt)) (one_of (other (λ _. tt)) (one_of (other (λ _. tt)) (one_of (create_plain depth) control_plain))))

-- ---- messages

abbrev IsPlainPiece : Option Statement → Type 0
IsPlainPiece None = Unit {0}
IsPlainPiece (Some x) = IsPlainStatement x

listed_plain : (o : Option Statement) → IsPlainPiece o → All IsPlainStatement (as_list o)
listed_plain None h = All-nil IsPlainStatement
listed_plain (Some x) h = All-cons IsPlainStatement x [] h (All-nil IsPlainStatement)

piece_plain : (depth rows : ℕ) → Yields (map as_list (grammar.piece depth rows)) (All IsPlainStatement)
unfolding grammar.piece
piece_plain depth rows = made {P = IsPlainPiece} (one_of (made (statement_plain depth rows) (λ x h. h)) (given tt)) listed_plain

message_plain : (depth rows statements : ℕ) → Yields (grammar.message depth rows statements) (All IsPlainStatement)
unfolding grammar.message grammar.next_piece
message_plain depth rows statements = passed (repeated IsPlainStatement (piece_plain depth rows) (second (piece_plain depth rows)))

-- ---- the marks of plain tokens

word_plain : (word : List ℕ) (c : Class) → IsPlainName word → IsPlainMark (mark_of word c)
word_plain word (class_of.Key k) h = tt
word_plain word (class_of.Reserved v) h = tt
word_plain word (class_of.Plain v) h = h

mark_plain : (kind : TokenKind) → IsPlainKind kind → IsPlainMark (mark kind)
mark_plain (t.Word word) h = word_plain word (class word) h
mark_plain (t.Quoted name) h = h
mark_plain (t.Number n) h = tt
mark_plain (t.Str text) h = tt
mark_plain (t.Param n) h = tt
mark_plain (t.Sign sign) h = tt

pub marks_plain : (tokens : List Token) → IsPlain tokens → ArePlain (marks tokens)
marks_plain tokens h m at =
    let each : All (λ (token : Token). IsPlainMark (mark token.kind)) tokens =
    λ k d within. mark_plain _ (h (get_or tokens k d) (Contains-get_or tokens k d within)) in
    All-contains IsPlainMark (marks tokens) m (All-map IsPlainMark (λ (token : Token). mark token.kind) tokens each) at

pub create_named : (tokens : List Token) (statements : List Statement) (create : CreateTable)
    → IsPlain tokens → IsLimited (marks tokens) statements → Contains statements (tree.Create create) → HasPlainNames create
create_named tokens statements create h s at =
    All-contains IsPlainStatement statements (tree.Create create)
    ((message_plain max_depth max_rows max_statements).each (marks tokens) statements (marks_plain tokens h) s) at
