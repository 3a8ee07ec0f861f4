-- The grammar of statements, a line for each rule, and the tree that each spells.
use Rattle.std.specs.Prelude.{ℕ, ℤ, pos, negsuc, Bool, true, false, nat_le, ◌&&◌, if◌then◌else◌, List, [], ◌∷◌, ◌++◌, length, codes, Option, Some, None}
use Rattle.std.specs.Fmt.{signed_decimal}
use Rattle.cell_base.specs.declared.sql_type.SqlType.{SqlType}
use Rattle.cell_base.specs.declared.sql_type.SqlType.TheVariants as t
use Rattle.sql_tree.specs.declared.token.Sign.{Sign}
use Rattle.sql_tree.specs.declared.token.Sign.TheVariants as s
use Rattle.sql_tree.specs.declared.expr.Expr.{Expr}
use Rattle.sql_tree.specs.declared.expr.Expr.TheVariants as e
use Rattle.sql_tree.specs.declared.statement.Item.{Item}
use Rattle.sql_tree.specs.declared.statement.Item.TheVariants as item_of
use Rattle.sql_tree.specs.declared.statement.TableRef.{TableRef}
use Rattle.sql_tree.specs.declared.statement.OrderTerm.{OrderTerm}
use Rattle.sql_tree.specs.declared.statement.ColumnDef.{ColumnDef}
use Rattle.sql_tree.specs.declared.statement.CreateTable.{CreateTable}
use Rattle.sql_tree.specs.declared.statement.Statement.{Statement}
use Rattle.sql_tree.specs.declared.statement.Statement.TheVariants as tree
use Rattle.sql_grammar.specs.declared.mark.Keyword.{Keyword}
use Rattle.sql_grammar.specs.declared.mark.Keyword.TheVariants as k
use Rattle.sql_grammar.specs.declared.mark.Word.{Word}
use Rattle.sql_grammar.specs.declared.mark.Word.TheVariants as w
use Rattle.sql_grammar.specs.declared.mark.Sought.TheVariants as sought
use Rattle.sql_grammar.specs.declared.mark.Constraint.{Constraint}
use Rattle.sql_grammar.specs.declared.mark.Constraint.TheVariants as c
use Rattle.sql_grammar.specs.declared.mark.Element.{Element}
use Rattle.sql_grammar.specs.declared.mark.Element.TheVariants as element_of
use Rattle.sql_grammar.specs.Syntax.{Syntax, gives, one, name_but, integer, text, expression, ◌⨟◌, map, only, either, repeat}

-- ---- parts

abbrev pub word : Word → Syntax (Unit {0})
word v = one (sought.Plain v)

abbrev pub reserved : Word → Syntax (Unit {0})
reserved v = one (sought.Reserved v)

abbrev pub key : Keyword → Syntax (Unit {0})
key v = one (sought.Key v)

abbrev pub sign : Sign → Syntax (Unit {0})
sign v = one (sought.Sign v)

-- one after the other, with the value of the second, or of the first
infixr 20 ◌▹◌
abbrev pub ◌▹◌ : {A B : Type 0} → Syntax A → Syntax B → Syntax B
a ▹ b = map (λ p. p.1) (a ⨟ b)

infixr 20 ◌◃◌
abbrev pub ◌◃◌ : {A B : Type 0} → Syntax A → Syntax B → Syntax A
a ◃ b = map (λ p. p.0) (a ⨟ b)

-- the value for whatever the part spells
abbrev pub for : {A B : Type 0} → B → Syntax A → Syntax B
for x a = map (λ _. x) a

-- [ a ]
abbrev pub option : {A : Type 0} → Syntax A → Syntax (Option A)
option a = either (map Some a) (gives None)

abbrev pub optional : {A : Type 0} → Syntax A → Syntax (Unit {0})
optional a = either (for tt a) (gives tt)

-- '(' a ')'
abbrev pub braced : {A : Type 0} → Syntax A → Syntax A
braced a = sign s.Open ▹ a ◃ sign s.Close

abbrev pub single : {A : Type 0} → Syntax A → Syntax (List A)
single a = map (λ x. x ∷ []) a

-- a { a }, where what stands between is part of what follows
abbrev pub listed : {A : Type 0} → Syntax A → Syntax (List A)
listed a = repeat (single a) (sign s.Comma ▹ single a)

unfoldable pub name : Syntax (List ℕ)
name = name_but []

-- [ [AS] name ]
unfoldable pub alias : Syntax (Option (List ℕ))
alias = option (either (reserved w.As ▹ name) name)

-- [WHERE expr]
unfoldable pub filter : ℕ → Syntax (Option Expr)
filter depth = option (reserved w.Where ▹ expression depth)

-- ---- SELECT

-- item := '*' | expr [ [AS] name ]
unfoldable pub item : ℕ → Syntax Item
item depth = either (for item_of.Star (sign s.Star)) (map (λ p. item_of.Expr p.0 p.1) (expression depth ⨟ alias))

-- an entry of FROM without a condition
abbrev pub entry : List ℕ × Option (List ℕ) → TableRef
entry p = record { name = p.0; alias = p.1; on = None }

-- tab := name [ [AS] name ]
unfoldable pub tab : Syntax TableRef
tab = map entry (name ⨟ alias)

abbrev pub on : TableRef × Expr → TableRef
on p = record { name = p.0.name; alias = p.0.alias; on = Some p.1 }

-- [INNER] JOIN tab ON expr | CROSS JOIN tab
unfoldable pub join : ℕ → Syntax TableRef
join depth = either (reserved w.Cross ▹ reserved w.Join ▹ tab) (optional (reserved w.Inner) ▹ reserved w.Join ▹ map on (tab ⨟ reserved w.On ▹ expression depth))

unfoldable pub next_tabs : Syntax (List TableRef)
next_tabs = sign s.Comma ▹ single tab

unfoldable pub next_joins : ℕ → Syntax (List TableRef)
next_joins depth = single (join depth)

-- { ',' tab } | { [INNER] JOIN tab ON expr | CROSS JOIN tab }
unfoldable pub more_from : ℕ → Syntax (List TableRef)
more_from depth = either (repeat next_tabs next_tabs) (repeat (gives []) (next_joins depth))

-- from := tab { ',' tab } | tab { [INNER] JOIN tab ON expr | CROSS JOIN tab }
unfoldable pub from : ℕ → Syntax (List TableRef)
from depth = map (λ p. p.0 ∷ p.1) (tab ⨟ more_from depth)

abbrev pub entries : Option (List TableRef × Option Expr) → List TableRef
entries None = []
entries (Some p) = p.0

abbrev pub condition : Option (List TableRef × Option Expr) → Option Expr
condition None = None
condition (Some p) = p.1

-- [ FROM from [WHERE expr] ]
unfoldable pub source : ℕ → Syntax (Option (List TableRef × Option Expr))
source depth = option (reserved w.From ▹ (from depth ⨟ filter depth))

-- [ASC | DESC]; true for DESC
unfoldable pub direction : Syntax Bool
direction = either (for false (reserved w.Asc)) (either (for true (reserved w.Desc)) (gives false))

-- term := expr [ASC | DESC]
unfoldable pub term : ℕ → Syntax OrderTerm
term depth = map (λ p. record { expr = p.0; descending = p.1 }) (expression depth ⨟ direction)

-- [ORDER BY term { ',' term }]
unfoldable pub order : ℕ → Syntax (List OrderTerm)
order depth = either (reserved w.Order ▹ word w.By ▹ listed (term depth)) (gives [])

-- [LIMIT number], [OFFSET number]
unfoldable pub limit : Word → Syntax (Option ℤ)
limit v = option (reserved v ▹ integer)

-- select := SELECT item { ',' item } [ FROM from [WHERE expr] ] [ORDER BY term { ',' term }] [LIMIT number] [OFFSET number]
unfoldable pub select : ℕ → Syntax Statement
select depth =
    map (λ p. tree.Select (record { items = p.0; from = entries p.1.0; filter = condition p.1.0; order = p.1.1.0; limit = p.1.1.1.0; offset = p.1.1.1.1 }))
    (reserved w.Select ▹ listed (item depth) ⨟ source depth ⨟ order depth ⨟ limit w.Limit ⨟ limit w.Offset)

-- ---- INSERT, UPDATE, DELETE

-- cell := expr | DEFAULT
unfoldable pub cell : ℕ → Syntax (Option Expr)
cell depth = either (for None (reserved w.Default)) (map Some (expression depth))

-- row := '(' cell { ',' cell } ')'
unfoldable pub row : ℕ → Syntax (List (Option Expr))
row depth = braced (listed (cell depth))

-- [ '(' name { ',' name } ')' ]
unfoldable pub columns : Syntax (List (List ℕ))
columns = either (braced (listed name)) (gives [])

-- insert := INSERT INTO name [ '(' name { ',' name } ')' ] VALUES row { ',' row }, with so many rows at most
unfoldable pub insert : ℕ → ℕ → Syntax Statement
insert depth rows =
    map (λ p. tree.Insert (record { table = p.0; columns = p.1.0; rows = p.1.1 }))
    (word w.Insert ▹ reserved w.Into ▹ name ⨟ columns ⨟ word w.Values ▹ only (λ xs. nat_le (length xs) rows) (listed (row depth)))

-- asg := name '=' cell
unfoldable pub assignment : ℕ → Syntax (List ℕ × Option Expr)
assignment depth = name ⨟ sign s.Eq ▹ cell depth

-- update := UPDATE name SET asg { ',' asg } [WHERE expr]
unfoldable pub update : ℕ → Syntax Statement
update depth = map (λ p. tree.Update (record { table = p.0; set = p.1.0; filter = p.1.1 })) (word w.Update ▹ name ⨟ word w.Set ▹ listed (assignment depth) ⨟ filter depth)

-- delete := DELETE FROM name [WHERE expr]
unfoldable pub delete : ℕ → Syntax Statement
delete depth = map (λ p. tree.Delete (record { table = p.0; filter = p.1 })) (word w.Delete ▹ reserved w.From ▹ name ⨟ filter depth)

-- ---- transactions and settings

-- [WORK | TRANSACTION]
unfoldable pub work : Syntax (Unit {0})
work = optional (either (word w.Work) (word w.Transaction))

-- SERIALIZABLE | REPEATABLE READ | READ COMMITTED | READ UNCOMMITTED
unfoldable pub level : Syntax (Unit {0})
level = either (word w.Serializable) (either (word w.Repeatable ▹ word w.Read) (word w.Read ▹ either (word w.Committed) (word w.Uncommitted)))

-- mode := ISOLATION LEVEL level | READ WRITE | READ ONLY | [NOT] DEFERRABLE
unfoldable pub mode : Syntax (Unit {0})
mode = either (word w.Isolation ▹ word w.Level ▹ level) (either (word w.Read ▹ either (word w.Write) (word w.Only)) (optional (key k.Not) ▹ word w.Deferrable))

-- [','] mode, which gives no item
unfoldable pub next_mode : Syntax (List Bool)
next_mode = for [] (optional (sign s.Comma) ▹ mode)

-- modes := mode { [','] mode }
unfoldable pub modes : Syntax (List Bool)
modes = repeat (for [] mode) next_mode

-- BEGIN [WORK | TRANSACTION] | START TRANSACTION; true for START TRANSACTION
unfoldable pub beginning : Syntax Bool
beginning = either (for false (word w.Begin ▹ work)) (for true (word w.Start ▹ word w.Transaction))

-- begin := ( BEGIN [WORK | TRANSACTION] | START TRANSACTION ) [modes]
unfoldable pub begin : Syntax Statement
begin = map (λ start. tree.Begin start) (beginning ◃ optional modes)

-- commit := ( COMMIT | END ) [WORK | TRANSACTION]
unfoldable pub commit : Syntax Statement
commit = for tree.Commit (either (word w.Commit) (reserved w.End) ▹ work)

-- rollback := ( ROLLBACK | ABORT ) [WORK | TRANSACTION]
unfoldable pub rollback : Syntax Statement
rollback = for tree.Rollback (either (word w.Rollback) (word w.Abort) ▹ work)

-- names joined by a point
abbrev pub join_names : List ℕ → Option (List ℕ) → List ℕ
join_names first None = first
join_names first (Some second) = first ++ codes "." ++ second

-- [ '.' name ]
unfoldable pub suffix : Syntax (Option (List ℕ))
suffix = option (sign s.Dot ▹ name)

-- dotted := name [ '.' name ], where the first is none of these words
unfoldable pub dotted : List Word → Syntax (List ℕ)
dotted but = map (λ p. join_names p.0 p.1) (name_but but ⨟ suffix)

-- TRUE | FALSE | ON | DEFAULT
unfoldable pub value_word : Syntax (List ℕ)
value_word = either (for (codes "true") (key k.True)) (either (for (codes "false") (key k.False)) (either (for (codes "on") (reserved w.On)) (for (codes "default") (reserved w.Default))))

-- sval := string | [ '-' ] number | name | TRUE | FALSE | ON | DEFAULT, and its text
unfoldable pub setting_value : Syntax (List ℕ)
setting_value = either text (either (map (λ n. codes "-" ++ signed_decimal n) (sign s.Minus ▹ integer)) (either (map (λ n. signed_decimal n) integer) (either name value_word)))

-- ( TO | '=' ) sval { ',' sval }
unfoldable pub setting_values : Syntax (List (List ℕ))
setting_values = either (reserved w.To) (sign s.Eq) ▹ listed setting_value

-- dotted ( TO | '=' ) sval { ',' sval }, where the first name is none of these words
unfoldable pub assigned : List Word → Syntax Statement
assigned but = map (λ p. tree.Set p.0 p.1) (dotted but ⨟ setting_values)

-- TRANSACTION modes
unfoldable pub transaction_modes : Syntax Statement
transaction_modes = for tree.SetModes (word w.Transaction ▹ modes)

-- after SET SESSION: CHARACTERISTICS AS TRANSACTION modes, or a setting whose first name is characteristics
unfoldable pub characteristics : Syntax Statement
characteristics =
    word w.Characteristics ▹ either (reserved w.As ▹ transaction_modes) (map (λ p. tree.Set (join_names (codes "characteristics") p.0) p.1) (suffix ⨟ setting_values))

-- after SET SESSION, where the word CHARACTERISTICS is looked at first
unfoldable pub session_setting : Syntax Statement
session_setting = either characteristics (assigned (w.Characteristics ∷ []))

-- set := SET TRANSACTION modes | SET SESSION CHARACTERISTICS AS TRANSACTION modes | SET [SESSION | LOCAL] dotted ( TO | '=' ) sval { ',' sval }
-- Directly after SET the words TRANSACTION, SESSION and LOCAL are no names.
unfoldable pub set : Syntax Statement
set =
    word w.Set ▹ either transaction_modes
    (either (word w.Session ▹ session_setting)
    (either (word w.Local ▹ assigned []) (assigned (w.Transaction ∷ w.Session ∷ w.Local ∷ []))))

-- show := SHOW dotted
unfoldable pub show : Syntax Statement
show = map (λ setting. tree.Show setting) (word w.Show ▹ dotted [])

-- ---- CREATE TABLE

-- TRUE | FALSE | NULL
unfoldable pub constant_word : Syntax Expr
constant_word = either (for (e.Flag true) (key k.True)) (either (for (e.Flag false) (key k.False)) (for e.Null (key k.Null)))

-- const := [ '-' ] number | string | TRUE | FALSE | NULL
unfoldable pub constant : Syntax Expr
constant = either (map (λ n. e.Neg (e.Int n)) (sign s.Minus ▹ integer)) (either (map (λ n. e.Int n) integer) (either (map (λ t. e.Str t) text) constant_word))

-- CHECK '(' expr ')'
unfoldable pub check : ℕ → Syntax Expr
check depth = reserved w.Check ▹ braced (expression depth)

-- [CONSTRAINT name]
unfoldable pub label : Syntax (Unit {0})
label = optional (reserved w.Constraint ▹ name)

-- PRIMARY KEY | NOT NULL | NULL | DEFAULT const | CHECK '(' expr ')'
unfoldable pub constraint_body : ℕ → Syntax Constraint
constraint_body depth =
    either (for c.Primary (reserved w.Primary ▹ word w.Key)) (either (for c.NotNull (key k.Not ▹ key k.Null)) (either (for c.Null (key k.Null))
    (either (map (λ x. c.Default x) (reserved w.Default ▹ constant)) (map (λ x. c.Check x) (check depth)))))

-- con := [CONSTRAINT name] ( PRIMARY KEY | NOT NULL | NULL | DEFAULT const | CHECK '(' expr ')' )
unfoldable pub next_constraint : ℕ → Syntax (List Constraint)
next_constraint depth = single (label ▹ constraint_body depth)

-- { con }
unfoldable pub constraints : ℕ → Syntax (List Constraint)
constraints depth = repeat (gives []) (next_constraint depth)

-- a length outside 1 to 65,536 stands as one that no table may have
abbrev pub varchar : Option ℤ → SqlType
varchar None = t.Varchar 0
varchar (Some (pos n)) = if nat_le 1 n && nat_le n 65536 then t.Varchar n else t.Varchar 4294967295
varchar (Some (negsuc n)) = t.Varchar 4294967295

-- [ '(' number ')' ]
unfoldable pub size : Syntax (Option ℤ)
size = option (braced integer)

-- ( VARCHAR | CHARACTER VARYING ) [ '(' number ')' ]
unfoldable pub sized : Syntax SqlType
sized = map varchar (either (word w.Varchar) (word w.Character ▹ word w.Varying) ▹ size)

-- type := BOOLEAN | BOOL | INTEGER | INT | INT4 | BIGINT | INT8 | TEXT | ( VARCHAR | CHARACTER VARYING ) [ '(' number ')' ]
unfoldable pub type_name : Syntax SqlType
type_name =
    either (for t.Boolean (word w.Boolean)) (either (for t.Boolean (word w.Bool))
    (either (for t.Integer (word w.Integer)) (either (for t.Integer (word w.Int)) (either (for t.Integer (word w.Int4))
    (either (for t.Bigint (word w.Bigint)) (either (for t.Bigint (word w.Int8)) (either (for t.Text (word w.Text)) sized)))))))

-- name type { con }
unfoldable pub column : ℕ → Syntax Element
column depth = map (λ p. element_of.Column p.0 p.1.0 p.1.1) (name ⨟ type_name ⨟ constraints depth)

-- PRIMARY KEY '(' name { ',' name } ')'
unfoldable pub key_list : Syntax (List (List ℕ))
key_list = reserved w.Primary ▹ word w.Key ▹ braced (listed name)

-- [CONSTRAINT name] ( PRIMARY KEY '(' name { ',' name } ')' | CHECK '(' expr ')' )
unfoldable pub table_constraint : ℕ → Syntax Element
table_constraint depth = label ▹ either (map (λ names. element_of.Primary names) key_list) (map (λ x. element_of.Check x) (check depth))

-- elem := name type { con } | [CONSTRAINT name] ( PRIMARY KEY '(' name { ',' name } ')' | CHECK '(' expr ')' )
unfoldable pub element : ℕ → Syntax Element
element depth = either (column depth) (table_constraint depth)

-- whether the last of NULL and NOT NULL is NOT NULL
abbrev pub not_null : Bool → List Constraint → Bool
not_null before [] = before
not_null before (c.NotNull ∷ cs) = not_null true cs
not_null before (c.Null ∷ cs) = not_null false cs
not_null before (_ ∷ cs) = not_null before cs

-- the last DEFAULT
abbrev pub default : Option Expr → List Constraint → Option Expr
default before [] = before
default before (c.Default x ∷ cs) = default (Some x) cs
default before (_ ∷ cs) = default before cs

-- whether PRIMARY KEY is among them
abbrev pub is_primary : List Constraint → Bool
is_primary [] = false
is_primary (c.Primary ∷ cs) = true
is_primary (_ ∷ cs) = is_primary cs

abbrev pub column_of : List ℕ → SqlType → List Constraint → ColumnDef
column_of named kind cs = record { name = named; kind = kind; not_null = not_null false cs; default = default None cs; key = is_primary cs }

abbrev pub checks_of : List Constraint → List Expr
checks_of [] = []
checks_of (c.Check x ∷ cs) = x ∷ checks_of cs
checks_of (_ ∷ cs) = checks_of cs

abbrev pub all_columns : List Element → List ColumnDef
all_columns [] = []
all_columns (element_of.Column named kind cs ∷ es) = column_of named kind cs ∷ all_columns es
all_columns (_ ∷ es) = all_columns es

abbrev pub all_keys : List Element → List (List ℕ)
all_keys [] = []
all_keys (element_of.Primary names ∷ es) = names ++ all_keys es
all_keys (_ ∷ es) = all_keys es

abbrev pub checks_in : Element → List Expr
checks_in (element_of.Column named kind cs) = checks_of cs
checks_in (element_of.Primary names) = []
checks_in (element_of.Check x) = x ∷ []

-- the CHECKs of columns and of the table, in text order
abbrev pub all_checks : List Element → List Expr
all_checks [] = []
all_checks (x ∷ es) = checks_in x ++ all_checks es

abbrev pub table_of : List ℕ → List Element → CreateTable
table_of named es = record { name = named; columns = all_columns es; keys = all_keys es; checks = all_checks es }

-- create := CREATE TABLE name '(' elem { ',' elem } ')'
unfoldable pub create : ℕ → Syntax Statement
create depth = map (λ p. tree.Create (table_of p.0 p.1)) (reserved w.Create ▹ reserved w.Table ▹ name ⨟ braced (listed (element depth)))

-- ---- messages

-- begin | commit | rollback | set | show
unfoldable pub control : Syntax Statement
control = either begin (either commit (either rollback (either set show)))

-- stmt := select | insert | update | delete | create | begin | commit | rollback | set | show
unfoldable pub statement : ℕ → ℕ → Syntax Statement
statement depth rows = either (select depth) (either (insert depth rows) (either (update depth) (either (delete depth) (either (create depth) control))))

-- [stmt]
unfoldable pub piece : ℕ → ℕ → Syntax (Option Statement)
piece depth rows = option (statement depth rows)

abbrev pub as_list : Option Statement → List Statement
as_list None = []
as_list (Some x) = x ∷ []

unfoldable pub next_piece : ℕ → ℕ → Syntax (List Statement)
next_piece depth rows = sign s.Semi ▹ map as_list (piece depth rows)

-- message := [stmt] { ';' [stmt] }, with so many statements at most
unfoldable pub message : ℕ → ℕ → ℕ → Syntax (List Statement)
message depth rows statements = only (λ xs. nat_le (length xs) statements) (repeat (map as_list (piece depth rows)) (next_piece depth rows))
