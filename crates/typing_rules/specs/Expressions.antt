-- The typed tree of an expression, or the code that comes first. Operands come from left to right, before their node.
-- (PostgreSQL's documentation, "Type Conversion" and "Aggregate Expressions".)
use Rattle.std.specs.Prelude.{ℕ, ◌^◌, Bool, false, ◌||◌, ◌&&◌, if◌then◌else◌, List, [], ◌∷◌, map, Option, Some, None, Ok, Err, ℤ}
use Rattle.cell_base.specs.declared.sql_state.SqlState.TheVariants.{S0A000, S42601, S42803, S42804, S42883}
use Rattle.cell_base.specs.declared.sql_type.SqlType.{SqlType}
use Rattle.cell_base.specs.declared.sql_type.SqlType.TheVariants as type
use Rattle.cell_base.specs.declared.value.Value.TheVariants as value
use Rattle.sql_tree.specs.declared.expr.Expr.{Expr, fold-Expr}
use Rattle.sql_tree.specs.declared.expr.Expr.TheOpen.{Expr-F}
use Rattle.sql_tree.specs.declared.op.Op.{Op}
use Rattle.sql_tree.specs.declared.op.Aggregate.{Aggregate}
use Rattle.sql_tree.specs.declared.op.Aggregate.TheVariants.{Count}
use Rattle.sql_tree.specs.declared.typed_expr.TypedExpr.{TypedExpr}
use Rattle.sql_tree.specs.declared.typed_expr.TypedNode.{TypedNode}
use Rattle.sql_tree.specs.declared.typed_expr.TypedNode.TheVariants as node
use Rattle.typing_rules.specs.declared.form.Form.{Form}
use Rattle.typing_rules.specs.declared.form.Form.TheVariants.{Typed, Quoted, Null}
use Rattle.typing_rules.specs.declared.place.Place.{Place}
use Rattle.typing_rules.specs.declared.place.Place.TheVariants.{Row, Group}
use Rattle.typing_rules.specs.Outcome.{Outcome, and_then, all_of}
use Rattle.typing_rules.specs.Kinds.{is_boolean, is_number, is_numeric, are_comparable, wider, is_within}
use Rattle.typing_rules.specs.WellTyped.{is_arithmetic, is_connective, aggregate_type}
use Rattle.typing_rules.specs.Operators.{aggregate_named}
use Rattle.typing_rules.specs.Literals.{quoted}
use Rattle.typing_rules.specs.Names.{Source, Found, resolved}

abbrev pub typed_node : SqlType → TypedNode → TypedExpr
typed_node kind n = record { kind = kind; node = n }

-- ---- literals

-- integer where the number fits one, else bigint
abbrev pub literal_kind : ℤ → SqlType
literal_kind n = if is_within (2 ^ 31) n then type.Integer else type.Bigint

abbrev pub null : SqlType → TypedExpr
null kind = typed_node kind (node.Constant value.Null)

-- ---- what is still without a type takes one

-- A numeric is allowed only as a whole item.
abbrev pub operand : TypedExpr → Outcome TypedExpr
operand e = if is_numeric e.kind then Err S0A000 else Ok e

-- an operand, where a quoted literal or NULL takes this type
abbrev pub settled : SqlType → Form → Outcome TypedExpr
settled kind (Typed e) = operand e
settled kind (Quoted text) = and_then (quoted kind text) (λ v. Ok (typed_node kind (node.Constant v)))
settled kind Null = operand (null kind)

-- the type that a form asks of one without a type beside it
abbrev pub kind_of : Form → Option SqlType
kind_of (Typed e) = Some e.kind
kind_of (Quoted text) = None
kind_of Null = None

abbrev pub kind_or : SqlType → Option SqlType → SqlType
kind_or other (Some kind) = kind
kind_or other None = other

-- the type of the left one, else that of the right one, else text
abbrev pub common_kind : Form → Form → SqlType
common_kind a b = kind_or (kind_or type.Text (kind_of b)) (kind_of a)

-- where a boolean is wanted
abbrev pub condition_of : TypedExpr → Outcome TypedExpr
condition_of e = if is_boolean e.kind then Ok e else (if is_numeric e.kind then Err S0A000 else Err S42804)

abbrev pub condition : Form → Outcome TypedExpr
condition (Typed e) = condition_of e
condition (Quoted text) = Err S0A000
condition Null = Ok (null type.Boolean)

-- as a whole item, which alone may be a numeric
abbrev pub item : Form → Outcome TypedExpr
item (Typed e) = Ok e
item (Quoted text) = settled type.Text (Quoted text)
item Null = settled type.Text Null

-- ---- operators

abbrev pub typed_form : SqlType → TypedNode → Outcome Form
typed_form kind n = Ok (Typed (typed_node kind n))

abbrev pub compared_to : Op → TypedExpr → TypedExpr → Outcome Form
compared_to op a b = if are_comparable a.kind b.kind then typed_form type.Boolean (node.Binary op a b) else Err S42883

unfoldable pub compared : Op → Form → Form → Outcome Form
compared op a b =
    and_then (settled (common_kind a b) a) (λ x. and_then (settled (common_kind a b) b) (λ y. compared_to op x y))

abbrev pub is_numeric_form : Form → Bool
is_numeric_form (Typed e) = is_numeric e.kind
is_numeric_form _ = false

abbrev pub calculated_with : Op → TypedExpr → TypedExpr → Outcome Form
calculated_with op a b =
    if is_number a.kind && is_number b.kind then typed_form (wider a.kind b.kind) (node.Binary op a b) else Err S42883

abbrev pub whole_operands : Op → SqlType → Form → Form → Outcome Form
whole_operands op kind a b = and_then (settled kind a) (λ x. and_then (settled kind b) (λ y. calculated_with op x y))

-- A literal takes the other operand's type only where that is integer or bigint.
unfoldable pub calculated : Op → Form → Form → Outcome Form
calculated op a b =
    if is_numeric_form a || is_numeric_form b then Err S0A000
    else (if is_number (common_kind a b) then whole_operands op (common_kind a b) a b else Err S42883)

unfoldable pub joined : Op → Form → Form → Outcome Form
joined op a b = and_then (condition a) (λ x. and_then (condition b) (λ y. typed_form type.Boolean (node.Binary op x y)))

unfoldable pub combined : Op → Form → Form → Outcome Form
combined op a b = if is_arithmetic op then calculated op a b else (if is_connective op then joined op a b else compared op a b)

abbrev pub negated_form : Form → Outcome Form
negated_form (Typed e) =
    if is_number e.kind then typed_form e.kind (node.Neg e) else (if is_numeric e.kind then Err S0A000 else Err S42883)
negated_form _ = Err S42883

abbrev pub inverted : Form → Outcome Form
inverted form = and_then (condition form) (λ e. typed_form type.Boolean (node.Not e))

abbrev pub null_test : Form → Bool → Outcome Form
null_test form negated = and_then (settled type.Text form) (λ e. typed_form type.Boolean (node.IsNull e negated))

-- ---- IN

-- the type of the first that has one, else text
abbrev pub first_kind : List Form → SqlType
first_kind [] = type.Text
first_kind (m ∷ ms) = kind_or (first_kind ms) (kind_of m)

abbrev pub member_of : SqlType → TypedExpr → Outcome TypedExpr
member_of kind e = if are_comparable kind e.kind then Ok e else Err S42883

unfoldable pub member : SqlType → Form → Outcome TypedExpr
member kind m = and_then (settled kind m) (λ e. member_of kind e)

abbrev pub among_members : Form → List Form → Bool → Outcome Form
among_members left members negated =
    and_then (settled (kind_or (first_kind members) (kind_of left)) left) (λ x.
    and_then (all_of (map (member x.kind) members)) (λ xs. typed_form type.Boolean (node.In x xs negated)))

-- No statement that is read has an IN without members; PostgreSQL's grammar refuses one.
abbrev pub among : Form → List Form → Bool → Outcome Form
among left [] negated = Err S42601
among left (m ∷ ms) negated = among_members left (m ∷ ms) negated

-- ---- functions

abbrev pub aggregate_of : Aggregate → TypedExpr → Option SqlType → Outcome Form
aggregate_of f e (Some kind) = typed_form kind (node.Aggregate f (Some e))
aggregate_of f e None = Err S42883

abbrev pub allowed : {A : Type 0} → Place → Outcome A → Outcome A
allowed Row given = Err S42803
allowed Group given = given

abbrev pub aggregate : Aggregate → Form → Outcome Form
aggregate f form = and_then (settled type.Text form) (λ e. aggregate_of f e (aggregate_type f e.kind))

-- a call in this place, of the aggregate that its name has
abbrev pub aggregated : Place → Option Aggregate → Form → Outcome Form
aggregated place None form = Err S0A000
aggregated place (Some f) form = allowed place (aggregate f form)

abbrev pub starred : Place → Option Aggregate → Outcome Form
starred place None = Err S0A000
starred place (Some Count) = allowed place (typed_form type.Bigint (node.Aggregate Count None))
starred place (Some _) = Err S42883

-- where the argument of a call stands: inside an aggregate it is of one row
abbrev pub inside : Option Aggregate → Place → Place
inside None place = place
inside (Some f) place = Row

-- ---- names

abbrev pub column_at : Place → Found → Outcome Form
column_at Row found = typed_form found.kind (node.Column found.entry found.column)
column_at Group found = Err S42803

-- ---- expressions

unfoldable pub column : List Source → Place → Option (List ℕ) → List ℕ → Outcome Form
column sources place qualifier name = and_then (resolved sources qualifier name) (λ found. column_at place found)

abbrev pub typing_step : List Source → Expr-F (Place → Outcome Form) → Place → Outcome Form
typing_step sources (Expr-F.Int n) place = typed_form (literal_kind n) (node.Constant (value.Int n))
typing_step sources (Expr-F.Str text) place = Ok (Quoted text)
typing_step sources (Expr-F.Flag b) place = typed_form type.Boolean (node.Constant (value.Flag b))
typing_step sources Expr-F.Null place = Ok Null
typing_step sources (Expr-F.Column qualifier name) place = column sources place qualifier name
typing_step sources (Expr-F.Call name None) place = starred place (aggregate_named name)
typing_step sources (Expr-F.Call name (Some a)) place =
    and_then (a (inside (aggregate_named name) place)) (λ x. aggregated place (aggregate_named name) x)
typing_step sources (Expr-F.Neg a) place = and_then (a place) negated_form
typing_step sources (Expr-F.Not a) place = and_then (a place) inverted
typing_step sources (Expr-F.IsNull a negated) place = and_then (a place) (λ x. null_test x negated)
typing_step sources (Expr-F.Binary op a b) place = and_then (a place) (λ x. and_then (b place) (λ y. combined op x y))
typing_step sources (Expr-F.In a members negated) place =
    and_then (a place) (λ x. and_then (all_of (map (λ m. m place) members)) (λ xs. among x xs negated))

-- the form of an expression that stands in this place
abbrev pub typing : List Source → Expr → Place → Outcome Form
typing sources = fold-Expr (Place → Outcome Form) (typing_step sources)

-- the forms of some expressions
abbrev pub typings : List Source → List Expr → Place → Outcome (List Form)
typings sources es place = all_of (map (λ e. typing sources e place) es)

-- a condition over the sources: WHERE, ON, CHECK
unfoldable pub flag : List Source → Expr → Outcome TypedExpr
flag sources e = and_then (typing sources e Row) condition
