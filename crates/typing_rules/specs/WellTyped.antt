-- Which expressions with types are well typed: one rule for each row of the table of types.
-- (PostgreSQL's documentation, chapters "Functions and Operators" and "Value Expressions".)
use Rattle.std.specs.Prelude.{◌≡◌, ℕ, Bool, true, false, ◌||◌, List, [], ◌∷◌, Option, Some, None, slice_get, option_and_then}
use Rattle.std.specs.List.{list_any}
use Rattle.cell_base.specs.declared.sql_type.SqlType.{SqlType}
use Rattle.cell_base.specs.declared.sql_type.SqlType.TheVariants as kind
use Rattle.cell_base.specs.declared.value.Value.{Value}
use Rattle.sql_tree.specs.declared.op.Op.{Op}
use Rattle.sql_tree.specs.declared.op.Op.TheVariants as op
use Rattle.sql_tree.specs.declared.op.Aggregate.{Aggregate}
use Rattle.sql_tree.specs.declared.op.Aggregate.TheVariants as aggregate
use Rattle.sql_tree.specs.declared.typed_expr.TypedExpr.{TypedExpr}
use Rattle.sql_tree.specs.declared.typed_expr.TypedNode.TheVariants as node
use Rattle.sql_tree.specs.declared.typed_expr.TypedNode.TheOpen.{TypedNode-F, TypedExpr-F}
use Rattle.sql_tree.specs.declared.typed_expr.TypedNode.TheFolds.{fold-TypedExpr}
use Rattle.typing_rules.specs.Kinds.{is_boolean, is_number, is_numeric, are_comparable, wider, is_null_or_of}

-- the types of the columns of each entry of FROM
abbrev pub ColumnTypes : Type 0
ColumnTypes = List (List SqlType)

-- the type of a column of an entry, both numbered from 0, where there is one
abbrev pub column_type : ColumnTypes → ℕ → ℕ → Option SqlType
column_type types entry column = option_and_then (λ columns. slice_get columns column) (slice_get types entry)

-- `+ - * / %`
abbrev pub is_arithmetic : Op → Bool
is_arithmetic op.Add = true
is_arithmetic op.Sub = true
is_arithmetic op.Mul = true
is_arithmetic op.Div = true
is_arithmetic op.Rem = true
is_arithmetic _ = false

-- `= <> < <= > >=`
abbrev pub is_comparison : Op → Bool
is_comparison op.Eq = true
is_comparison op.Ne = true
is_comparison op.Lt = true
is_comparison op.Le = true
is_comparison op.Gt = true
is_comparison op.Ge = true
is_comparison _ = false

-- AND, OR
abbrev pub is_connective : Op → Bool
is_connective op.And = true
is_connective op.Or = true
is_connective _ = false

-- the type of an aggregate of an operand of this type, where it takes one
abbrev pub aggregate_type : Aggregate → SqlType → Option SqlType
aggregate_type aggregate.Count kind.Numeric = None
aggregate_type aggregate.Count operand = Some kind.Bigint
aggregate_type aggregate.Sum kind.Integer = Some kind.Bigint
aggregate_type aggregate.Sum kind.Bigint = Some kind.Numeric
aggregate_type aggregate.Sum _ = None
aggregate_type _ kind.Integer = Some kind.Integer
aggregate_type _ kind.Bigint = Some kind.Bigint
aggregate_type _ kind.Text = Some kind.Text
aggregate_type _ (kind.Varchar limit) = Some kind.Text
aggregate_type _ _ = None

-- whether an aggregate stands in an expression: one level, with the answers of its operands in their places
abbrev pub node_has_aggregate : TypedNode-F Bool Bool → Bool
node_has_aggregate (TypedNode-F.Constant v) = false
node_has_aggregate (TypedNode-F.Column entry column) = false
node_has_aggregate (TypedNode-F.Aggregate function operand) = true
node_has_aggregate (TypedNode-F.Neg a) = a
node_has_aggregate (TypedNode-F.Not a) = a
node_has_aggregate (TypedNode-F.IsNull a negated) = a
node_has_aggregate (TypedNode-F.Binary op a b) = a || b
node_has_aggregate (TypedNode-F.In a members negated) = a || list_any (λ m. m) members

abbrev pub expr_has_aggregate : TypedExpr-F Bool Bool → Bool
expr_has_aggregate e = e.node

abbrev pub has_aggregate : TypedExpr → Bool
has_aggregate = fold-TypedExpr Bool Bool node_has_aggregate expr_has_aggregate

abbrev pub HasNoAggregate : TypedExpr → Type 0
HasNoAggregate e = has_aggregate e ≡ false

mutual
  -- over columns of these types the expression is well typed
  pub data IsWellTyped (types : ColumnTypes) : TypedExpr → Type 0 where
    -- a constant is null or of its type, which isn't numeric
    constant : (k : SqlType) (v : Value) → is_numeric k ≡ false → is_null_or_of k v ≡ true → IsWellTyped types (record { kind = k; node = node.Constant v })
    -- a column is there, and of its type
    column : (k : SqlType) (entry column : ℕ) → column_type types entry column ≡ Some k → IsWellTyped types (record { kind = k; node = node.Column entry column })
    -- count(*)
    count_rows : IsWellTyped types (record { kind = kind.Bigint; node = node.Aggregate aggregate.Count None })
    -- another aggregate, with none inside
    aggregate_of : (k : SqlType) (function : Aggregate) (a : TypedExpr) → IsWellTyped types a → HasNoAggregate a → aggregate_type function a.kind ≡ Some k
        → IsWellTyped types (record { kind = k; node = node.Aggregate function (Some a) })
    -- a sign
    negated : (a : TypedExpr) → IsWellTyped types a → is_number a.kind ≡ true → IsWellTyped types (record { kind = a.kind; node = node.Neg a })
    -- NOT
    denied : (a : TypedExpr) → IsWellTyped types a → is_boolean a.kind ≡ true → IsWellTyped types (record { kind = kind.Boolean; node = node.Not a })
    -- IS NULL, IS NOT NULL
    tested : (a : TypedExpr) (negated : Bool) → IsWellTyped types a → is_numeric a.kind ≡ false → IsWellTyped types (record { kind = kind.Boolean; node = node.IsNull a negated })
    -- `+ - * / %`
    computed : (o : Op) (a b : TypedExpr) → is_arithmetic o ≡ true → IsWellTyped types a → IsWellTyped types b → is_number a.kind ≡ true → is_number b.kind ≡ true
        → IsWellTyped types (record { kind = wider a.kind b.kind; node = node.Binary o a b })
    -- `= <> < <= > >=`
    compared : (o : Op) (a b : TypedExpr) → is_comparison o ≡ true → IsWellTyped types a → IsWellTyped types b → are_comparable a.kind b.kind ≡ true
        → IsWellTyped types (record { kind = kind.Boolean; node = node.Binary o a b })
    -- AND, OR
    connected : (o : Op) (a b : TypedExpr) → is_connective o ≡ true → IsWellTyped types a → IsWellTyped types b → is_boolean a.kind ≡ true → is_boolean b.kind ≡ true
        → IsWellTyped types (record { kind = kind.Boolean; node = node.Binary o a b })
    -- IN, NOT IN
    among : (a m : TypedExpr) (members : List TypedExpr) (negated : Bool) → IsWellTyped types a → AreMembers types a.kind (m ∷ members)
        → IsWellTyped types (record { kind = kind.Boolean; node = node.In a (m ∷ members) negated })

  -- the members of an IN whose left operand has this type
  pub data AreMembers (types : ColumnTypes) : SqlType → List TypedExpr → Type 0 where
    none : (k : SqlType) → AreMembers types k []
    more : (k : SqlType) (m : TypedExpr) (members : List TypedExpr) → IsWellTyped types m → are_comparable k m.kind ≡ true → AreMembers types k members
        → AreMembers types k (m ∷ members)
