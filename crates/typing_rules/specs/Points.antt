-- The key of a point read: of a table that is read at one key, and not scanned.
use Rattle.std.specs.Prelude.{ℕ, Bool, false, ◌&&◌, ◌==◌, if◌then◌else◌, Option, Some, None, neg_ℤ}
use Rattle.cell_base.specs.declared.key.Key.{Key}
use Rattle.cell_base.specs.declared.key.Key.TheVariants as key
use Rattle.cell_base.specs.declared.sql_type.SqlType.TheVariants as type
use Rattle.cell_base.specs.declared.value.Value.{Value}
use Rattle.cell_base.specs.declared.value.Value.TheVariants as value
use Rattle.sql_tree.specs.declared.op.Op.TheVariants as op
use Rattle.sql_tree.specs.declared.typed_expr.TypedExpr.{TypedExpr}
use Rattle.sql_tree.specs.declared.typed_expr.TypedNode.TheOpen.{TypedNode-F, TypedExpr-F}
use Rattle.sql_tree.specs.declared.typed_expr.TypedNode.TheFolds.{fold-TypedExpr}
use Rattle.typing_rules.specs.Kinds.{fits}

-- what an expression is to the search for a point: the key column, a literal, a constant, and the key that its first conjunct of the form asks
pub record Reading : Type 0 where
  pub is_key : Bool
  pub literal : Option Key
  pub constant : Option Key
  pub point : Option Key

abbrev pub nothing : Reading
nothing = record { is_key = false; literal = None; constant = None; point = None }

abbrev pub literal_key : Value → Option Key
literal_key (value.Int n) = Some (key.Int n)
literal_key (value.Text text) = Some (key.Text text)
literal_key _ = None

abbrev pub negative_key : Option Key → Option Key
negative_key (Some (key.Int n)) = if fits type.Bigint (neg_ℤ n) then Some (key.Int (neg_ℤ n)) else None
negative_key _ = None

abbrev pub either : Option Key → Option Key → Option Key
either (Some k) other = Some k
either None other = other

abbrev pub asked : Reading → Reading → Option Key
asked a b = if a.is_key then b.constant else (if b.is_key then a.constant else None)

abbrev pub reading_node : ℕ → ℕ → TypedNode-F Reading Reading → Reading
reading_node e c (TypedNode-F.Constant v) = record nothing { literal = literal_key v; constant = literal_key v }
reading_node e c (TypedNode-F.Column entry column) = record nothing { is_key = entry == e && column == c }
reading_node e c (TypedNode-F.Neg a) = record nothing { constant = negative_key a.literal }
reading_node e c (TypedNode-F.Binary op.And a b) = record nothing { point = either a.point b.point }
reading_node e c (TypedNode-F.Binary op.Eq a b) = record nothing { point = asked a b }
reading_node e c _ = nothing

-- the key that the first top-level conjunct `key = constant` or `constant = key` asks, for column c of entry e
abbrev pub point_of : ℕ → ℕ → Option TypedExpr → Option Key
point_of e c None = None
point_of e c (Some f) = (fold-TypedExpr Reading Reading (reading_node e c) (λ (x : TypedExpr-F Reading Reading). x.node) f).point
