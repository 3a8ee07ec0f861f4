-- The columns that an expression mentions.
use Rattle.std.specs.Prelude.{ℕ, zero, suc, ◌+◌, Bool, false, not, ◌&&◌, ◌||◌, ◌==◌, if◌then◌else◌, List, [], ◌∷◌, length, Option, Some, None}
use Rattle.std.specs.List.{list_any}
use Rattle.sql_tree.specs.declared.table.Table.{Table}
use Rattle.sql_tree.specs.declared.typed_expr.TypedExpr.{TypedExpr}
use Rattle.sql_tree.specs.declared.typed_expr.TypedNode.TheOpen.{TypedNode-F, TypedExpr-F}
use Rattle.sql_tree.specs.declared.typed_expr.TypedNode.TheFolds.{fold-TypedExpr}

abbrev pub node_mentions : ℕ → ℕ → TypedNode-F Bool Bool → Bool
node_mentions e c (TypedNode-F.Constant v) = false
node_mentions e c (TypedNode-F.Column entry column) = entry == e && column == c
node_mentions e c (TypedNode-F.Aggregate f None) = false
node_mentions e c (TypedNode-F.Aggregate f (Some a)) = a
node_mentions e c (TypedNode-F.Neg a) = a
node_mentions e c (TypedNode-F.Not a) = a
node_mentions e c (TypedNode-F.IsNull a negated) = a
node_mentions e c (TypedNode-F.Binary o a b) = a || b
node_mentions e c (TypedNode-F.In a members negated) = a || list_any (λ m. m) members

-- whether column c of entry e stands in an expression
abbrev pub mentions : ℕ → ℕ → TypedExpr → Bool
mentions e c = fold-TypedExpr Bool Bool (node_mentions e c) (λ (x : TypedExpr-F Bool Bool). x.node)

abbrev pub numbers_from : ℕ → ℕ → List ℕ
numbers_from i zero = []
numbers_from i (suc n) = i ∷ numbers_from (i + 1) n

abbrev pub kept : (ℕ → Bool) → List ℕ → List ℕ
kept p [] = []
kept p (n ∷ ns) = if p n then n ∷ kept p ns else kept p ns

-- the columns of a table, but for its key, that pass a test, ascending
abbrev pub columns_where : Table → (ℕ → Bool) → List ℕ
columns_where t p = kept (λ c. not (c == t.key) && p c) (numbers_from 0 (length t.columns))

-- whether column c of entry e stands in a condition, where there is one
abbrev pub in_filter : ℕ → ℕ → Option TypedExpr → Bool
in_filter e c None = false
in_filter e c (Some f) = mentions e c f
