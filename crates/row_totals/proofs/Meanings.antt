-- What an expression means in one row is its value there.
use Rattle.std.proofs.Common.{◌≡◌, List, [], ◌∷◌, map, Some, None, refl, sym, ap, ◌∙◌, subst}
use Rattle.cell_base.specs.declared.sql_type.SqlType.{SqlType}
use Rattle.cell_base.specs.declared.value.Value.{Value}
use Rattle.sql_tree.specs.declared.typed_expr.TypedExpr.{TypedExpr}
use Rattle.sql_tree.specs.declared.typed_expr.TypedNode.{TypedNode, map-TypedNode}
use Rattle.sql_tree.specs.declared.typed_expr.TypedNode.TheOpen.{TypedNode-F}
use Rattle.sql_tree.specs.declared.typed_expr.TypedNode.TheFolds.{fold-TypedNode, fold-roll-TypedNode, fold-roll-TypedExpr, ind-TypedExpr}
use Rattle.typing_rules.specs.Outcome.{Outcome}
use Rattle.expr_eval.specs.Values.{Row, value_of, node_value, expr_value}
use Rattle.expr_eval.proofs.Nodes.{node_of}
use Rattle.row_meaning.specs.Groups.{Meaning, meaning, node_in_row, node_meaning, expr_meaning}

-- the meaning of a node alone
abbrev pub meaning_of : TypedNode → SqlType → Meaning
meaning_of = fold-TypedNode (SqlType → Meaning) Meaning node_meaning expr_meaning

pub map_twice : {A B C : Type 0} (g : A → B) (h : B → C) (xs : List A) → map h (map g xs) ≡ map (λ x. h (g x)) xs
map_twice g h [] = refl
map_twice g h (x ∷ xs) = ap (λ ys. h (g x) ∷ ys) (map_twice g h xs)

pub layer_twice : {C D A B E F : Type 0} (g : C → A) (g' : D → B) (h : A → E) (h' : B → F) (y : TypedNode-F C D)
    → map-TypedNode C D E F (λ c. h (g c)) (λ d. h' (g' d)) y ≡ map-TypedNode A B E F h h' (map-TypedNode C D A B g g' y)
layer_twice g g' h h' (TypedNode-F.Constant v) = refl
layer_twice g g' h h' (TypedNode-F.Column entry column) = refl
layer_twice g g' h h' (TypedNode-F.Aggregate function None) = refl
layer_twice g g' h h' (TypedNode-F.Aggregate function (Some a)) = refl
layer_twice g g' h h' (TypedNode-F.Neg a) = refl
layer_twice g g' h h' (TypedNode-F.Not a) = refl
layer_twice g g' h h' (TypedNode-F.IsNull a denies) = refl
layer_twice g g' h h' (TypedNode-F.Binary op a b) = refl
layer_twice g g' h h' (TypedNode-F.In a members denies) = ap (λ ms. TypedNode-F.In (h' (g' a)) ms denies) (sym (map_twice g' h' members))

members_in_row : {D : Type 0} (h : D → Meaning) (h' : D → Row → Outcome Value) → ((d : D) → (h d).in_row ≡ h' d) → (ds : List D) → map (λ m. m.in_row) (map h ds) ≡ map h' ds
members_in_row h h' good [] = refl
members_in_row h h' good (d ∷ ds) = λ i. good d i ∷ members_in_row h h' good ds i

layer_in_row : {C D : Type 0} (g : C → SqlType → Meaning) (h : D → Meaning) (g' : C → SqlType → Row → Outcome Value) (h' : D → Row → Outcome Value) → ((d : D) → (h d).in_row ≡ h' d) → (y : TypedNode-F C D)
    → node_in_row (map-TypedNode C D (SqlType → Meaning) Meaning g h y) ≡ map-TypedNode C D (SqlType → Row → Outcome Value) (Row → Outcome Value) g' h' y
layer_in_row g h g' h' good (TypedNode-F.Constant v) = refl
layer_in_row g h g' h' good (TypedNode-F.Column entry column) = refl
layer_in_row g h g' h' good (TypedNode-F.Aggregate function None) = refl
layer_in_row g h g' h' good (TypedNode-F.Aggregate function (Some a)) = ap (λ m. TypedNode-F.Aggregate function (Some m)) (good a)
layer_in_row g h g' h' good (TypedNode-F.Neg a) = ap TypedNode-F.Neg (good a)
layer_in_row g h g' h' good (TypedNode-F.Not a) = ap TypedNode-F.Not (good a)
layer_in_row g h g' h' good (TypedNode-F.IsNull a denies) = ap (λ m. TypedNode-F.IsNull m denies) (good a)
layer_in_row g h g' h' good (TypedNode-F.Binary op a b) = λ i. TypedNode-F.Binary op (good a i) (good b i)
layer_in_row g h g' h' good (TypedNode-F.In a members denies) = λ i. TypedNode-F.In (good a i) (members_in_row h h' good members i) denies

abbrev NodeMeans : TypedNode → Type 0
NodeMeans n = (kind : SqlType) → (meaning_of n kind).in_row ≡ node_of n kind

abbrev ExprMeans : TypedExpr → Type 0
ExprMeans e = (meaning e).in_row ≡ value_of e

pub in_row_is : (e : TypedExpr) → (meaning e).in_row ≡ value_of e
in_row_is = ind-TypedExpr NodeMeans ExprMeans
    (λ x y is kind.
    let layer = layer_in_row (λ c. meaning_of c.0) (λ d. meaning d.0) (λ c. node_of c.0) (λ d. value_of d.0) (λ d. d.1) y in
    let there = layer_twice (λ c. c.0) (λ d. d.0) meaning_of meaning y ∙ ap (map-TypedNode TypedNode TypedExpr (SqlType → Meaning) Meaning meaning_of meaning) is in
    let here = layer_twice (λ c. c.0) (λ d. d.0) node_of value_of y ∙ ap (map-TypedNode TypedNode TypedExpr (SqlType → Row → Outcome Value) (Row → Outcome Value) node_of value_of) is in
    ap (λ (f : SqlType → Meaning). (f kind).in_row) (fold-roll-TypedNode (SqlType → Meaning) Meaning node_meaning expr_meaning x)
    ∙ ap (λ n. node_value (node_in_row n) kind) (sym there) ∙ ap (λ n. node_value n kind) layer ∙ ap (λ n. node_value n kind) here
    ∙ sym (ap (λ (f : SqlType → Row → Outcome Value). f kind) (fold-roll-TypedNode (SqlType → Row → Outcome Value) (Row → Outcome Value) node_value expr_value x)))
    (λ x y is.
    let node = subst (λ z. (meaning_of z.node z.kind).in_row ≡ node_of z.node z.kind) is (y.node.1 y.kind) in
    ap (λ (m : Meaning). m.in_row) (fold-roll-TypedExpr (SqlType → Meaning) Meaning node_meaning expr_meaning x) ∙ node
    ∙ sym (fold-roll-TypedExpr (SqlType → Row → Outcome Value) (Row → Outcome Value) node_value expr_value x))
