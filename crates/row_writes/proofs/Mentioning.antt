-- The columns that an IN mentions.
use Rattle.std.proofs.Common.{◌≡◌, ℕ, Bool, ◌||◌, List, [], ◌∷◌, map, refl, ap, sym, ◌∙◌}
use Rattle.std.specs.List.{list_any}
use Rattle.sql_tree.specs.declared.typed_expr.TypedExpr.{TypedExpr}
use Rattle.sql_tree.specs.declared.typed_expr.TypedNode.{TypedNode}
use Rattle.sql_tree.specs.declared.typed_expr.TypedNode.TheVariants.{In, rolls-In}
use Rattle.sql_tree.specs.declared.typed_expr.TypedNode.TheOpen.{TypedNode-F, TypedExpr-F}
use Rattle.sql_tree.specs.declared.typed_expr.TypedNode.TheFolds.{fold-TypedNode, fold-roll-TypedNode, fold_out-TypedExpr}
use Rattle.typing_rules.specs.Mentions.{mentions, node_mentions}

abbrev pub node_mention : ℕ → ℕ → TypedNode → Bool
node_mention e c = fold-TypedNode Bool Bool (node_mentions e c) (λ (x : TypedExpr-F Bool Bool). x.node)

any_mapped : (p : TypedExpr → Bool) (xs : List TypedExpr) → list_any (λ m. m) (map p xs) ≡ list_any p xs
any_mapped p [] = refl
any_mapped p (x ∷ xs) = ap (λ m. p x || m) (any_mapped p xs)

of_in : (e c : ℕ) (a : TypedExpr) (members : List TypedExpr) (negated : Bool)
    → node_mention e c (In a members negated) ≡ (mentions e c a || list_any (mentions e c) members)
of_in e c a members negated =
    ap (node_mention e c) (sym (rolls-In a members negated))
    ∙ fold-roll-TypedNode Bool Bool (node_mentions e c) (λ (x : TypedExpr-F Bool Bool). x.node) (TypedNode-F.In a members negated)
    ∙ ap (λ m. mentions e c a || m) (any_mapped (mentions e c) members)

pub mentions-in : (e c : ℕ) (x a : TypedExpr) (members : List TypedExpr) (negated : Bool) → x.node ≡ In a members negated
    → mentions e c x ≡ (mentions e c a || list_any (mentions e c) members)
mentions-in e c x a members negated is =
    fold_out-TypedExpr Bool Bool (node_mentions e c) (λ (x : TypedExpr-F Bool Bool). x.node) x ∙ ap (node_mention e c) is
    ∙ of_in e c a members negated
