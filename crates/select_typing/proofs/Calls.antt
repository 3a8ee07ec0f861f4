-- Whether an aggregate is called in an IN.
use Rattle.std.proofs.Common.{◌≡◌, Bool, ◌||◌, List, map, ap, ◌∙◌, rules, arith}
use Rattle.std.specs.List.{list_any}
use Rattle.sql_tree.specs.declared.expr.Expr.{Expr, the_lemmas}
use Rattle.sql_tree.specs.declared.expr.Expr.TheVariants.{In}
use Rattle.typing_rules.specs.Select.{calls_aggregate}
use Rattle.select_typing.proofs.Steps.{any_map}

pub calls_in : (left : Expr) (members : List Expr) (negated : Bool)
    → calls_aggregate (In left members negated) ≡ (calls_aggregate left || list_any calls_aggregate members)
calls_in left members negated =
    let opened : calls_aggregate (In left members negated) ≡ (calls_aggregate left || list_any (λ m. m) (map calls_aggregate members))
    = first_of (search (rules, the_lemmas), grind (arith, the_lemmas), search rules) in
    opened ∙ ap (λ ms. calls_aggregate left || ms) (any_map (λ m. m) calls_aggregate members)
