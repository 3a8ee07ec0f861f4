use Rattle.std.proofs.Common.{◌≡◌, ◌++◌, map, drop, Ok}
use Rattle.typing_rules.specs.Outcome.{and_then}
use Rattle.row_totals.specs.Filling as filling
use Rattle.row_totals.proofs.filling.fill_all.Given as goal

abbrev pub invariant-loop-expr : goal.invariant-loop-expr
invariant-loop-expr l =
    and_then (filling.all_filled (drop l.expr-index l.exprs) (map Ok l.left)) (λ rest. Ok (l.values ++ rest)) ≡ filling.all_filled l.exprs (map Ok l.totals)
