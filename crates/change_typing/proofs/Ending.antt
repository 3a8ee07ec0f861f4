-- Loops over columns and the expressions that go to them: where one of both lists ends, nothing is left.
use Rattle.std.proofs.Common.{◌≡◌, ℕ, zero, suc, min, List, [], ◌∷◌, ◌++◌, length, drop, Option, Ok, refl, ap, sym, ◌∙◌, arith}
use Rattle.std.proofs.lemmas.List.{append-nil}
use Rattle.sql_tree.specs.declared.expr.Expr.{Expr}
use Rattle.sql_tree.specs.declared.typed_expr.TypedExpr.{TypedExpr}
use Rattle.typing_rules.specs.Outcome.{Outcome, and_then}
use Rattle.typing_rules.specs.Names.{Source}
use Rattle.typing_rules.specs.Insert.{cells}
use Rattle.typing_rules.specs.Changes.{set_values}
use Rattle.typing_parts.specs.declared.tables.ColumnAt.{ColumnAt}
use Rattle.change_typing.specs.Targets.{targets}
use Rattle.change_typing.specs.Rows.{put}
use Rattle.change_typing.proofs.Filling.{put_none}

cells_end : (n : ℕ) (cs : List ColumnAt) (row : List (Option Expr)) → n ≡ min (length cs) (length row)
    → cells (targets (drop n cs)) (drop n row) ≡ Ok []
cells_end zero [] row e = refl
cells_end (suc n) [] row e = refl
cells_end zero (c ∷ cs) [] e = refl
cells_end (suc n) (c ∷ cs) [] e = absurd (omega arith)
cells_end zero (c ∷ cs) (x ∷ row) e = absurd (omega arith)
cells_end (suc n) (c ∷ cs) (x ∷ row) e = cells_end n cs row (omega arith)

set_end : (sources : List Source) (n : ℕ) (cs : List ColumnAt) (set : List (List ℕ × Option Expr)) → n ≡ min (length cs) (length set)
    → set_values sources (targets (drop n cs)) (drop n set) ≡ Ok []
set_end sources zero [] set e = refl
set_end sources (suc n) [] set e = refl
set_end sources zero (c ∷ cs) [] e = refl
set_end sources (suc n) (c ∷ cs) [] e = absurd (omega arith)
set_end sources zero (c ∷ cs) (x ∷ set) e = absurd (omega arith)
set_end sources (suc n) (c ∷ cs) (x ∷ set) e = set_end sources n cs set (omega arith)

-- all slots are filled
pub slots_end : (n : ℕ) (cs : List ColumnAt) (row : List (Option Expr)) (slots : List (Option TypedExpr)) (o : Outcome (List (Option TypedExpr)))
    → n ≡ min (length cs) (length row)
    → and_then (cells (targets (drop n cs)) (drop n row)) (λ es. Ok (put slots (targets (drop n cs)) es)) ≡ o → o ≡ Ok slots
slots_end n cs row slots o e is =
    sym is ∙ ap (λ o. and_then o (λ es. Ok (put slots (targets (drop n cs)) es))) (cells_end n cs row e)
    ∙ ap Ok (put_none slots (targets (drop n cs)))

-- all assignments are typed
pub values_end : (sources : List Source) (n : ℕ) (cs : List ColumnAt) (set : List (List ℕ × Option Expr)) (values : List (ℕ × TypedExpr))
    (o : Outcome (List (ℕ × TypedExpr)))
    → n ≡ min (length cs) (length set) → and_then (set_values sources (targets (drop n cs)) (drop n set)) (λ rest. Ok (values ++ rest)) ≡ o
    → o ≡ Ok values
values_end sources n cs set values o e is =
    sym is ∙ ap (λ o. and_then o (λ rest. Ok (values ++ rest))) (set_end sources n cs set e) ∙ ap Ok (append-nil values)
