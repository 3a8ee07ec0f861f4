-- Loops over columns and what goes to them: where one of both lists ends, nothing is left.
use Rattle.std.proofs.Common.{◌≡◌, ℕ, zero, suc, min, Bool, true, List, [], ◌∷◌, ◌++◌, length, drop, Ok, refl, ap, sym, ◌∙◌, arith}
use Rattle.std.proofs.lemmas.List.{append-nil}
use Rattle.cell_base.specs.declared.value.Value.{Value}
use Rattle.sql_tree.specs.declared.table.Column.{Column}
use Rattle.sql_tree.specs.declared.typed_expr.TypedExpr.{TypedExpr}
use Rattle.typing_rules.specs.Outcome.{Outcome, and_then}
use Rattle.row_meaning.specs.Insertion.{row_of}
use Rattle.row_meaning.specs.Storing.{has_no_missing}

row_end : (n : ℕ) (cs : List Column) (es : List TypedExpr) → n ≡ min (length cs) (length es) → row_of (drop n cs) (drop n es) ≡ Ok []
row_end zero [] es e = refl
row_end (suc n) [] es e = refl
row_end zero (c ∷ cs) [] e = refl
row_end (suc n) (c ∷ cs) [] e = absurd (omega arith)
row_end zero (c ∷ cs) (x ∷ es) e = absurd (omega arith)
row_end (suc n) (c ∷ cs) (x ∷ es) e = row_end n cs es (omega arith)

pub row_whole : (n : ℕ) (cs : List Column) (es : List TypedExpr) (row : List Value) (o : Outcome (List Value)) → n ≡ min (length cs) (length es)
    → and_then (row_of (drop n cs) (drop n es)) (λ rest. Ok (row ++ rest)) ≡ o → o ≡ Ok row
row_whole n cs es row o e is = sym is ∙ ap (λ o. and_then o (λ rest. Ok (row ++ rest))) (row_end n cs es e) ∙ ap Ok (append-nil row)

missing_end : (n : ℕ) (cs : List Column) (vs : List Value) → n ≡ min (length cs) (length vs) → has_no_missing (drop n cs) (drop n vs) ≡ true
missing_end zero [] vs e = refl
missing_end (suc n) [] vs e = refl
missing_end zero (c ∷ cs) [] e = refl
missing_end (suc n) (c ∷ cs) [] e = absurd (omega arith)
missing_end zero (c ∷ cs) (v ∷ vs) e = absurd (omega arith)
missing_end (suc n) (c ∷ cs) (v ∷ vs) e = missing_end n cs vs (omega arith)

pub none_missing : (n : ℕ) (cs : List Column) (vs : List Value) (b : Bool) → n ≡ min (length cs) (length vs) → has_no_missing (drop n cs) (drop n vs) ≡ b → true ≡ b
none_missing n cs vs b e is = sym (missing_end n cs vs e) ∙ is
