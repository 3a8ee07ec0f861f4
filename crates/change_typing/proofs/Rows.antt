-- A row's values go to the columns of the written list, or to as many of all columns as it has values.
use Rattle.std.proofs.Common.{◌≡◌, ℕ, zero, suc, ◌<◌, ◌≤◌, cond, ◌==◌, List, [], ◌∷◌, length, map, take, Option, Ok, Err, refl, ap, ◌∙◌, arith}
use Rattle.std.specs.Prelude.{Result}
use Rattle.cell_base.specs.declared.sql_fault.SqlFault.{SqlFault}
use Rattle.typing_rules.specs.Gives.{Gives}
use Rattle.sql_tree.specs.declared.expr.Expr.{Expr}
use Rattle.sql_tree.specs.declared.table.Column.{Column}
use Rattle.sql_tree.specs.declared.table.Table.{Table}
use Rattle.sql_tree.specs.declared.typed_expr.TypedExpr.{TypedExpr}
use Rattle.typing_rules.specs.Outcome.{Outcome, and_then, all_of}
use Rattle.typing_rules.specs.Given.{cell}
use Rattle.typing_rules.specs.Tables.{Target, all_targets}
use Rattle.typing_rules.specs.Insert.{cells, value_at, typed_row}
use Rattle.typing_parts.specs.declared.tables.ColumnAt.{ColumnAt}
use Rattle.typing_parts.specs.Numbered.{target}
use Rattle.change_typing.specs.Rows.{row_over}
use Rattle.change_typing.specs.Targets.{targets}

cells_cut : (ts : List Target) (row : List (Option Expr)) → cells (take (length row) ts) row ≡ cells ts row
cells_cut [] [] = refl
cells_cut [] (x ∷ row) = refl
cells_cut (t ∷ ts) [] = refl
cells_cut (t ∷ ts) (x ∷ row) = ap (λ more. and_then (cell [] t.column x) (λ y. and_then more (λ ys. Ok (y ∷ ys)))) (cells_cut ts row)

value_cut : (c : Target) (ts : List Target) (n : ℕ) (es : List TypedExpr) → length es ≤ n → value_at c (take n ts) es ≡ value_at c ts es
value_cut c [] zero es h = refl
value_cut c [] (suc n) es h = refl
value_cut c (t ∷ ts) zero [] h = refl
value_cut c (t ∷ ts) zero (e ∷ es) h = absurd (omega arith)
value_cut c (t ∷ ts) (suc n) [] h = refl
value_cut c (t ∷ ts) (suc n) (e ∷ es) h = ap (λ rest. cond (c.number == t.number) e rest) (value_cut c ts n es (omega arith))

values_cut : (cs ts : List Target) (n : ℕ) (es : List TypedExpr) → length es ≤ n
    → map (λ c. value_at c (take n ts) es) cs ≡ map (λ c. value_at c ts es) cs
values_cut [] ts n es h = refl
values_cut (c ∷ cs) ts n es h = ap (λ v. v ∷ map (λ c. value_at c (take n ts) es) cs) (value_cut c ts n es h)
    ∙ ap (λ vs. value_at c ts es ∷ vs) (values_cut cs ts n es h)

one_more : (n : ℕ) (x : Outcome TypedExpr) (more : Outcome (List TypedExpr)) (es : List TypedExpr)
    → ((ys : List TypedExpr) → more ≡ Ok ys → length ys ≤ n)
    → and_then x (λ y. and_then more (λ ys. Ok (y ∷ ys))) ≡ Ok es → length es ≤ suc n
one_more n (Err code) more es h e = cc
one_more n (Ok y) (Err code) es h e = cc
one_more n (Ok y) (Ok ys) es h e = let is : y ∷ ys ≡ es = cc in let few : length ys ≤ n = h ys refl in omega (arith, ap length is)

no_more : (ts : List Target) (row : List (Option Expr)) (es : List TypedExpr) → cells ts row ≡ Ok es → length es ≤ length row
no_more [] row es e = let none : [] ≡ es = cc in omega (arith, ap length none)
no_more (t ∷ ts) [] es e = let none : [] ≡ es = cc in omega (arith, ap length none)
no_more (t ∷ ts) (x ∷ row) es e = one_more (length row) (cell [] t.column x) (cells ts row) es (λ ys h. no_more ts row ys h) e

for_each : (o : Outcome (List TypedExpr)) (f g : List TypedExpr → List TypedExpr) → ((es : List TypedExpr) → o ≡ Ok es → f es ≡ g es)
    → and_then o (λ es. Ok (f es)) ≡ and_then o (λ es. Ok (g es))
for_each (Err code) f g same = refl
for_each (Ok es) f g same = ap Ok (same es refl)

row_cut : (columns : List Column) (row : List (Option Expr))
    → row_over columns (take (length row) (all_targets columns)) row ≡ row_over columns (all_targets columns) row
row_cut columns row =
    ap (λ o. and_then o (λ es. Ok (map (λ c. value_at c (take (length row) (all_targets columns)) es) (all_targets columns))))
    (cells_cut (all_targets columns) row)
    ∙ for_each (cells (all_targets columns) row) (λ es. map (λ c. value_at c (take (length row) (all_targets columns)) es) (all_targets columns))
    (λ es. map (λ c. value_at c (all_targets columns) es) (all_targets columns))
    (λ es h. values_cut (all_targets columns) (all_targets columns) (length row) es (no_more (all_targets columns) row es h))

rows_cut : (t : Table) (rows : List (List (Option Expr))) → map (typed_row t []) rows ≡ map (row_over t.columns (all_targets t.columns)) rows
rows_cut t [] = refl
rows_cut t (row ∷ rows) =
    ap (λ o. o ∷ map (typed_row t []) rows) (row_cut t.columns row)
    ∙ ap (λ os. row_over t.columns (all_targets t.columns) row ∷ os) (rows_cut t rows)

rows_listed : (t : Table) (l : Target) (ls : List Target) (rows : List (List (Option Expr)))
    → map (typed_row t (l ∷ ls)) rows ≡ map (row_over t.columns (l ∷ ls)) rows
rows_listed t l ls [] = refl
rows_listed t l ls (row ∷ rows) = ap (λ os. row_over t.columns (l ∷ ls) row ∷ os) (rows_listed t l ls rows)

-- without a written list, rows are typed over all columns
pub all_given : (t : Table) (columns : List Column) (listed : List ColumnAt) (given : List Target) (rows : List (List (Option Expr)))
    (r : Result (List (List TypedExpr)) SqlFault) → length listed < 1 → columns ≡ t.columns → given ≡ all_targets columns
    → Gives (all_of (map (row_over columns given) rows)) r → Gives (all_of (map (typed_row t (targets listed)) rows)) r
all_given t columns [] given rows r none of_table same h = rw (rows_cut t rows, ← of_table, ← same) h
all_given t columns (c ∷ cs) given rows r none of_table same h = absurd (omega arith)

-- with one, over its columns
pub listed_given : (t : Table) (columns : List Column) (listed : List ColumnAt) (rows : List (List (Option Expr)))
    (r : Result (List (List TypedExpr)) SqlFault) → 1 ≤ length listed → columns ≡ t.columns
    → Gives (all_of (map (row_over columns (targets listed)) rows)) r → Gives (all_of (map (typed_row t (targets listed)) rows)) r
listed_given t columns [] rows r some of_table h = absurd (omega arith)
listed_given t columns (c ∷ cs) rows r some of_table h = rw (rows_listed t (target c) (targets cs) rows, ← of_table) h
