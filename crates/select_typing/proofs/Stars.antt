-- The columns that `*` stands for, entry by entry.
use Rattle.std.proofs.Common.{◌≡◌, ℕ, suc, ◌+◌, ◌-◌, ◌^◌, ◌<◌, ◌≤◌, min, List, [], ◌∷◌, ◌++◌, length, drop, get_or, refl, ap, sym, ◌∙◌, append_assoc, length-append, arith}
use Rattle.sql_tree.specs.declared.table.Column.{Column}
use Rattle.expr_typing.specs.declared.entry.Entry.{Entry}
use Rattle.expr_typing.specs.Scope.{sources}
use Rattle.select_typing.specs.declared.output.Output.{Output}
use Rattle.select_typing.specs.Outputs.{output, outputs}
use Rattle.sql_tree.specs.declared.typed_expr.TypedNode.TheVariants as node
use Rattle.typing_rules.specs.Expressions.{typed_node}
use Rattle.select_typing.proofs.Outputs.{outputs_more}
use Rattle.typing_rules.specs.Names.{Source}
use Rattle.typing_rules.specs.Select.{column_outputs, star_outputs}
use Rattle.typing_rules.proofs.Lists.{cut_at}

many_columns : (e c : ℕ) (xs : List Column) → length (column_outputs e c xs) ≡ length xs
many_columns e c [] = refl
many_columns e c (x ∷ xs) = ap suc (many_columns e (c + 1) xs)

-- how many there are, whatever the number of the first entry
abbrev pub star_width : List Source → ℕ
star_width [] = 0
star_width (s ∷ ss) = length s.columns + star_width ss

pub many_stars : (e : ℕ) (ss : List Source) → length (star_outputs e ss) ≡ star_width ss
many_stars e [] = refl
many_stars e (s ∷ ss) = length-append (column_outputs e 0 s.columns) (star_outputs (e + 1) ss)
    ∙ ap (λ n. n + length (star_outputs (e + 1) ss)) (many_columns e 0 s.columns) ∙ ap (λ n. length s.columns + n) (many_stars (e + 1) ss)

capped_step : (w n m top a : ℕ) → a ≡ min (w + n) top → min (a + m) top ≡ min (w + (n + m)) top
capped_step w n m top a e = omega arith

-- one entry more
pub width_more : (all : List Entry) (i : ℕ) (x : Entry) (w a top : ℕ) → i < length all → x ≡ get_or all i x
    → a ≡ min (w + length x.table.now.columns) top
    → min (a + star_width (sources (drop (i + 1) all))) top ≡ min (w + star_width (sources (drop i all))) top
width_more all i x w a top within is e =
    capped_step w (length x.table.now.columns) (star_width (sources (drop (i + 1) all))) top a e
    ∙ ap (λ es. min (w + star_width (sources es)) top) (sym (cut_at all i x within is))

pub columns_more : (all : List Column) (i : ℕ) (x : Column) (e : ℕ) (before : List Output) (o : Output) → i < length all → x ≡ get_or all i x
    → output o ≡ record { name = x.name; expr = typed_node x.kind (node.Column e i) }
    → outputs (before ++ o ∷ []) ++ column_outputs e (i + 1) (drop (i + 1) all) ≡ outputs before ++ column_outputs e i (drop i all)
columns_more all i x e before o within is named =
    outputs_more before o (column_outputs e (i + 1) (drop (i + 1) all))
    ∙ ap (λ c. outputs before ++ c ∷ column_outputs e (i + 1) (drop (i + 1) all)) named
    ∙ ap (λ cs. outputs before ++ column_outputs e i cs) (sym (cut_at all i x within is))

pub stars_more : (all : List Entry) (i : ℕ) (x : Entry) (before after : List Output) → i < length all → x ≡ get_or all i x
    → outputs after ≡ outputs before ++ column_outputs i 0 x.table.now.columns
    → outputs after ++ star_outputs (i + 1) (sources (drop (i + 1) all)) ≡ outputs before ++ star_outputs i (sources (drop i all))
stars_more all i x before after within is e =
    ap (λ cs. cs ++ star_outputs (i + 1) (sources (drop (i + 1) all))) e
    ∙ append_assoc (outputs before) (column_outputs i 0 x.table.now.columns) (star_outputs (i + 1) (sources (drop (i + 1) all)))
    ∙ ap (λ es. outputs before ++ star_outputs i (sources es)) (sym (cut_at all i x within is))

-- so many columns so far, where so many are left of them all
pub record IsCounted (width left all : ℕ) : Type 0 where
  pub counted : min (width + left) (2 ^ 64 - 1) ≡ min all (2 ^ 64 - 1)
  pub fits : width ≤ 2 ^ 64 - 1
