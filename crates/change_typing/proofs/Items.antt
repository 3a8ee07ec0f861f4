-- Loops item by item: one item more, and an item that fails.
use Rattle.std.proofs.Common.{◌≡◌, ℕ, ◌+◌, ◌<◌, List, [], ◌∷◌, ◌++◌, length, drop, get_or, Option, Ok, Err, refl, ap, sym, ◌∙◌, append_assoc}
use Rattle.std.proofs.lemmas.List.{append-nil}
use Rattle.cell_base.specs.declared.sql_fault.SqlFault.{SqlFault}
use Rattle.cell_base.specs.declared.sql_fault.SqlFault.TheVariants.{State, Memory}
use Rattle.sql_tree.specs.declared.table.Column.{Column}
use Rattle.sql_tree.specs.declared.typed_expr.TypedExpr.{TypedExpr}
use Rattle.typing_rules.specs.Gives.{Gives}
use Rattle.typing_rules.specs.Outcome.{Outcome}
use Rattle.typing_rules.proofs.Lists.{with_rest, cut_at, index_more, index_fault}
use Rattle.change_typing.specs.Rows.{value_or, filled}

pub item_more : {A B : Type 0} (f : A → Outcome B) (all : List A) (i : ℕ) (x : A) (y : B) (done after : List B) (o : Outcome (List B))
    → i < length all → x ≡ get_or all i x → f x ≡ Ok y → after ≡ done ++ y ∷ [] → with_rest f done (drop i all) ≡ o
    → with_rest f after (drop (i + 1) all) ≡ o
item_more f all i x y done after o within is e longer so_far =
    ap (λ ys. with_rest f ys (drop (i + 1) all)) longer ∙ index_more f all i x y done o within is e so_far

pub item_failed : {A B : Type 0} (f : A → Outcome B) (all : List A) (i : ℕ) (x : A) (done : List B) (why : SqlFault) (o : Outcome (List B))
    → i < length all → x ≡ get_or all i x → Gives {A = B} (f x) (Err why) → with_rest f done (drop i all) ≡ o → Gives {A = List B} o (Err why)
item_failed f all i x done (State code) o within is e so_far = index_fault f all i x code done o within is e so_far
item_failed f all i x done Memory o within is e so_far = tt

-- what stands in a slot more, or the default
pub filled_more : (columns : List Column) (n m : ℕ) (c : Column) (slot : Option TypedExpr) (left rest : List (Option TypedExpr)) (value : TypedExpr)
    (done after o : List TypedExpr) → n < length columns → c ≡ get_or columns n c → left ≡ slot ∷ rest → value ≡ value_or c slot
    → after ≡ done ++ value ∷ [] → m ≡ n + 1 → done ++ filled left (drop n columns) ≡ o → after ++ filled rest (drop m columns) ≡ o
filled_more columns n m c slot left rest value done after o within is cut value_is longer next so_far =
    ap (λ k. after ++ filled rest (drop k columns)) next
    ∙ ap (λ l. l ++ filled rest (drop (n + 1) columns)) (longer ∙ ap (λ v. done ++ v ∷ []) value_is)
    ∙ append_assoc done (value_or c slot ∷ []) (filled rest (drop (n + 1) columns))
    ∙ ap (λ cs. done ++ filled (slot ∷ rest) cs) (sym (cut_at columns n c within is))
    ∙ ap (λ ss. done ++ filled ss (drop n columns)) (sym cut) ∙ so_far

filled_none : (columns : List Column) → filled [] columns ≡ []
filled_none [] = refl
filled_none (c ∷ cs) = refl

-- where no slot is left
pub filled_all : (columns : List Column) (left : List (Option TypedExpr)) (done o : List TypedExpr) → left ≡ [] → done ++ filled left columns ≡ o → done ≡ o
filled_all columns left done o none so_far =
    sym (append-nil done) ∙ ap (λ l. done ++ l) (sym (ap (λ ss. filled ss columns) none ∙ filled_none columns)) ∙ so_far
