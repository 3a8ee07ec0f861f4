-- The typing lists each column at most once among those that a statement mentions.
use Rattle.std.proofs.Common.{◌≡◌, ℕ, zero, suc, ◌+◌, ◌≤◌, ◌==◌, Bool, List, [], ◌∷◌, ◌++◌, map, length, Option, Ok, subst, not, ◌&&◌, arith}
use Rattle.std.specs.List.{list_any, AllByRecursion, Contains}
use Rattle.std.proofs.lemmas.Bool.{cond_both}
use Rattle.std.proofs.lemmas.List.Elements.{All-contains, All-from_recursion}
use Rattle.sql_tree.specs.declared.statement.Delete.{Delete as DeleteTree}
use Rattle.sql_tree.specs.declared.statement.Select.{Select as SelectTree}
use Rattle.sql_tree.specs.declared.statement.Statement.{Statement}
use Rattle.sql_tree.specs.declared.statement.Statement.TheVariants as tree
use Rattle.sql_tree.specs.declared.statement.Update.{Update as UpdateTree}
use Rattle.sql_tree.specs.declared.table.Table.{Table}
use Rattle.sql_tree.specs.declared.typed.Typed.{Typed}
use Rattle.sql_tree.specs.declared.typed.Typed.TheVariants.{Select, Insert, Change}
use Rattle.sql_tree.specs.declared.typed.TypedChange.{TypedChange}
use Rattle.sql_tree.specs.declared.typed.TypedInsert.{TypedInsert}
use Rattle.sql_tree.specs.declared.typed.TypedSelect.{TypedSelect}
use Rattle.sql_tree.specs.declared.typed_expr.TypedExpr.{TypedExpr}
use Rattle.typing_rules.specs.Changes.{own_source, filter_of, assigned_from, set_values, update_reads, typed_update, typed_delete}
use Rattle.typing_rules.specs.Insert.{typed_insert}
use Rattle.typing_rules.specs.Mentions.{numbers_from, kept, columns_where, in_filter}
use Rattle.typing_rules.specs.Select as typing
use Rattle.typing_rules.specs.Sound.{Holds}
use Rattle.typing_rules.specs.Tables.{Numbered, Target, table_named}
use Rattle.typing_rules.specs.Typed.{typed}
use Rattle.typing_rules.proofs.Numbers.{then_holds}
use Rattle.statement_laws.proofs.Inserting.{anything}

-- no number stands twice
abbrev pub IsOnce : List ℕ → Type 0
IsOnce [] = Unit {0}
IsOnce (n ∷ ns) = (Contains ns n → ⊥) × IsOnce ns

-- ---- columns in order of declaration

-- each of those that are kept is at least the first number
kept_from : (p : ℕ → Bool) (least i n : ℕ) → least ≤ i → AllByRecursion (λ m. least ≤ m) (kept p (numbers_from i n))
kept_from p least i zero h = tt
kept_from p least i (suc n) h =
    let more = kept_from p least (i + 1) n (omega (arith, h)) in
    cond_both (p i) (i ∷ kept p (numbers_from (i + 1) n)) (kept p (numbers_from (i + 1) n)) (AllByRecursion (λ m. least ≤ m)) (λ _. (h, more)) (λ _. more)

not_later : (p : ℕ → Bool) (i n : ℕ) → Contains (kept p (numbers_from (i + 1) n)) i → ⊥
not_later p i n there =
    let later = kept p (numbers_from (i + 1) n) in
    let above : i + 1 ≤ i = All-contains (λ m. i + 1 ≤ m) later i (All-from_recursion (λ m. i + 1 ≤ m) later (kept_from p (i + 1) (i + 1) n (omega arith))) there in
    omega (arith, above)

kept_once : (p : ℕ → Bool) (i n : ℕ) → IsOnce (kept p (numbers_from i n))
kept_once p i zero = tt
kept_once p i (suc n) =
    let more = kept_once p (i + 1) n in
    cond_both (p i) (i ∷ kept p (numbers_from (i + 1) n)) (kept p (numbers_from (i + 1) n)) IsOnce (λ _. (not_later p i n, more)) (λ _. more)

columns_once : (table : Table) (p : ℕ → Bool) → IsOnce (columns_where table p)
columns_once table p = kept_once (λ c. not (c == table.key) && p c) 0 (length table.columns)

entries_once : (all : List typing.Entry) (exprs : List TypedExpr) (entries : List typing.Entry)
    → AllByRecursion IsOnce (map (typing.mentioned_of all exprs) entries)
entries_once all exprs [] = tt
entries_once all exprs (t ∷ ts) =
    (columns_once t.found.table (λ c. list_any (typing.mentions_table t.found.number c 0 all) exprs), entries_once all exprs ts)

-- ---- statements

abbrev pub SelectOnce : TypedSelect → Type 0
SelectOnce t = AllByRecursion IsOnce t.mentioned

abbrev pub ChangeOnce : TypedChange → Type 0
ChangeOnce t = IsOnce t.mentioned

-- each column is listed once among those that are mentioned
abbrev pub MentionsOnce : Typed → Type 0
MentionsOnce (Select t) = SelectOnce t
MentionsOnce (Insert t) = Unit {0}
MentionsOnce (Change t) = ChangeOnce t

select_mentions : (tables : List Table) (s : SelectTree) → Holds SelectOnce (typing.typed_select tables s)
unfolding typing.typed_select
select_mentions tables s =
    then_holds (λ (entries : List typing.Entry). Unit {0}) SelectOnce (typing.entries_of tables s.from) _ (anything (typing.entries_of tables s.from)) (λ entries _.
    then_holds (λ (ons : List TypedExpr). Unit {0}) SelectOnce (typing.ons_of (typing.entry_sources entries) s.from) _ (anything (typing.ons_of (typing.entry_sources entries) s.from)) (λ ons _.
    then_holds (λ (filter : Option TypedExpr). Unit {0}) SelectOnce (filter_of (typing.entry_sources entries) s.filter) _ (anything (filter_of (typing.entry_sources entries) s.filter)) (λ filter _.
    then_holds (λ (outputs : List typing.Output). Unit {0}) SelectOnce (typing.items_from (typing.place_of (typing.has_aggregate s)) (typing.entry_sources entries) [] s.items) _
    (anything (typing.items_from (typing.place_of (typing.has_aggregate s)) (typing.entry_sources entries) [] s.items)) (λ outputs _.
    then_holds (λ (order : List (TypedExpr × Bool)). Unit {0}) SelectOnce (typing.order_of (typing.has_aggregate s) (typing.entry_sources entries) outputs s.order) _
    (anything (typing.order_of (typing.has_aggregate s) (typing.entry_sources entries) outputs s.order)) (λ order _.
    entries_once entries (ons ++ typing.option_list filter ++ map (λ (o : typing.Output). o.expr) outputs ++ map (λ (t : TypedExpr × Bool). t.0) order) entries)))))

update_mentions : (tables : List Table) (s : UpdateTree) → Holds ChangeOnce (typed_update tables s)
unfolding typed_update
update_mentions tables s =
    then_holds (λ (t : Numbered). Unit {0}) ChangeOnce (table_named tables s.table) _ (anything (table_named tables s.table)) (λ t _.
    then_holds (λ (targets : List Target). Unit {0}) ChangeOnce (assigned_from t.table [] s.set) _ (anything (assigned_from t.table [] s.set)) (λ targets _.
    then_holds (λ (set : List (ℕ × TypedExpr)). Unit {0}) ChangeOnce (set_values (own_source t.table) targets s.set) _ (anything (set_values (own_source t.table) targets s.set)) (λ set _.
    then_holds (λ (filter : Option TypedExpr). Unit {0}) ChangeOnce (filter_of (own_source t.table) s.filter) _ (anything (filter_of (own_source t.table) s.filter)) (λ filter _.
    columns_once t.table (update_reads t.table set filter)))))

delete_mentions : (tables : List Table) (s : DeleteTree) → Holds ChangeOnce (typed_delete tables s)
unfolding typed_delete
delete_mentions tables s =
    then_holds (λ (t : Numbered). Unit {0}) ChangeOnce (table_named tables s.table) _ (anything (table_named tables s.table)) (λ t _.
    then_holds (λ (filter : Option TypedExpr). Unit {0}) ChangeOnce (filter_of (own_source t.table) s.filter) _ (anything (filter_of (own_source t.table) s.filter)) (λ filter _.
    columns_once t.table (λ c. in_filter 0 c filter)))

statement_mentions : (tables : List Table) (statement : Statement) → Holds MentionsOnce (typed tables statement)
statement_mentions tables (tree.Select s) = then_holds SelectOnce MentionsOnce (typing.typed_select tables s) _ (select_mentions tables s) (λ t h. h)
statement_mentions tables (tree.Insert s) = then_holds (λ (t : TypedInsert). Unit {0}) MentionsOnce (typed_insert tables s) _ (anything (typed_insert tables s)) (λ t _. tt)
statement_mentions tables (tree.Update s) = then_holds ChangeOnce MentionsOnce (typed_update tables s) _ (update_mentions tables s) (λ t h. h)
statement_mentions tables (tree.Delete s) = then_holds ChangeOnce MentionsOnce (typed_delete tables s) _ (delete_mentions tables s) (λ t h. h)
statement_mentions tables _ = tt

pub mentions_once : (tables : List Table) (statement : Statement) (t : Typed) → typed tables statement ≡ Ok t → MentionsOnce t
mentions_once tables statement t is = subst (Holds MentionsOnce) is (statement_mentions tables statement)
