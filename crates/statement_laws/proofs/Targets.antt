-- The table of a statement that writes is there.
use Rattle.std.proofs.Common.{◌≡◌, ℕ, suc, ◌+◌, List, [], ◌∷◌, Option, Some, Ok, Err, refl, subst, arith}
use Rattle.std.specs.Prelude.{slice_get, map}
use Rattle.std.specs.Str.{bytes_eq}
use Rattle.std.proofs.lemmas.Bool.{cond_both}
use Rattle.sql_tree.specs.declared.statement.Delete.{Delete as DeleteTree}
use Rattle.sql_tree.specs.declared.statement.Insert.{Insert as InsertTree}
use Rattle.sql_tree.specs.declared.statement.Statement.{Statement}
use Rattle.sql_tree.specs.declared.statement.Statement.TheVariants as tree
use Rattle.sql_tree.specs.declared.statement.Update.{Update as UpdateTree}
use Rattle.sql_tree.specs.declared.table.Table.{Table}
use Rattle.sql_tree.specs.declared.typed.Typed.{Typed}
use Rattle.sql_tree.specs.declared.typed.Typed.TheVariants.{Select, Insert, Change}
use Rattle.sql_tree.specs.declared.typed.TypedChange.{TypedChange}
use Rattle.sql_tree.specs.declared.typed.TypedInsert.{TypedInsert}
use Rattle.sql_tree.specs.declared.typed.TypedSelect.{TypedSelect}
use Rattle.sql_tree.specs.declared.typed_expr.TypedExpr.{TypedExpr}
use Rattle.cell_base.specs.declared.sql_state.SqlState.TheVariants.{S42601}
use Rattle.typing_rules.specs.Changes.{own_source, filter_of, assigned_from, set_values, typed_update, typed_delete}
use Rattle.typing_rules.specs.Insert.{listed_from, has_lengths, typed_row, typed_insert}
use Rattle.typing_rules.specs.Outcome.{all_of}
use Rattle.typing_rules.specs.Select.{typed_select}
use Rattle.typing_rules.specs.Sound.{Holds}
use Rattle.typing_rules.specs.Tables.{Numbered, Target, table_from, table_named}
use Rattle.typing_rules.specs.Typed.{typed}
use Rattle.typing_rules.proofs.Numbers.{then_holds}
use Rattle.statement_laws.proofs.Inserting.{anything}

abbrev IsAt : List Table → Numbered → Type 0
IsAt tables t = slice_get tables t.number ≡ Some t.table

-- the tables from a number on
abbrev StandFrom : List Table → ℕ → List Table → Type 0
StandFrom tables i more = (k : ℕ) (t : Table) → slice_get more k ≡ Some t → slice_get tables (i + k) ≡ Some t

named_from : (tables : List Table) (name : List ℕ) (i : ℕ) (more : List Table) → StandFrom tables i more → Holds (IsAt tables) (table_from name i more)
named_from tables name i [] h = tt
named_from tables name i (t ∷ ts) h =
    let here : i + 0 ≡ i = omega arith in
    cond_both (bytes_eq t.name name) _ (table_from name (i + 1) ts) (Holds (IsAt tables))
    (λ _. subst (λ (n : ℕ). slice_get tables n ≡ Some t) here (h 0 t refl))
    (λ _. named_from tables name (i + 1) ts
    (λ k u is. let there : i + suc k ≡ i + 1 + k = omega arith in subst (λ (n : ℕ). slice_get tables n ≡ Some u) there (h (suc k) u is)))

named : (tables : List Table) (name : List ℕ) → Holds (IsAt tables) (table_named tables name)
named tables name = named_from tables name 0 tables (λ k t is. let here : k ≡ 0 + k = omega arith in subst (λ (n : ℕ). slice_get tables n ≡ Some t) here is)

-- ---- statements

abbrev pub HasTable : List Table → ℕ → Type 0
HasTable tables number = (table : Table) × (slice_get tables number ≡ Some table)

abbrev ChangeTable : List Table → TypedChange → Type 0
ChangeTable tables t = HasTable tables t.table

abbrev InsertTable : List Table → TypedInsert → Type 0
InsertTable tables t = HasTable tables t.table

abbrev HasTarget : List Table → Typed → Type 0
HasTarget tables (Select t) = Unit {0}
HasTarget tables (Insert t) = InsertTable tables t
HasTarget tables (Change t) = ChangeTable tables t

insert_target : (tables : List Table) (s : InsertTree) → Holds (InsertTable tables) (typed_insert tables s)
unfolding typed_insert
insert_target tables s =
    then_holds (IsAt tables) (InsertTable tables) (table_named tables s.table) _ (named tables s.table) (λ t at.
    then_holds (λ (l : List Target). Unit {0}) (InsertTable tables) (listed_from t.table.columns [] s.columns) _ (anything (listed_from t.table.columns [] s.columns)) (λ listed _.
    cond_both (has_lengths t.table listed s.rows) _ (Err S42601) (Holds (InsertTable tables))
    (λ _. then_holds (λ (rows : List (List TypedExpr)). Unit {0}) (InsertTable tables) (all_of (map (typed_row t.table listed) s.rows)) _
    (anything (all_of (map (typed_row t.table listed) s.rows))) (λ rows _. (t.table, at)))
    (λ _. tt)))

update_target : (tables : List Table) (s : UpdateTree) → Holds (ChangeTable tables) (typed_update tables s)
unfolding typed_update
update_target tables s =
    then_holds (IsAt tables) (ChangeTable tables) (table_named tables s.table) _ (named tables s.table) (λ t at.
    then_holds (λ (targets : List Target). Unit {0}) (ChangeTable tables) (assigned_from t.table [] s.set) _ (anything (assigned_from t.table [] s.set)) (λ targets _.
    then_holds (λ (set : List (ℕ × TypedExpr)). Unit {0}) (ChangeTable tables) (set_values (own_source t.table) targets s.set) _ (anything (set_values (own_source t.table) targets s.set)) (λ set _.
    then_holds (λ (filter : Option TypedExpr). Unit {0}) (ChangeTable tables) (filter_of (own_source t.table) s.filter) _ (anything (filter_of (own_source t.table) s.filter)) (λ filter _.
    (t.table, at)))))

delete_target : (tables : List Table) (s : DeleteTree) → Holds (ChangeTable tables) (typed_delete tables s)
unfolding typed_delete
delete_target tables s =
    then_holds (IsAt tables) (ChangeTable tables) (table_named tables s.table) _ (named tables s.table) (λ t at.
    then_holds (λ (filter : Option TypedExpr). Unit {0}) (ChangeTable tables) (filter_of (own_source t.table) s.filter) _ (anything (filter_of (own_source t.table) s.filter)) (λ filter _.
    (t.table, at)))

statement_target : (tables : List Table) (statement : Statement) → Holds (HasTarget tables) (typed tables statement)
statement_target tables (tree.Select s) = then_holds (λ (t : TypedSelect). Unit {0}) (HasTarget tables) (typed_select tables s) _ (anything (typed_select tables s)) (λ t _. tt)
statement_target tables (tree.Insert s) = then_holds (InsertTable tables) (HasTarget tables) (typed_insert tables s) _ (insert_target tables s) (λ t h. h)
statement_target tables (tree.Update s) = then_holds (ChangeTable tables) (HasTarget tables) (typed_update tables s) _ (update_target tables s) (λ t h. h)
statement_target tables (tree.Delete s) = then_holds (ChangeTable tables) (HasTarget tables) (typed_delete tables s) _ (delete_target tables s) (λ t h. h)
statement_target tables _ = tt

pub insert_has_table : (tables : List Table) (statement : Statement) (t : TypedInsert) → typed tables statement ≡ Ok (Insert t) → HasTable tables t.table
insert_has_table tables statement t is = subst (Holds (HasTarget tables)) is (statement_target tables statement)

pub change_has_table : (tables : List Table) (statement : Statement) (t : TypedChange) → typed tables statement ≡ Ok (Change t) → HasTable tables t.table
change_has_table tables statement t is = subst (Holds (HasTarget tables)) is (statement_target tables statement)
