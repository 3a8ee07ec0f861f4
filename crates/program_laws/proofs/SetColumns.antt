-- The columns that an UPDATE sets are fields of its table.
use Rattle.std.proofs.Common.{◌≡◌, ◌≢◌, ℕ, ◌+◌, ◌<◌, ◌==◌, List, [], ◌∷◌, ◌++◌, length, Option, Some, Ok, Err, subst, arith}
use Rattle.std.specs.Prelude.{slice_get}
use Rattle.std.specs.Str.{bytes_eq}
use Rattle.std.specs.List.{AllByRecursion}
use Rattle.std.proofs.lemmas.Bool.{cond_both, eqb-false}
use Rattle.cell_base.specs.declared.sql_state.SqlState.TheVariants.{S0A000, S42601}
use Rattle.sql_tree.specs.declared.expr.Expr.{Expr}
use Rattle.sql_tree.specs.declared.statement.Delete.{Delete as DeleteTree}
use Rattle.sql_tree.specs.declared.statement.Statement.{Statement}
use Rattle.sql_tree.specs.declared.statement.Statement.TheVariants as tree
use Rattle.sql_tree.specs.declared.statement.Update.{Update as UpdateTree}
use Rattle.sql_tree.specs.declared.table.Column.{Column}
use Rattle.sql_tree.specs.declared.table.Table.{Table}
use Rattle.sql_tree.specs.declared.typed.Typed.{Typed}
use Rattle.sql_tree.specs.declared.typed.Typed.TheVariants.{Select, Insert, Change}
use Rattle.sql_tree.specs.declared.typed.TypedChange.{TypedChange}
use Rattle.sql_tree.specs.declared.typed.TypedInsert.{TypedInsert}
use Rattle.sql_tree.specs.declared.typed.TypedSelect.{TypedSelect}
use Rattle.sql_tree.specs.declared.typed_expr.TypedExpr.{TypedExpr}
use Rattle.typing_rules.specs.Changes.{own_source, filter_of, assigned_from, set_values, typed_update, typed_delete}
use Rattle.typing_rules.specs.Given.{cell}
use Rattle.typing_rules.specs.Insert.{typed_insert}
use Rattle.typing_rules.specs.Names.{Source}
use Rattle.typing_rules.specs.Select as typing
use Rattle.typing_rules.specs.Sound.{Holds}
use Rattle.typing_rules.specs.Tables.{Target, table_named, target_from, target_named, is_among}
use Rattle.typing_rules.specs.Typed.{typed}
use Rattle.typing_rules.proofs.Numbers.{then_holds}
use Rattle.statement_laws.proofs.Inserting.{anything, both}
use Rattle.statement_laws.proofs.Fits.{IsNumbered, numbered}

-- ---- one column

-- the column is one of the table, and not its key's
abbrev pub IsSettable : Table → ℕ → Type 0
IsSettable table column = (column < length table.columns) × (column ≢ table.key)

target_within : (n : ℕ) (name : List ℕ) (i : ℕ) (columns : List Column) → i + length columns ≡ n → Holds (λ (c : Target). c.number < n) (target_from name i columns)
target_within n name i [] same = tt
target_within n name i (c ∷ cs) same =
    cond_both (bytes_eq c.name name) (Ok (record { number = i; column = c })) (target_from name (i + 1) cs) (Holds (λ (c : Target). c.number < n))
    (λ _. omega (arith, same)) (λ _. target_within n name (i + 1) cs (omega (arith, same)))

abbrev IsTarget : Table → Target → Type 0
IsTarget table target = IsSettable table target.number

targets_fit : (table : Table) (before : List Target) (set : List (List ℕ × Option Expr)) → AllByRecursion (IsTarget table) before →
    Holds (AllByRecursion (IsTarget table)) (assigned_from table before set)
targets_fit table before [] fit = fit
targets_fit table before (a ∷ more) fit =
    then_holds (λ (c : Target). c.number < length table.columns) (AllByRecursion (IsTarget table)) (target_named table.columns a.0) _
    (target_within (length table.columns) a.0 0 table.columns (omega arith)) (λ c within.
    cond_both (is_among c.number before) (Err S42601) _ (Holds (AllByRecursion (IsTarget table))) (λ _. tt)
    (λ _. cond_both (c.number == table.key) (Err S0A000) (assigned_from table (before ++ c ∷ []) more) (Holds (AllByRecursion (IsTarget table))) (λ _. tt)
    (λ apart. targets_fit table (before ++ c ∷ []) more (both (IsTarget table) before (c ∷ []) fit ((within, eqb-false c.number table.key apart), tt)))))

-- each column that is set can be
abbrev pub AreSettable : Table → List (ℕ × TypedExpr) → Type 0
AreSettable table set = AllByRecursion (λ (a : ℕ × TypedExpr). IsSettable table a.0) set

values_fit : (table : Table) (sources : List Source) (targets : List Target) (set : List (List ℕ × Option Expr)) → AllByRecursion (IsTarget table) targets →
    Holds (AreSettable table) (set_values sources targets set)
values_fit table sources [] more fit = tt
values_fit table sources (c ∷ cs) [] fit = tt
values_fit table sources (c ∷ cs) (a ∷ more) fit =
    then_holds (λ (x : TypedExpr). Unit {0}) (AreSettable table) (cell sources c.column a.1) _ (anything (cell sources c.column a.1)) (λ x _.
    then_holds (AreSettable table) (AreSettable table) (set_values sources cs more) (λ xs. Ok ((c.number, x) ∷ xs)) (values_fit table sources cs more fit.1)
    (λ xs h. (fit.0, h)))

-- ---- a statement

-- a typed change sets fields of its table
pub record SetsFields (tables : List Table) (change : TypedChange) : Type 0 where
  pub of_table : Table
  pub is : slice_get tables change.table ≡ Some of_table
  pub set : AreSettable of_table change.set

update_sets : (tables : List Table) (s : UpdateTree) → Holds (SetsFields tables) (typed_update tables s)
unfolding typed_update
update_sets tables s =
    then_holds (IsNumbered tables) (SetsFields tables) (table_named tables s.table) _ (numbered tables s.table) (λ t is.
    then_holds (AllByRecursion (IsTarget t.table)) (SetsFields tables) (assigned_from t.table [] s.set) _ (targets_fit t.table [] s.set tt) (λ targets fit.
    then_holds (AreSettable t.table) (SetsFields tables) (set_values (own_source t.table) targets s.set) _ (values_fit t.table (own_source t.table) targets s.set fit) (λ set sets.
    then_holds (λ (filter : Option TypedExpr). Unit {0}) (SetsFields tables) (filter_of (own_source t.table) s.filter) _ (anything (filter_of (own_source t.table) s.filter)) (λ filter _.
    record { of_table = t.table; is = is; set = sets }))))

delete_sets : (tables : List Table) (s : DeleteTree) → Holds (SetsFields tables) (typed_delete tables s)
unfolding typed_delete
delete_sets tables s =
    then_holds (IsNumbered tables) (SetsFields tables) (table_named tables s.table) _ (numbered tables s.table) (λ t is.
    then_holds (λ (filter : Option TypedExpr). Unit {0}) (SetsFields tables) (filter_of (own_source t.table) s.filter) _ (anything (filter_of (own_source t.table) s.filter)) (λ filter _.
    record { of_table = t.table; is = is; set = tt }))

abbrev TypedSets : List Table → Typed → Type 0
TypedSets tables (Select t) = Unit {0}
TypedSets tables (Insert t) = Unit {0}
TypedSets tables (Change t) = SetsFields tables t

statement_sets : (tables : List Table) (statement : Statement) → Holds (TypedSets tables) (typed tables statement)
statement_sets tables (tree.Select s) =
    then_holds (λ (t : TypedSelect). Unit {0}) (TypedSets tables) (typing.typed_select tables s) _ (anything (typing.typed_select tables s)) (λ t h. h)
statement_sets tables (tree.Insert s) =
    then_holds (λ (t : TypedInsert). Unit {0}) (TypedSets tables) (typed_insert tables s) _ (anything (typed_insert tables s)) (λ t h. h)
statement_sets tables (tree.Update s) = then_holds (SetsFields tables) (TypedSets tables) (typed_update tables s) _ (update_sets tables s) (λ t h. h)
statement_sets tables (tree.Delete s) = then_holds (SetsFields tables) (TypedSets tables) (typed_delete tables s) _ (delete_sets tables s) (λ t h. h)
statement_sets tables _ = tt

pub change_sets : (tables : List Table) (statement : Statement) (change : TypedChange) → typed tables statement ≡ Ok (Change change) → SetsFields tables change
change_sets tables statement change is = subst (Holds (TypedSets tables)) is (statement_sets tables statement)
