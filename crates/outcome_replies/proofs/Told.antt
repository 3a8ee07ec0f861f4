-- What a statement with types comes to can be told.
use Rattle.std.proofs.Common.{◌≡◌, ℕ, Bool, true, false, List, [], ◌∷◌, length, map, Option, Some, None, Ok, Err, sym, ◌∙◌, subst, arith, All}
use Rattle.std.specs.Prelude.{slice_get}
use Rattle.std.proofs.lemmas.Bool.{cond_both}
use Rattle.std.proofs.lemmas.List.{length-map}
use Rattle.cell_base.specs.declared.value.Value.{Value}
use Rattle.sql_tree.specs.declared.statement.Select.{Select as SelectTree}
use Rattle.sql_tree.specs.declared.statement.Statement.{Statement}
use Rattle.sql_tree.specs.declared.statement.Statement.TheVariants as tree
use Rattle.sql_tree.specs.declared.table.Table.{Table}
use Rattle.sql_tree.specs.declared.typed.Typed.{Typed}
use Rattle.sql_tree.specs.declared.typed.Typed.TheVariants.{Select, Insert, Change}
use Rattle.sql_tree.specs.declared.typed.TypedChange.{TypedChange}
use Rattle.sql_tree.specs.declared.typed.TypedInsert.{TypedInsert}
use Rattle.sql_tree.specs.declared.typed.TypedSelect.{TypedSelect}
use Rattle.sql_tree.specs.declared.typed_expr.TypedExpr.{TypedExpr}
use Rattle.typing_rules.specs.Outcome.{Outcome as Result}
use Rattle.typing_rules.specs.Sound.{Holds}
use Rattle.typing_rules.specs.Select as typing
use Rattle.typing_rules.specs.Changes.{filter_of}
use Rattle.typing_rules.specs.Insert.{typed_insert}
use Rattle.typing_rules.specs.Changes.{typed_update, typed_delete}
use Rattle.typing_rules.specs.Typed.{typed}
use Rattle.typing_rules.proofs.Numbers.{then_holds}
use Rattle.described_columns.specs.Described.{AreDescribed}
use Rattle.described_columns.proofs.Described.{statement_described}
use Rattle.row_meaning.specs.Pictures.{TableRow, shown_of}
use Rattle.row_meaning.specs.Selection.{selected}
use Rattle.row_meaning.specs.Insertion.{rows_to_insert}
use Rattle.row_meaning.specs.Changes.{changes_of}
use Rattle.row_meaning.specs.Changes as changes
use Rattle.statement_course.specs.Course.{done}
use Rattle.statement_course.specs.Statements.{parts_of_select, rows_outcome, course_of_select, course_of_rows, course_of_insert, part_of_change, course_of_changes, course_of_change, course_of}
use Rattle.statement_course.specs.Writing.{write_all, insert_rows, inserts, updates, deletes}
use Rattle.statement_course.specs.declared.demand.Outcome.TheVariants.{Updated, Deleted, Inserted}
use Rattle.outcome_replies.specs.Replies.{CanBeTold, RowFits}
use Rattle.outcome_replies.specs.Ends.{EndsIn}
use Rattle.outcome_replies.specs.Laws.{OutcomesCanBeTold}
use Rattle.outcome_replies.proofs.Ending.{ends_written, ends_parts, ends_presences}
use Rattle.outcome_replies.proofs.Rows.{selected_fits}

-- ---- a result has one column for each item

abbrev HasOneEach : TypedSelect → Type 0
HasOneEach t = length t.items ≡ length t.fields

anything : {A : Type 0} (o : Result A) → Holds (λ (a : A). Unit {0}) o
anything (Ok a) = tt
anything (Err code) = tt

select_each : (tables : List Table) (s : SelectTree) → Holds HasOneEach (typing.typed_select tables s)
unfolding typing.typed_select
select_each tables s =
    then_holds (λ (entries : List typing.Entry). Unit {0}) HasOneEach (typing.entries_of tables s.from) _ (anything (typing.entries_of tables s.from)) (λ entries _.
    then_holds (λ (ons : List TypedExpr). Unit {0}) HasOneEach (typing.ons_of (typing.entry_sources entries) s.from) _ (anything (typing.ons_of (typing.entry_sources entries) s.from)) (λ ons _.
    then_holds (λ (filter : Option TypedExpr). Unit {0}) HasOneEach (filter_of (typing.entry_sources entries) s.filter) _ (anything (filter_of (typing.entry_sources entries) s.filter)) (λ filter _.
    then_holds (λ (outputs : List typing.Output). Unit {0}) HasOneEach (typing.items_from (typing.place_of (typing.has_aggregate s)) (typing.entry_sources entries) [] s.items) _
    (anything (typing.items_from (typing.place_of (typing.has_aggregate s)) (typing.entry_sources entries) [] s.items)) (λ outputs _.
    then_holds (λ (order : List (TypedExpr × Bool)). Unit {0}) HasOneEach (typing.order_of (typing.has_aggregate s) (typing.entry_sources entries) outputs s.order) _
    (anything (typing.order_of (typing.has_aggregate s) (typing.entry_sources entries) outputs s.order)) (λ order _.
    length-map outputs (λ (o : typing.Output). o.expr) ∙ sym (length-map outputs typing.field_of))))))

-- ---- what statements come to

rows_told : (t : TypedSelect) (rows : Result (List (List Value))) → AreDescribed t.fields → Holds (All RowFits) rows → CanBeTold (rows_outcome t rows)
rows_told t (Ok rows) described fits = (described, fits)
rows_told t (Err code) described fits = tt

select_told : (tables : List Table) (t : TypedSelect) → AreDescribed t.fields → HasOneEach t → EndsIn CanBeTold (course_of_select tables t)
select_told tables t described each =
    ends_parts CanBeTold (parts_of_select tables t) [] _ (λ picture. rows_told t (selected t picture) described (selected_fits t picture (omega (arith, each, described.few))))

inserted_told : (number key_column : ℕ) (rows : List TableRow) (found : Bool) → EndsIn CanBeTold (insert_rows number key_column rows found)
inserted_told number key_column rows true = tt
inserted_told number key_column rows false = ends_written CanBeTold (inserts number key_column rows) (done (Inserted (length rows))) tt

made_told : (number : ℕ) (table : Table) (rows : Result (List TableRow)) → EndsIn CanBeTold (course_of_rows number table rows)
made_told number table (Err code) = tt
made_told number table (Ok rows) = ends_presences CanBeTold number (map (λ (r : TableRow). r.0) rows) false _ (λ found. inserted_told number table.key rows found)

insert_told : (insert : TypedInsert) (table : Option Table) → EndsIn CanBeTold (course_of_insert insert table)
insert_told insert None = tt
insert_told insert (Some table) = made_told insert.table table (rows_to_insert table insert.rows)

changed_told : (change : TypedChange) (made : Result (List changes.Change)) → EndsIn CanBeTold (course_of_changes change made)
changed_told change (Err code) = tt
changed_told change (Ok made) =
    cond_both change.delete (write_all (deletes change.table made) (done (Deleted (length made)))) (write_all (updates change.table made) (done (Updated (length made)))) (EndsIn CanBeTold)
    (λ _. ends_written CanBeTold (deletes change.table made) (done (Deleted (length made))) tt)
    (λ _. ends_written CanBeTold (updates change.table made) (done (Updated (length made))) tt)

change_told : (change : TypedChange) (table : Option Table) → EndsIn CanBeTold (course_of_change change table)
change_told change None = tt
change_told change (Some table) =
    ends_parts CanBeTold (part_of_change table change ∷ []) [] (λ x. course_of_changes change (changes_of table change (shown_of change.table x))) (λ picture. changed_told change (changes_of table change (shown_of change.table picture)))

-- ---- the columns of a statement that is typed as a SELECT

abbrev IsOneEach : Typed → Type 0
IsOneEach (Select t) = HasOneEach t
IsOneEach _ = Unit {0}

typed_each : (tables : List Table) (statement : Statement) → Holds IsOneEach (typed tables statement)
typed_each tables (tree.Select s) = then_holds HasOneEach IsOneEach (typing.typed_select tables s) _ (select_each tables s) (λ t h. h)
typed_each tables (tree.Insert s) = then_holds (λ (t : TypedInsert). Unit {0}) IsOneEach (typed_insert tables s) _ (anything (typed_insert tables s)) (λ t _. tt)
typed_each tables (tree.Update s) = then_holds (λ (t : TypedChange). Unit {0}) IsOneEach (typed_update tables s) _ (anything (typed_update tables s)) (λ t _. tt)
typed_each tables (tree.Delete s) = then_holds (λ (t : TypedChange). Unit {0}) IsOneEach (typed_delete tables s) _ (anything (typed_delete tables s)) (λ t _. tt)
typed_each tables _ = tt

each_of : (tables : List Table) (statement : Statement) (t : TypedSelect) → typed tables statement ≡ Ok (Select t) → HasOneEach t
each_of tables statement t is = subst (Holds IsOneEach) is (typed_each tables statement)

pub outcomes_told : OutcomesCanBeTold
unfolding course_of
outcomes_told tables statement (Select t) sound plain is = select_told tables t (statement_described tables statement t sound plain is) (each_of tables statement t is)
outcomes_told tables statement (Insert t) sound plain is = insert_told t (slice_get tables t.table)
outcomes_told tables statement (Change t) sound plain is = change_told t (slice_get tables t.table)
