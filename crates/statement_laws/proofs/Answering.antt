-- A run of each kind of statement over its picture.
use Rattle.std.proofs.Common.{◌≡◌, ℕ, suc, Bool, true, false, List, [], ◌∷◌, ◌++◌, length, map, Ok, Err, refl, sym, ap, ◌∙◌, arith, append_assoc}
use Rattle.std.specs.Prelude.{if◌then◌else◌, flat_map}
use Rattle.std.proofs.lemmas.List.{length-append}
use Rattle.cell_base.specs.declared.cell.Cell.{Cell}
use Rattle.cell_base.specs.declared.cell.Cell.TheVariants.{Presence}
use Rattle.cell_base.specs.declared.sql_state.SqlState.TheVariants.{S0A000, S23505}
use Rattle.cell_base.specs.declared.value.Value.{Value}
use Rattle.sql_tree.specs.declared.table.Table.{Table}
use Rattle.sql_tree.specs.declared.typed.Typed.{Typed}
use Rattle.sql_tree.specs.declared.typed.Typed.TheVariants.{Select, Insert, Change}
use Rattle.sql_tree.specs.declared.typed.TypedChange.{TypedChange}
use Rattle.sql_tree.specs.declared.typed.TypedInsert.{TypedInsert}
use Rattle.sql_tree.specs.declared.typed.TypedSelect.{TypedSelect}
use Rattle.typing_rules.specs.Outcome.{Outcome as Result}
use Rattle.row_meaning.specs.Pictures.{TableRow}
use Rattle.row_meaning.specs.Changes.{changes_of}
use Rattle.row_meaning.specs.Changes as changes
use Rattle.row_meaning.specs.Insertion.{rows_to_insert}
use Rattle.row_meaning.specs.Selection.{selected}
use Rattle.statement_course.specs.declared.demand.Demand.{Demand}
use Rattle.statement_course.specs.declared.demand.Demand.TheVariants.{Scan, Touch, Write, Reply}
use Rattle.statement_course.specs.declared.demand.Outcome.{Outcome}
use Rattle.statement_course.specs.declared.demand.Outcome.TheVariants as outcomes
use Rattle.statement_course.specs.Course.{Course, done}
use Rattle.statement_course.specs.Statements.{rows_outcome, part_of_change, course_of}
use Rattle.statement_laws.proofs.TouchesOnce.{touches_once}
use Rattle.statement_laws.specs.Shown.{parts_in_order, shown_rows, picture_of}
use Rattle.statement_laws.specs.Asked.{asks_part, writes_changes, writes_row, writes_new, inserts_rows}
use Rattle.statement_laws.proofs.Selecting.{select_answers}
use Rattle.statement_laws.proofs.Changing.{change_answers, insert_answers}
use Rattle.statement_laws.specs.Runs.{Step, demand_of}
use Rattle.statement_laws.specs.Pictures.{Picture, IsOver}
use Rattle.statement_laws.specs.Writes.{change_writes, change_outcome, has_any, insert_asks, insert_outcome}
use Rattle.statement_laws.specs.RunLaws.{IsRun, Selected, Changed, Inserted, Means, RunHasPicture}
use Rattle.statement_laws.proofs.Pictured.{has_picture}
use Rattle.statement_laws.proofs.Scanning.{scans_once}
use Rattle.statement_laws.proofs.Targets.{HasTable, insert_has_table, change_has_table}

-- ---- demands with their last one

last_same : (xs ys : List Demand) (x y : Demand) → xs ++ x ∷ [] ≡ ys ++ y ∷ [] → (xs ≡ ys) × (x ≡ y)
last_same [] [] x y same = (refl, cc)
last_same [] (b ∷ ys) x y same = absurd (too_few ys y (ap length same))
  where
    too_few : (ys : List Demand) (y : Demand) → 1 ≡ suc (length (ys ++ y ∷ [])) → ⊥
    too_few ys y e = omega (arith, e, length-append ys (y ∷ []))
last_same (a ∷ xs) [] x y same = absurd (too_many xs x (ap length same))
  where
    too_many : (xs : List Demand) (x : Demand) → suc (length (xs ++ x ∷ [])) ≡ 1 → ⊥
    too_many xs x e = omega (arith, e, length-append xs (x ∷ []))
last_same (a ∷ xs) (b ∷ ys) x y same =
    let tails : xs ++ x ∷ [] ≡ ys ++ y ∷ [] = cc in
    let heads : a ≡ b = cc in
    let later = last_same xs ys x y tails in
    (ap (λ d. d ∷ xs) heads ∙ ap (λ ds. b ∷ ds) later.0, later.1)

outcome_in : Demand → Outcome
outcome_in (Scan table) = outcomes.Failed S0A000
outcome_in (Touch cell) = outcomes.Failed S0A000
outcome_in (Write cell value) = outcomes.Failed S0A000
outcome_in (Reply outcome) = outcome

-- the same demands, and the same outcome
same_end : (ds es : List Demand) (o q : Outcome) → ds ++ Reply o ∷ [] ≡ es ++ Reply q ∷ [] → (ds ≡ es) × (o ≡ q)
unfolding outcome_in
same_end ds es o q same = let both = last_same ds es (Reply o) (Reply q) same in (both.0, ap outcome_in both.1)

-- ---- what a statement that writes demands

changes_end : (change : TypedChange) (made : Result (List changes.Change))
    → writes_changes change made ≡ change_writes change made ++ Reply (change_outcome change made) ∷ []
changes_end change (Err code) = refl
changes_end change (Ok made) = refl

new_end : (number key_column : ℕ) (rows : List TableRow) (found : Bool)
    → writes_new number key_column rows found
    ≡ (if found then [] else flat_map (writes_row number key_column) rows) ++ Reply (if found then outcomes.Failed S23505 else outcomes.Inserted (length rows)) ∷ []
new_end number key_column rows true = refl
new_end number key_column rows false = refl

inserts_end : (value : Cell → Value) (number : ℕ) (table : Table) (rows : Result (List TableRow))
    → inserts_rows value number table rows ≡ insert_asks value number table rows ++ Reply (insert_outcome value number rows) ∷ []
inserts_end value number table (Err code) = refl
inserts_end value number table (Ok rows) =
    let asked = map (λ (r : TableRow). Touch (Presence number r.0)) rows in
    let found = has_any value number rows in
    ap (λ ds. asked ++ ds) (new_end number table.key rows found)
    ∙ sym (append_assoc asked (if found then [] else flat_map (writes_row number table.key) rows)
    (Reply (if found then outcomes.Failed S23505 else outcomes.Inserted (length rows)) ∷ []))

-- ---- the laws

select_means : (p : Picture) (tables : List Table) (select : TypedSelect) (steps : List Step) (outcome : Outcome)
    → IsOver p (course_of tables (Select select)) steps (done outcome) → Selected p tables select steps outcome
select_means p tables select steps outcome over =
    let parts = parts_in_order tables select in
    let same = same_end (map demand_of steps) (flat_map (asks_part p.listed p.value) parts) outcome
    (rows_outcome select (selected select (picture_of p.listed p.value parts)))
    (sym over.demands ∙ select_answers p.listed p.value tables select) in
    record { asked = same.0; came = same.1 }

change_means : (p : Picture) (tables : List Table) (change : TypedChange) (steps : List Step) (outcome : Outcome) → HasTable tables change.table
    → IsOver p (course_of tables (Change change)) steps (done outcome) → Changed p tables change steps outcome
change_means p tables change steps outcome there over =
    let part = part_of_change there.0 change in
    let made = changes_of there.0 change (shown_rows p.listed p.value part) in
    let asked = asks_part p.listed p.value part in
    let same = same_end (map demand_of steps) (asked ++ change_writes change made) outcome (change_outcome change made)
    (sym over.demands ∙ (change_answers p.listed p.value tables change there.0 there.1
    ∙ (ap (λ ds. asked ++ ds) (changes_end change made)
    ∙ sym (append_assoc asked (change_writes change made) (Reply (change_outcome change made) ∷ []))))) in
    record { table = there.0; table_is = there.1; asked = same.0; came = same.1 }

insert_means : (p : Picture) (tables : List Table) (insert : TypedInsert) (steps : List Step) (outcome : Outcome) → HasTable tables insert.table
    → IsOver p (course_of tables (Insert insert)) steps (done outcome) → Inserted p tables insert steps outcome
insert_means p tables insert steps outcome there over =
    let rows = rows_to_insert there.0 insert.rows in
    let same = same_end (map demand_of steps) (insert_asks p.value insert.table there.0 rows) outcome (insert_outcome p.value insert.table rows)
    (sym over.demands ∙ (insert_answers p.listed p.value tables insert there.0 there.1 ∙ inserts_end p.value insert.table there.0 rows)) in
    record { table = there.0; table_is = there.1; asked = same.0; came = same.1 }

run_means : (p : Picture) (tables : List Table) (t : Typed) (steps : List Step) (left : Course) → IsRun tables t steps left
    → IsOver p (course_of tables t) steps left → Means p tables t steps left
run_means p tables (Select select) steps (done outcome) run over = select_means p tables select steps outcome over
run_means p tables (Insert insert) steps (done outcome) run over =
    insert_means p tables insert steps outcome (insert_has_table tables run.statement insert run.types) over
run_means p tables (Change change) steps (done outcome) run over =
    change_means p tables change steps outcome (change_has_table tables run.statement change run.types) over
run_means p tables t steps _ run over = tt

pub run_pictured : RunHasPicture
run_pictured tables t steps left run =
    let found = has_picture (course_of tables t) steps left (scans_once tables t) (touches_once tables run.statement t run.types) run.ran run.once in
    record { picture = found.0; over = found.1; means = run_means found.0 tables t steps left run found.1 }
