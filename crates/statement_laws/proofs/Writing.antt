-- What the writing part of a statement demands.
use Rattle.std.proofs.Common.{◌≡◌, ℕ, suc, ◌+◌, ◌==◌, Bool, true, false, not, ◌||◌, List, [], ◌∷◌, ◌++◌, map, length, Some, Ok, Err, refl, sym, ap, ◌∙◌, arith}
use Rattle.std.specs.Prelude.{if◌then◌else◌, flat_map, slice_get, unwrap_or}
use Rattle.std.specs.List.{filter, list_any}
use Rattle.std.proofs.lemmas.List.{map-append}
use Rattle.std.proofs.lemmas.Simd.{map-map}
use Rattle.cell_base.specs.declared.cell.Cell.{Cell}
use Rattle.cell_base.specs.declared.cell.Cell.TheVariants.{Presence, Field}
use Rattle.cell_base.specs.declared.key.Key.{Key}
use Rattle.cell_base.specs.declared.value.Value.{Value}
use Rattle.cell_base.specs.declared.value.Value.TheVariants.{Flag, Null}
use Rattle.sql_tree.specs.declared.table.Table.{Table}
use Rattle.sql_tree.specs.declared.typed.TypedChange.{TypedChange}
use Rattle.typing_rules.specs.Mentions.{numbers_from}
use Rattle.typing_rules.specs.Outcome.{Outcome as Result}
use Rattle.row_meaning.specs.Pictures.{TableRow}
use Rattle.row_meaning.specs.Changes as changes
use Rattle.statement_course.specs.declared.demand.Demand.{Demand}
use Rattle.statement_course.specs.declared.demand.Demand.TheVariants.{Touch, Write, Reply}
use Rattle.statement_course.specs.declared.demand.Outcome.TheVariants.{Inserted, Updated, Deleted}
use Rattle.statement_course.specs.Course.{Course, done}
use Rattle.statement_course.specs.Statements.{course_of_rows, course_of_changes}
use Rattle.statement_course.specs.Writing.{write_all, fields_of, inserts, read_presences, insert_rows, updates, deletes}
use Rattle.statement_laws.specs.Demands.{demands_of}
use Rattle.statement_laws.specs.Shown.{is_there}
use Rattle.statement_laws.specs.Asked.{writes_changes, writes_row, writes_new, inserts_rows, other_columns}

-- ---- lists

any_mapped : {A B : Type 0} (p : B → Bool) (f : A → B) (xs : List A) → list_any p (map f xs) ≡ list_any (λ x. p (f x)) xs
any_mapped p f [] = refl
any_mapped p f (x ∷ xs) = ap (λ more. p (f x) || more) (any_mapped p f xs)

-- ---- writes

abbrev write_demand : Cell × Value → Demand
write_demand w = Write w.0 w.1

all_written : (listed : ℕ → List Key) (value : Cell → Value) (ws : List (Cell × Value)) (rest : Course)
    → demands_of listed value (write_all ws rest) ≡ map write_demand ws ++ demands_of listed value rest
all_written listed value [] rest = refl
all_written listed value (w ∷ ws) rest = ap (λ ds. write_demand w ∷ ds) (all_written listed value ws rest)

deletes_written : (table : ℕ) (made : List changes.Change)
    → map write_demand (deletes table made) ≡ flat_map (λ (c : changes.Change). Write (Presence table c.key) (Flag false) ∷ []) made
deletes_written table [] = refl
deletes_written table (c ∷ cs) = ap (λ ds. Write (Presence table c.key) (Flag false) ∷ ds) (deletes_written table cs)

abbrev writes_fields : ℕ → changes.Change → List Demand
writes_fields table c = map (λ (f : ℕ × Value). Write (Field table c.key f.0) f.1) c.fields

updates_written : (table : ℕ) (made : List changes.Change) → map write_demand (updates table made) ≡ flat_map (writes_fields table) made
updates_written table [] = refl
updates_written table (c ∷ cs) =
    map-append write_demand (map (λ (f : ℕ × Value). (Field table c.key f.0, f.1)) c.fields) (updates table cs)
    ∙ (ap (λ ds. ds ++ map write_demand (updates table cs)) (map-map write_demand (λ (f : ℕ × Value). (Field table c.key f.0, f.1)) c.fields)
    ∙ ap (λ ds. writes_fields table c ++ ds) (updates_written table cs))

made_written : (listed : ℕ → List Key) (value : Cell → Value) (table : ℕ) (made : List changes.Change) (delete : Bool)
    → demands_of listed value
    (if delete then write_all (deletes table made) (done (Deleted (length made))) else write_all (updates table made) (done (Updated (length made))))
    ≡ flat_map (λ (c : changes.Change). if delete then Write (Presence table c.key) (Flag false) ∷ [] else writes_fields table c) made
    ++ Reply (if delete then Deleted (length made) else Updated (length made)) ∷ []
made_written listed value table made true =
    all_written listed value (deletes table made) (done (Deleted (length made)))
    ∙ ap (λ ds. ds ++ Reply (Deleted (length made)) ∷ []) (deletes_written table made)
made_written listed value table made false =
    all_written listed value (updates table made) (done (Updated (length made)))
    ∙ ap (λ ds. ds ++ Reply (Updated (length made)) ∷ []) (updates_written table made)

pub changes_written : (listed : ℕ → List Key) (value : Cell → Value) (change : TypedChange) (made : Result (List changes.Change))
    → demands_of listed value (course_of_changes change made) ≡ writes_changes change made
changes_written listed value change (Err code) = refl
changes_written listed value change (Ok made) = made_written listed value change.table made change.delete

-- ---- the rows of an INSERT

abbrev writes_column : ℕ → Key → (ℕ → Value) → ℕ → Demand
writes_column table key at column = Write (Field table key column) (at column)

abbrev columns_from : ℕ → ℕ → ℕ → List ℕ
columns_from key_column i n = filter (λ column. not (column == key_column)) (numbers_from i n)

column_written : (table : ℕ) (key : Key) (at : ℕ → Value) (i : ℕ) (v : Value) (fields : List (Cell × Value)) (columns : List ℕ) (is_key : Bool)
    → at i ≡ v → map write_demand fields ≡ map (writes_column table key at) columns
    → map write_demand (if is_key then fields else (Field table key i, v) ∷ fields)
    ≡ map (writes_column table key at) (if not is_key then i ∷ columns else columns)
column_written table key at i v fields columns true here more = more
column_written table key at i v fields columns false here more =
    ap (λ w. Write (Field table key i) w ∷ map write_demand fields) (sym here) ∙ ap (λ ds. Write (Field table key i) (at i) ∷ ds) more

fields_written : (table : ℕ) (key : Key) (key_column i : ℕ) (vs : List Value) (at : ℕ → Value)
    → ((k : ℕ) (v : Value) → slice_get vs k ≡ Some v → at (i + k) ≡ v)
    → map write_demand (fields_of table key key_column i vs) ≡ map (writes_column table key at) (columns_from key_column i (length vs))
fields_written table key key_column i [] at h = refl
fields_written table key key_column i (v ∷ vs) at h =
    let start : i ≡ i + 0 = omega arith in
    let here : at i ≡ v = ap at start ∙ h 0 v refl in
    let more : map write_demand (fields_of table key key_column (i + 1) vs) ≡ map (writes_column table key at) (columns_from key_column (i + 1) (length vs)) =
    fields_written table key key_column (i + 1) vs at (λ k w e. let there : i + 1 + k ≡ i + suc k = omega arith in ap at there ∙ h (suc k) w e) in
    column_written table key at i v (fields_of table key key_column (i + 1) vs) (columns_from key_column (i + 1) (length vs)) (i == key_column) here more

abbrev value_at : List Value → ℕ → Value
value_at values column = unwrap_or (slice_get values column) Null

row_written : (table key_column : ℕ) (key : Key) (values : List Value)
    → map write_demand (fields_of table key key_column 0 values) ≡ map (writes_column table key (value_at values)) (other_columns key_column values)
row_written table key_column key values =
    fields_written table key key_column 0 values (value_at values)
    (λ k v e. let there : 0 + k ≡ k = omega arith in ap (value_at values) there ∙ ap (λ found. unwrap_or found Null) e)

inserts_written : (table key_column : ℕ) (rows : List TableRow) → map write_demand (inserts table key_column rows) ≡ flat_map (writes_row table key_column) rows
inserts_written table key_column [] = refl
inserts_written table key_column (row ∷ rows) =
    ap (λ ds. Write (Presence table row.0) (Flag true) ∷ ds)
    (map-append write_demand (fields_of table row.0 key_column 0 row.1) (inserts table key_column rows)
    ∙ (ap (λ ds. ds ++ map write_demand (inserts table key_column rows)) (row_written table key_column row.0 row.1)
    ∙ ap (λ ds. map (writes_column table row.0 (value_at row.1)) (other_columns key_column row.1) ++ ds) (inserts_written table key_column rows)))

found_later : (found there more : Bool) → ((if there then true else found) || more) ≡ (found || (there || more))
found_later true true more = refl
found_later true false more = refl
found_later false true more = refl
found_later false false more = refl

presences_read : (listed : ℕ → List Key) (value : Cell → Value) (table : ℕ) (keys : List Key) (found : Bool) (rest : Bool → Course)
    → demands_of listed value (read_presences table keys found rest)
    ≡ map (λ key. Touch (Presence table key)) keys ++ demands_of listed value (rest (found || list_any (is_there value table) keys))
presences_read listed value table [] true rest = refl
presences_read listed value table [] false rest = refl
presences_read listed value table (key ∷ keys) found rest =
    ap (λ ds. Touch (Presence table key) ∷ ds)
    (presences_read listed value table keys _ rest
    ∙ ap (λ any. map (λ k. Touch (Presence table k)) keys ++ demands_of listed value (rest any))
    (found_later found (is_there value table key) (list_any (is_there value table) keys)))

new_written : (listed : ℕ → List Key) (value : Cell → Value) (table key_column : ℕ) (rows : List TableRow) (found : Bool)
    → demands_of listed value (insert_rows table key_column rows found) ≡ writes_new table key_column rows found
new_written listed value table key_column rows true = refl
new_written listed value table key_column rows false =
    all_written listed value (inserts table key_column rows) (done (Inserted (length rows)))
    ∙ ap (λ ds. ds ++ Reply (Inserted (length rows)) ∷ []) (inserts_written table key_column rows)

pub rows_written : (listed : ℕ → List Key) (value : Cell → Value) (number : ℕ) (table : Table) (rows : Result (List TableRow))
    → demands_of listed value (course_of_rows number table rows) ≡ inserts_rows value number table rows
rows_written listed value number table (Err code) = refl
rows_written listed value number table (Ok rows) =
    let keys = map (λ (r : TableRow). r.0) rows in
    let asked : map (λ key. Touch (Presence number key)) keys ≡ map (λ (r : TableRow). Touch (Presence number r.0)) rows =
    map-map (λ key. Touch (Presence number key)) (λ (r : TableRow). r.0) rows in
    presences_read listed value number keys false (insert_rows number table.key rows)
    ∙ (ap (λ ds. ds ++ demands_of listed value (insert_rows number table.key rows (list_any (is_there value number) keys))) asked
    ∙ ap (λ ds. map (λ (r : TableRow). Touch (Presence number r.0)) rows ++ ds)
    (new_written listed value number table.key rows (list_any (is_there value number) keys)
    ∙ ap (writes_new number table.key rows) (any_mapped (is_there value number) (λ (r : TableRow). r.0) rows)))
