-- A statement asks for the keys of no table twice.
use Rattle.std.proofs.Common.{◌≡◌, ◌≢◌, ℕ, zero, suc, ◌==◌, Bool, true, false, List, [], ◌∷◌, ◌++◌, length, map, Option, Some, None, Ok, Err, sym, arith}
use Rattle.std.specs.Prelude.{slice_get}
use Rattle.std.specs.List.{list_any, AllByRecursion, Contains}
use Rattle.std.proofs.lemmas.Bool.{cond_both, or_parts, eqb-false}
use Rattle.cell_base.specs.declared.cell.Cell.{Cell}
use Rattle.cell_base.specs.declared.key.Key.{Key}
use Rattle.cell_base.specs.declared.value.Value.{Value}
use Rattle.sql_tree.specs.declared.table.Table.{Table}
use Rattle.sql_tree.specs.declared.typed.Typed.TheVariants.{Select, Insert, Change}
use Rattle.sql_tree.specs.declared.typed.TypedChange.{TypedChange}
use Rattle.sql_tree.specs.declared.typed.TypedInsert.{TypedInsert}
use Rattle.typing_rules.specs.Outcome.{Outcome as Result}
use Rattle.row_meaning.specs.declared.picture.TableRows.{TableRows}
use Rattle.row_meaning.specs.Combinations.{is_true}
use Rattle.row_meaning.specs.Pictures.{TableRow, shown_of}
use Rattle.row_meaning.specs.Changes.{changes_of}
use Rattle.row_meaning.specs.Changes as changes
use Rattle.row_meaning.specs.Insertion.{rows_to_insert}
use Rattle.statement_course.specs.declared.demand.Outcome.{Outcome}
use Rattle.statement_course.specs.declared.demand.Outcome.TheVariants as outcomes
use Rattle.statement_course.specs.Course.{Course, done}
use Rattle.statement_course.specs.Reading.{Part, part_before, parts_from, read_columns, read_row, read_rows, read_keys, read_parts}
use Rattle.statement_course.specs.Statements.{parts_of_select, course_of_rows, course_of_insert, part_of_change, course_of_changes, course_of_change, course_of}
use Rattle.statement_course.specs.Writing.{write_all, read_presences, insert_rows, inserts, updates, deletes}
use Rattle.statement_laws.specs.Scans.{ScansOnce}
use Rattle.statement_laws.specs.RunLaws.{StatementScansOnce}

-- ---- what reads cells alone

columns_scan : (before : List ℕ) (table : ℕ) (key : Key) (columns : List ℕ) (read : List (ℕ × Value)) (rest : List (ℕ × Value) → Course)
    → ((all : List (ℕ × Value)) → ScansOnce before (rest all)) → ScansOnce before (read_columns table key columns read rest)
columns_scan before table key [] read rest f = f read
columns_scan before table key (column ∷ columns) read rest f = λ v. columns_scan before table key columns (read ++ (column, v) ∷ []) rest f

row_scan : (before : List ℕ) (part : Part) (key : Key) (found : List TableRow) (rest : List TableRow → Course)
    → ((all : List TableRow) → ScansOnce before (rest all)) → ScansOnce before (read_row part key found rest)
row_scan before part key found rest f = λ present.
    cond_both (is_true present) _ (rest found) (ScansOnce before)
    (λ _. columns_scan before part.table key part.columns [] _ (λ read. f _)) (λ _. f found)

rows_scan : (before : List ℕ) (part : Part) (keys : List Key) (found : List TableRow) (rest : List TableRow → Course)
    → ((all : List TableRow) → ScansOnce before (rest all)) → ScansOnce before (read_rows part keys found rest)
rows_scan before part [] found rest f = f found
rows_scan before part (key ∷ keys) found rest f = row_scan before part key found (λ more. read_rows part keys more rest) (λ more. rows_scan before part keys more rest f)

writes_scan : (before : List ℕ) (ws : List (Cell × Value)) (outcome : Outcome) → ScansOnce before (write_all ws (done outcome))
writes_scan before [] outcome = tt
writes_scan before (w ∷ ws) outcome = writes_scan before ws outcome

presences_scan : (before : List ℕ) (table : ℕ) (keys : List Key) (found : Bool) (rest : Bool → Course)
    → ((found : Bool) → ScansOnce before (rest found)) → ScansOnce before (read_presences table keys found rest)
presences_scan before table [] found rest f = f found
presences_scan before table (key ∷ keys) found rest f = λ present. presences_scan before table keys _ rest f

-- ---- tables

-- the table of the part isn't among these
abbrev NotIn : List ℕ → Part → Type 0
NotIn before part = Contains before part.table → ⊥

-- no table stands in two parts
abbrev AreApart : List Part → Type 0
AreApart [] = Unit {0}
AreApart (part ∷ parts) = AllByRecursion (λ (p : Part). p.table ≢ part.table) parts × AreApart parts

not_in : (x : ℕ) (xs : List ℕ) (y : ℕ) → y ≢ x → (Contains xs y → ⊥) → Contains (x ∷ xs) y → ⊥
not_in x xs y other none (zero, within, is) = other (sym is)
not_in x xs y other none (suc k, within, is) = none (k, omega (arith, within), is)

not_later : (table : ℕ) (before : List ℕ) (parts : List Part) → AllByRecursion (λ (p : Part). p.table ≢ table) parts
    → AllByRecursion (NotIn before) parts → AllByRecursion (NotIn (table ∷ before)) parts
not_later table before [] other new = tt
not_later table before (p ∷ ps) other new = (not_in table before p.table other.0 new.0, not_later table before ps other.1 new.1)

keys_scan : (table : ℕ) (point : Option Key) (before : List ℕ) (rest : List Key → Course) → (Contains before table → ⊥)
    → ((keys : List Key) → ScansOnce (table ∷ before) (rest keys)) → ((keys : List Key) → ScansOnce before (rest keys))
    → ScansOnce before (read_keys table point rest)
keys_scan table None before rest new f g = (new, f)
keys_scan table (Some key) before rest new f g = g (key ∷ [])

parts_scan : (parts : List Part) (before : List ℕ) (picture : List TableRows) (rest : List TableRows → Course)
    → AreApart parts → AllByRecursion (NotIn before) parts
    → ((all : List TableRows) (after : List ℕ) → ScansOnce after (rest all)) → ScansOnce before (read_parts parts picture rest)
parts_scan [] before picture rest apart new f = f picture before
parts_scan (part ∷ parts) before picture rest apart new f =
    let further : List TableRow → List TableRows = λ rows. picture ++ record { table = part.table; rows = rows } ∷ [] in
    let after : List TableRow → Course = λ rows. read_parts parts (further rows) rest in
    keys_scan part.table part.point before (λ keys. read_rows part keys [] after) new.0
    (λ keys. rows_scan (part.table ∷ before) part keys [] after
    (λ rows. parts_scan parts (part.table ∷ before) (further rows) rest apart.1 (not_later part.table before parts apart.0 new.1) f))
    (λ keys. rows_scan before part keys [] after (λ rows. parts_scan parts before (further rows) rest apart.1 new.1 f))

none_before : (parts : List Part) → AllByRecursion (NotIn []) parts
none_before [] = tt
none_before (p ∷ ps) = ((λ there. absurd (omega (arith, there.1))), none_before ps)

-- ---- the parts of a SELECT

abbrev IsNew : List ℕ → Part → Type 0
IsNew before part = list_any (λ n. n == part.table) before ≡ false

-- parts of different tables, none of them among those that stand before
record ArePicked (before : List ℕ) (parts : List Part) : Type 0 where
  new : AllByRecursion (IsNew before) parts
  apart : AreApart parts

still_new : (number : ℕ) (before : List ℕ) (parts : List Part) → AllByRecursion (IsNew (number ∷ before)) parts → AllByRecursion (IsNew before) parts
still_new number before [] h = tt
still_new number before (p ∷ ps) h = ((or_parts (number == p.table) (list_any (λ n. n == p.table) before) h.0).1, still_new number before ps h.1)

others_new : (number : ℕ) (before : List ℕ) (parts : List Part) → AllByRecursion (IsNew (number ∷ before)) parts
    → AllByRecursion (λ (p : Part). p.table ≢ number) parts
others_new number before [] h = tt
others_new number before (p ∷ ps) h =
    ((λ e. eqb-false number p.table (or_parts (number == p.table) (list_any (λ n. n == p.table) before) h.0).0 (sym e)), others_new number before ps h.1)

picked_one : (number : ℕ) (found : Option Table) (columns : List ℕ) (point : Option Key) (before : List ℕ) (parts : List Part)
    → list_any (λ n. n == number) before ≡ false → ArePicked (number ∷ before) parts
    → ArePicked before (part_before number found columns point parts)
picked_one number None columns point before parts new others = record { new = still_new number before parts others.new; apart = others.apart }
picked_one number (Some table) columns point before parts new others = record {
  new = (new, still_new number before parts others.new);
  apart = (others_new number before parts others.new, others.apart);
}

picked : (tables : List Table) (before numbers : List ℕ) (columns : List (List ℕ)) (points : List (Option Key))
    → ArePicked before (parts_from tables before numbers columns points)
picked tables before (number ∷ numbers) (columns ∷ more) (point ∷ points) =
    cond_both (list_any (λ n. n == number) before) _ _ (ArePicked before)
    (λ _. picked tables before numbers more points)
    (λ new. picked_one number (slice_get tables number) columns point before (parts_from tables (number ∷ before) numbers more points) new
    (picked tables (number ∷ before) numbers more points))
picked tables before _ _ _ = record { new = tt; apart = tt }

-- ---- statements

inserted_scan : (number key_column : ℕ) (rows : List TableRow) (found : Bool) → ScansOnce [] (insert_rows number key_column rows found)
inserted_scan number key_column rows true = tt
inserted_scan number key_column rows false = writes_scan [] (inserts number key_column rows) (outcomes.Inserted (length rows))

made_scan : (number : ℕ) (table : Table) (rows : Result (List TableRow)) → ScansOnce [] (course_of_rows number table rows)
made_scan number table (Err code) = tt
made_scan number table (Ok rows) =
    presences_scan [] number (map (λ (r : TableRow). r.0) rows) false _ (λ found. inserted_scan number table.key rows found)

insert_scan : (insert : TypedInsert) (table : Option Table) → ScansOnce [] (course_of_insert insert table)
insert_scan insert None = tt
insert_scan insert (Some table) = made_scan insert.table table (rows_to_insert table insert.rows)

changed_scan : (before : List ℕ) (change : TypedChange) (made : Result (List changes.Change)) → ScansOnce before (course_of_changes change made)
changed_scan before change (Err code) = tt
changed_scan before change (Ok made) =
    cond_both change.delete (write_all (deletes change.table made) (done (outcomes.Deleted (length made))))
    (write_all (updates change.table made) (done (outcomes.Updated (length made)))) (ScansOnce before)
    (λ _. writes_scan before (deletes change.table made) (outcomes.Deleted (length made)))
    (λ _. writes_scan before (updates change.table made) (outcomes.Updated (length made)))

change_scan : (change : TypedChange) (table : Option Table) → ScansOnce [] (course_of_change change table)
change_scan change None = tt
change_scan change (Some table) =
    let parts = part_of_change table change ∷ [] in
    parts_scan parts [] [] (λ picture. course_of_changes change (changes_of table change (shown_of change.table picture))) (tt, tt) (none_before parts)
    (λ picture after. changed_scan after change (changes_of table change (shown_of change.table picture)))

pub scans_once : StatementScansOnce
unfolding course_of
scans_once tables (Select select) =
    parts_scan (parts_of_select tables select) [] [] _ (picked tables [] select.tables select.mentioned select.points).apart
    (none_before (parts_of_select tables select)) (λ picture after. tt)
scans_once tables (Insert insert) = insert_scan insert (slice_get tables insert.table)
scans_once tables (Change change) = change_scan change (slice_get tables change.table)
