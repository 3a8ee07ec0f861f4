-- The rows that are committed at the end of a history that begins without a row are whole, where its transactions keep rows whole and write
-- fields of its tables.
use Rattle.std.proofs.Common.{◌≡◌, ◌≢◌, ℕ, ◌+◌, ◌<◌, ◌≤◌, zero, suc, List, [], ◌∷◌, length, take, drop, Some, true, refl, sym, ap, ◌∙◌, subst, inl, inr, ◌⊎◌, arith}
use Rattle.std.specs.List.{Contains, slice_get, AllByRecursion}
use Rattle.std.specs.declared.cmp.Ordering.{Ordering}
use Rattle.std.specs.declared.cmp.Ordering.TheVariants.{Less, Equal, Greater}
use Rattle.std.proofs.lemmas.Cmp.{tied_itself}
use Rattle.std.proofs.lemmas.List.{take-append-drop, length-append}
use Rattle.std.proofs.lemmas.List.Elements.{filter_map-append}
use Rattle.std.proofs.lemmas.Option.{slice_get_within}
use Rattle.cell_base.specs.declared.cell.Cell.{Cell}
use Rattle.cell_base.specs.declared.cell.Cell.TheVariants.{Presence, Field}
use Rattle.cell_base.specs.declared.key.Key.{Key}
use Rattle.cell_base.specs.declared.value.Value.{Value}
use Rattle.cell_base.specs.declared.value.Value.TheVariants.{Unset, Flag}
use Rattle.sql_tree.specs.declared.table.Table.{Table}
use Rattle.txn_buffer.proofs.Lists.{at_contains, contains_at}
use Rattle.history_core.specs.declared.event.Event.{Event}
use Rattle.history_core.specs.declared.event.Event.TheVariants.{Write, Commit}
use Rattle.history_core.specs.Events.{begun, defined, defined_name, names}
use Rattle.history_core.specs.Initial.{HoldsWholeRows, WritesInitially}
use Rattle.history_core.specs.Transactions.{IsOf, IsCommitted}
use Rattle.history_core.specs.Relations.{HasWritten, LastWrites}
use Rattle.history_core.specs.Chronicle.{Chronicle, IsLegalChronicle, IsFormedChronicle}
use Rattle.history_core.proofs.Greatest.{greatest}
use Rattle.history_core.proofs.Prefixes.{start_bounded}
use Rattle.history_core.proofs.Searches.{cell_cmp, cell_total, cell_exact}
use Rattle.history_core.proofs.TablesFew.{tables_defined}
use Rattle.statement_laws.specs.WholeRows.{IsField, KeepsRows}
use Rattle.statement_laws.proofs.Prefixed.{commits_after}
use Rattle.committed_rows.specs.Rows.{IsNewest, AreCommittedRows}
use Rattle.program_laws.proofs.Records.{WritesField}

-- a legal history without a row at first, whose transactions keep rows whole and write fields of its tables
pub record IsKept (history : Chronicle) : Type 0 where
  pub legal : IsLegalChronicle history
  pub initial : history.initial ≡ []
  pub keeps : KeepsRows history.tables history.events
  pub fits : AllByRecursion (WritesField history.tables) history.events

-- ---- lists

none_there : {A : Type 0} (x : A) → Contains [] x → ⊥
none_there x there = let h = there.1 in absurd (omega arith)

at_event : {X : Type 0} (P : X → Type 0) (xs : List X) (k : ℕ) (x : X) → AllByRecursion P xs → slice_get xs k ≡ Some x → P x
at_event P [] k x all is = cc
at_event P (y ∷ ys) zero x all is = let same : y ≡ x = cc in subst P same all.0
at_event P (y ∷ ys) (suc k) x all is = at_event P ys k x all.1 is

abbrev HasCell : List (Cell × Value) → Cell → Type 0
HasCell cells cell = (value : Value) × Contains cells (cell, value)

abbrev HasNot : List (Cell × Value) → Cell → Type 0
HasNot cells cell = (value : Value) → Contains cells (cell, value) → ⊥

has_later : (e : Cell × Value) (es : List (Cell × Value)) (cell : Cell) → HasCell es cell → HasCell (e ∷ es) cell
has_later e es cell has =
    let at = at_contains es (cell, has.0) has.1 in (has.0, contains_at (e ∷ es) (suc at.0) (cell, has.0) at.1)

has_not_later : (e : Cell × Value) (es : List (Cell × Value)) (cell : Cell) → (cell_cmp e.0 cell ≡ Equal → ⊥) → HasNot es cell → HasNot (e ∷ es) cell
has_not_later e es cell apart none value there = at (at_contains (e ∷ es) (cell, value) there)
  where
    at : (k : ℕ) × (slice_get (e ∷ es) k ≡ Some (cell, value)) → ⊥
    at (zero, is) =
        let same : e ≡ (cell, value) = cc in
        apart (subst (λ (c : Cell). cell_cmp c cell ≡ Equal) (sym (ap (λ (p : Cell × Value). p.0) same)) (tied_itself cell_total cell))
    at (suc k, is) = none value (contains_at es k (cell, value) is)

has_other : (e : Cell × Value) (es : List (Cell × Value)) (cell : Cell) → (cell_cmp e.0 cell ≡ Equal → ⊥) → HasCell es cell ⊎ HasNot es cell →
    HasCell (e ∷ es) cell ⊎ HasNot (e ∷ es) cell
has_other e es cell apart (inl has) = inl (has_later e es cell has)
has_other e es cell apart (inr none) = inr (has_not_later e es cell apart none)

has_first : (e : Cell × Value) (es : List (Cell × Value)) (cell : Cell) (o : Ordering) → cell_cmp e.0 cell ≡ o → HasCell es cell ⊎ HasNot es cell →
    HasCell (e ∷ es) cell ⊎ HasNot (e ∷ es) cell
has_first e es cell Equal is rest = inl (e.1, contains_at (e ∷ es) 0 (cell, e.1) (ap (λ (c : Cell). Some (c, e.1)) (cell_exact e.0 cell is)))
has_first e es cell Less is rest = has_other e es cell (λ same. let both : Less ≡ Equal = sym is ∙ same in cc) rest
has_first e es cell Greater is rest = has_other e es cell (λ same. let both : Greater ≡ Equal = sym is ∙ same in cc) rest

-- the list has the cell with some value, or with none
has_or_not : (cells : List (Cell × Value)) (cell : Cell) → HasCell cells cell ⊎ HasNot cells cell
has_or_not [] cell = inr (λ value there. none_there (cell, value) there)
has_or_not (e ∷ es) cell = has_first e es cell (cell_cmp e.0 cell) refl (has_or_not es cell)

-- ---- what the initial transaction wrote

-- no row is there
no_row : (initial : List (Cell × Value)) (table : ℕ) (key : Key) → initial ≡ [] → WritesInitially initial (Presence table key) (Flag true) → ⊥
no_row initial table key none (inl there) = none_there _ (subst (λ (cells : List (Cell × Value)). Contains cells (Presence table key, Flag true)) none there)
no_row initial table key none (inr absent) = let clash = absent.1 in cc

-- no field has a value
no_field : (initial : List (Cell × Value)) (table column : ℕ) (key : Key) (value : Value) → initial ≡ [] → value ≢ Unset →
    WritesInitially initial (Field table key column) value → ⊥
no_field initial table column key value none set (inl there) =
    none_there _ (subst (λ (cells : List (Cell × Value)). Contains cells (Field table key column, value)) none there)
no_field initial table column key value none set (inr absent) = set absent.1

-- ---- what a committed transaction wrote

abbrev CommitsValue : List Event → ℕ → Cell → Value → Type 0
CommitsValue events n cell value = IsCommitted events n × LastWrites events n cell value

row_written : (history : Chronicle) (table : ℕ) (key : Key) → IsKept history → (newest : IsNewest history (Presence table key) (Flag true)) →
    CommitsValue history.events newest.number (Presence table key) (Flag true)
row_written history table key kept newest = elim newest.writes [
  | inl first ↦ absurd (no_row history.initial table key kept.initial first.1)
  | inr own ↦ own
]

field_written : (history : Chronicle) (table column : ℕ) (key : Key) (value : Value) → IsKept history →
    (newest : IsNewest history (Field table key column) value) → value ≢ Unset → CommitsValue history.events newest.number (Field table key column) value
field_written history table column key value kept newest set = elim newest.writes [
  | inl first ↦ absurd (no_field history.initial table column key value kept.initial set first.1)
  | inr own ↦ own
]

-- a table that was defined is one of the history
defined_before : (events : List Event) (k : ℕ) → defined (take k events) ≤ defined events
defined_before events k =
    let whole : defined events ≡ defined (take k events) + defined (drop k events) =
    ap defined (sym (take-append-drop k events)) ∙ ap length (filter_map-append defined_name (take k events) (drop k events))
    ∙ length-append (names (take k events)) (names (drop k events)) in omega arith

formed_of : (history : Chronicle) → IsLegalChronicle history → IsFormedChronicle history
formed_of history legal = record { initial = legal.initial; formed = legal.legal.formed; tables = legal.tables }

row_known : (history : Chronicle) (table : ℕ) (key : Key) (n : ℕ) → IsKept history → LastWrites history.events n (Presence table key) (Flag true) →
    table < length history.tables
row_known history table key n kept last =
    let follows = (kept.legal.legal.formed last.place (Write last.session (Presence table key) (Flag true)) last.write.is).follows in
    let there = follows.1 in
    let before = defined_before history.events last.place in
    let all = tables_defined history (formed_of history kept.legal) in
    omega arith

-- a field that was written is one of its table
field_known : (history : Chronicle) (table column : ℕ) (key : Key) (value : Value) (n : ℕ) → IsKept history →
    LastWrites history.events n (Field table key column) value → IsField history.tables table column
field_known history table column key value n kept last =
    at_event (WritesField history.tables) history.events last.place (Write last.session (Field table key column) value) kept.fits last.write.is

-- a transaction that left the row there has written its fields
fields_written : (history : Chronicle) (table column : ℕ) (key : Key) (n : ℕ) → IsKept history → IsField history.tables table column →
    CommitsValue history.events n (Presence table key) (Flag true) → HasWritten history.events n (Field table key column)
fields_written history table column key n kept field (committed, last) =
    let before =
    commits_after history.events n last.place committed.place last.session committed.session (Presence table key) (Flag true) last.write committed.commit in
    let found =
    kept.keeps.whole n last.place committed.place last.session table column key (Commit committed.session) last.write committed.commit before tt field in
    record { place = found.place; session = found.session; value = found.value; write = found.write }

-- ---- the newest value

-- what was written has a last value
last_written : (events : List Event) (n : ℕ) (cell : Cell) → HasWritten events n cell → ((value : Value) → LastWrites events n cell value → ⊥) → ⊥
last_written events n cell written none =
    greatest (λ p. (s : ℕ) × ((v : Value) × IsOf events n p (Write s cell v))) (λ p. p) (length events)
    (λ p is. slice_get_within events p (Write is.0 cell is.1.0) is.1.1.is)
    written.place (written.session, (written.value, written.write))
    (λ p is last. none is.1.0 record {
      place = p;
      session = is.0;
      write = is.1.1;
      last = λ q s v of. last q (s, (v, of));
    })

-- a cell that a committed transaction wrote has a newest value, which is set
newest_there : (history : Chronicle) (cell : Cell) (n : ℕ) → IsKept history → IsCommitted history.events n → HasWritten history.events n cell →
    ((value : Value) → IsNewest history cell value → value ≢ Unset → ⊥) → ⊥
newest_there history cell n kept committed written none =
    greatest (λ m. IsCommitted history.events m × HasWritten history.events m cell) (λ m. m) (suc (begun history.events))
    (λ m is. let most = start_bounded history.events m is.0.session is.0.commit.start is.0.commit.starts in omega arith)
    n (committed, written)
    (λ m is most. last_written history.events m cell is.1 (λ value last.
    none value
    (record {
      number = m;
      writes = inr (is.0, last);
      newest = λ other writes. elim writes [ inl first ↦ omega (arith, first) | inr own ↦ most other own ];
    })
    (kept.legal.legal.formed last.place (Write last.session cell value) last.write.is).follows.2.0))

-- ---- all rows

pub rows_whole : (history : Chronicle) (cells : List (Cell × Value)) → IsKept history → AreCommittedRows history cells → HoldsWholeRows history.tables cells
rows_whole history cells kept are = record {
  known = λ table key there.
      let newest = ((are.exact (Presence table key) (Flag true)).0 there).1 in
      row_known history table key newest.number kept (row_written history table key kept newest).1;
  whole = λ table key of_table column there is within apart.
      let newest = ((are.exact (Presence table key) (Flag true)).0 there).1 in
      let own = row_written history table key kept newest in
      let field : IsField history.tables table column = record { of_table = of_table; is = is; within = within; apart = apart } in
      elim (has_or_not cells (Field table key column)) [
        | inl has ↦ has
        | inr none ↦
            absurd (newest_there history (Field table key column) newest.number kept own.0 (fields_written history table column key newest.number kept field own)
            (λ value last set. none value ((are.exact (Field table key column) value).1 (newest, last, set))))
      ];
  fields = λ table key of_table column value there is.
      let stands = (are.exact (Field table key column) value).0 there in
      let own = field_written history table column key value kept stands.1 stands.2 in
      let field = field_known history table column key value stands.1.number kept own.1 in
      let both : Some field.of_table ≡ Some of_table = sym field.is ∙ is in
      let same : field.of_table ≡ of_table = cc in
      subst (λ (t : Table). (column < length t.columns) × (column ≢ t.key)) same (field.within, field.apart);
}
