-- No read shows a cell without a value, where rows are kept whole.
use Rattle.std.proofs.Common.{◌≡◌, ◌≢◌, ℕ, ◌<◌, ◌≤◌, List, [], Some, true, length, take, arith, refl, sym, ◌∙◌, subst, inl, inr}
use Rattle.std.specs.List.{slice_get}
use Rattle.std.proofs.lemmas.Option.{slice_get_within, get_or_from_slice_get}
use Rattle.graph_base.specs.Order.{place_of}
use Rattle.graph_base.proofs.Places.{place_of-first}
use Rattle.cell_base.specs.declared.level.Level.{Level}
use Rattle.cell_base.specs.declared.level.Level.TheVariants.{Rc, Ra, Cc}
use Rattle.cell_base.specs.declared.cell.Cell.{Cell}
use Rattle.cell_base.specs.declared.cell.Cell.TheVariants.{Presence, Field}
use Rattle.cell_base.specs.declared.key.Key.{Key}
use Rattle.cell_base.specs.declared.value.Value.{Value}
use Rattle.cell_base.specs.declared.value.Value.TheVariants.{Unset, Flag}
use Rattle.sql_tree.specs.declared.table.Table.{Table}
use Rattle.txn_buffer.specs.Buffer.{IsAbsent}
use Rattle.history_core.specs.declared.event.Event.{Event}
use Rattle.history_core.specs.declared.event.Event.TheVariants.{Open, Close, Define, Look, Begin, Scan, Read, Own, Write, Commit, Rollback, Show}
use Rattle.history_core.specs.Initial.{IsInitialState, HoldsWholeRows, WritesInitially}
use Rattle.history_core.specs.Events.{session_in}
use Rattle.history_core.specs.Transactions.{IsOf, IsCommitted}
use Rattle.history_core.specs.Relations.{HasWritten, LastWrites, Writes, WritesValue, Reads, IsVisibleAt, Demands, Meets}
use Rattle.history_core.specs.Legal.{IsLegal, IsFormed}
use Rattle.history_core.proofs.Places.{runs_of}
use Rattle.history_core.proofs.Prefixes.{start_positive, sound_of, legal_consistent}
use Rattle.history_core.proofs.Offers.{pending_unique}
use Rattle.history_core.proofs.Taken.{legal_take}
use Rattle.statement_laws.specs.WholeRows.{IsField, ShowsRow, KeepsRows, IsSet}
use Rattle.statement_laws.proofs.Prefixed.{of_taken, of_into, of_pending, pending_before, commits_after}

-- what a transaction has written has a value
written_set :
    (initial : List (Cell × Value)) (events : List Event) (n k : ℕ) (cell : Cell) (value : Value) → IsFormed initial events →
    LastWrites (take n events) k cell value → value ≢ Unset
written_set initial events n k cell value formed last =
    let write = of_taken events n k last.place (Write last.session cell value) last.write in
    (formed last.place (Write last.session cell value) write.1.is).follows.2.0

-- no order that meets a history has a transaction before the initial one
none_first : (events : List Event) (order : List ℕ) → Meets events order → (a : ℕ) → Demands events a 0 → ⊥
none_first events order meets a demands =
    let within : 0 < length order = slice_get_within order 0 0 meets.first in
    let low : place_of order 0 ≤ 0 = place_of-first order 0 0 0 within (get_or_from_slice_get order 0 0 0 meets.first) in
    let less = meets.demands a 0 demands in
    omega arith

-- a read lets the later ones of its transaction see its source, at each level
sees_source :
    (level : Level) (events : List Event) (r p q w : ℕ) (cell : Cell) → q < p → Reads events r q cell w → IsVisibleAt level events r p w
sees_source Rc events r p q w cell before reads = record { earlier = q; cell = cell; below = before; reads = reads }
sees_source Ra events r p q w cell before reads = inr record { place = q; cell = cell; reads = reads }
sees_source Cc events r p q w cell before reads = record { between = []; is = inr record { place = q; cell = cell; reads = reads } }

-- so no later read takes from the initial transaction a cell that the source wrote
not_overtaken :
    (initial : List (Cell × Value)) (events : List Event) → IsLegal initial events → (r p q w : ℕ) (cell other : Cell) → q < p → 0 < w →
    Writes events w cell → Reads events r q other w → Reads events r p cell 0 → ⊥
not_overtaken initial events legal r p q w cell other before positive writes reads late =
    let consistent = legal_consistent initial events legal in
    let starts = reads.of_reader.starts in
    none_first events consistent.0 consistent.1 w record {
      reader = r;
      place = p;
      cell = cell;
      reads = late;
      other = λ same. omega arith;
      writes = writes;
      visible = record {
        level = starts.level;
        runs = runs_of events r (session_in reads.event) reads.of_reader.start starts;
        sees = sees_source starts.level events r p q w other before reads;
      };
    }

-- a legal history in which rows are kept whole
pub record IsKept (tables : List Table) (initial : List (Cell × Value)) (events : List Event) : Type 0 where
  pub state : IsInitialState initial
  pub legal : IsLegal initial events
  pub rows : HoldsWholeRows tables initial
  pub keeps : KeepsRows tables events

-- a row that the initial state has is whole there
initial_row :
    (tables : List Table) (initial : List (Cell × Value)) (events : List Event) → IsKept tables initial events → (table column : ℕ) (key : Key) →
    IsField tables table column → WritesInitially initial (Presence table key) (Flag true) → IsAbsent initial (Field table key column) → ⊥
initial_row tables initial events kept table column key field (inl there) absent =
    let has = kept.rows.whole table key field.of_table column there field.is field.within field.apart in absent has.0 has.1
initial_row tables initial events kept table column key field (inr other) absent = cc (other.1)

-- a committed transaction that left the row there has written its fields
committed_row :
    (tables : List Table) (initial : List (Cell × Value)) (events : List Event) → IsKept tables initial events → (n w table column : ℕ) (key : Key) →
    IsField tables table column → IsCommitted (take n events) w → LastWrites (take n events) w (Presence table key) (Flag true) →
    Writes events w (Field table key column)
committed_row tables initial events kept n w table column key field committed last =
    let write = of_taken events n w last.place (Write last.session (Presence table key) (Flag true)) last.write in
    let commit = of_taken events n w committed.place (Commit committed.session) committed.commit in
    let before : last.place < committed.place =
    commits_after events w last.place committed.place last.session committed.session (Presence table key) (Flag true) write.1 commit.1 in
    let found =
    kept.keeps.whole w last.place committed.place last.session table column key (Commit committed.session) write.1 commit.1 before tt field in
    inr (
      record { place = committed.place; session = committed.session; commit = commit.1 },
      record { place = found.place; session = found.session; value = found.value; write = found.write },
    )

-- a transaction that reads back that it wrote the row as there has written its fields
own_row :
    (tables : List Table) (initial : List (Cell × Value)) (events : List Event) → IsKept tables initial events → (k p q s table column : ℕ) (key : Key) →
    IsField tables table column → q < p → IsOf events k q (Own s (Presence table key) (Flag true)) → HasWritten (take p events) k (Field table key column)
own_row tables initial events kept k p q s table column key field before of =
    let follows = (kept.legal.formed q (Own s (Presence table key) (Flag true)) of.is).follows in
    let pending = pending_before events k q (Own s (Presence table key) (Flag true)) of in
    let sound = sound_of initial (take q events) (legal_take initial events q kept.legal).formed in
    let same : follows.0 ≡ k = pending_unique (take q events) sound s follows.0 k follows.1 pending in
    let last = follows.2 in
    let write = of_taken events q follows.0 last.place (Write last.session (Presence table key) (Flag true)) last.write in
    let mine : IsOf events k last.place (Write last.session (Presence table key) (Flag true)) =
    subst (λ (m : ℕ). IsOf events m last.place (Write last.session (Presence table key) (Flag true))) same write.1 in
    let found =
    kept.keeps.whole k last.place q last.session table column key (Own s (Presence table key) (Flag true)) mine of write.0 tt field in
    record {
      place = found.place;
      session = found.session;
      value = found.value;
      write = of_into events p k found.place (Write found.session (Field table key column) found.value)
          (let h = found.below in omega arith) found.write;
    }

-- a row that the history was shown to have
external_row :
    (tables : List Table) (initial : List (Cell × Value)) (events : List Event) → IsKept tables initial events → (k p q w table column : ℕ) (key : Key) →
    IsField tables table column → q < p → Reads events k q (Presence table key) w → WritesValue initial (take q events) w (Presence table key) (Flag true) →
    IsAbsent initial (Field table key column) → Reads events k p (Field table key column) 0 → ⊥
external_row tables initial events kept k p q w table column key field before reads (inl first) absent late =
    initial_row tables initial events kept table column key field first.1 absent
external_row tables initial events kept k p q w table column key field before reads (inr own) absent late =
    let writes = committed_row tables initial events kept q w table column key field own.0 own.1 in
    let positive : 0 < w = start_positive (take q events) w own.0.session own.0.commit.start own.0.commit.starts in
    not_overtaken initial events kept.legal k p q w (Field table key column) (Presence table key) before positive writes reads late

-- a field of a row that was shown to be there isn't read as absent
not_half :
    (tables : List Table) (initial : List (Cell × Value)) (events : List Event) → IsKept tables initial events → (k p s table column : ℕ) (key : Key) →
    IsField tables table column → IsAbsent initial (Field table key column) → Reads events k p (Field table key column) 0 →
    (HasWritten (take p events) k (Field table key column) → ⊥) → (q : ℕ) (e : Event) → q < p → IsOf events k q e → ShowsRow e table key → ⊥
not_half tables initial events kept k p s table column key field absent late unwritten q (Read t cell source count word value) before of shows =
    let of_presence : IsOf events k q (Read t (Presence table key) source count word (Flag true)) =
    subst (λ (v : Value). IsOf events k q (Read t (Presence table key) source count word v)) shows.1
    (subst (λ (c : Cell). IsOf events k q (Read t c source count word value)) shows.0 of) in
    let event : Event = Read t (Presence table key) source count word (Flag true) in
    external_row tables initial events kept k p q source table column key field before
    (record { event = event; of_reader = of_presence; gives = (refl, refl) })
    ((kept.legal.formed q event of_presence.is).follows.3) absent late
not_half tables initial events kept k p s table column key field absent late unwritten q (Own t cell value) before of shows =
    unwritten (own_row tables initial events kept k p q t table column key field before
    (subst (λ (v : Value). IsOf events k q (Own t (Presence table key) v)) shows.1
    (subst (λ (c : Cell). IsOf events k q (Own t c value)) shows.0 of)))
not_half tables initial events kept k p s table column key field absent late unwritten q _ before of shows = absurd shows

-- what the initial transaction wrote is read with a value
initial_set :
    (tables : List Table) (initial : List (Cell × Value)) (events : List Event) → IsKept tables initial events → (p s count word : ℕ) (cell : Cell) (value : Value) →
    slice_get events p ≡ Some (Read s cell 0 count word value) → WritesInitially initial cell value → value ≢ Unset
initial_set tables initial events kept p s count word (Presence table key) value is (inl there) =
    let shown : value ≡ Flag true = kept.state.fits (Presence table key) value there in λ unset. cc (sym shown ∙ unset)
initial_set tables initial events kept p s count word (Presence table key) value is (inr other) = λ unset. cc (sym (other.1) ∙ unset)
initial_set tables initial events kept p s count word (Field table key column) value is (inl there) =
    (kept.state.fits (Field table key column) value there).1.0
initial_set tables initial events kept p s count word (Field table key column) value is (inr other) =
    let event : Event = Read s (Field table key column) 0 count word value in
    let follows = (kept.legal.formed p event is).follows in
    let k : ℕ = follows.0.0 in
    let of : IsOf events k p event = of_pending events k p event is follows.0.1 in
    let following = kept.keeps.following k p s table column 0 count word key value of in
    let shown = following.1 in
    absurd (not_half tables initial events kept k p s table column key following.0 other.0
    (record { event = event; of_reader = of; gives = (refl, refl) })
    (λ written. follows.1 record { number = k; pending = follows.0.1; written = written })
    shown.earlier shown.event shown.before shown.of_same shown.shows)

-- a read from the history has a value
read_set :
    (tables : List Table) (initial : List (Cell × Value)) (events : List Event) → IsKept tables initial events → (p s source count word : ℕ) (cell : Cell) (value : Value) →
    slice_get events p ≡ Some (Read s cell source count word value) → WritesValue initial (take p events) source cell value → value ≢ Unset
read_set tables initial events kept p s source count word cell value is (inl first) =
    initial_set tables initial events kept p s count word cell value
    (subst (λ (w : ℕ). slice_get events p ≡ Some (Read s cell w count word value)) first.0 is) first.1
read_set tables initial events kept p s source count word cell value is (inr own) = written_set initial events p source cell value kept.legal.formed own.1

pub all_set :
    (tables : List Table) (initial : List (Cell × Value)) (events : List Event) → IsKept tables initial events → (p : ℕ) (e : Event) →
    slice_get events p ≡ Some e → IsSet e
all_set tables initial events kept p (Read s cell source count word value) is =
    read_set tables initial events kept p s source count word cell value is (kept.legal.formed p (Read s cell source count word value) is).follows.3
all_set tables initial events kept p (Own s cell value) is =
    let follows = (kept.legal.formed p (Own s cell value) is).follows in
    written_set initial events p follows.0 cell value kept.legal.formed follows.2
all_set tables initial events kept p (Open s) is = tt
all_set tables initial events kept p (Close s) is = tt
all_set tables initial events kept p (Define s name) is = tt
all_set tables initial events kept p (Look s count) is = tt
all_set tables initial events kept p (Begin s level) is = tt
all_set tables initial events kept p (Scan s table keys) is = tt
all_set tables initial events kept p (Write s cell value) is = tt
all_set tables initial events kept p (Commit s) is = tt
all_set tables initial events kept p (Rollback s) is = tt
all_set tables initial events kept p (Show s number) is = tt
