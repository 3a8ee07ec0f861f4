-- How a pass goes on standing for the events, with a read or a write of a cell after them.
use Rattle.std.proofs.Common.{◌≡◌, ℕ, ◌+◌, ◌-◌, ◌<◌, ◌≤◌, Bool, true, List, [], ◌∷◌, ◌++◌, Option, Some, None, length, arith, refl, ap, sym, ◌∙◌, subst, inl, inr, ◌⊎◌}
use Rattle.std.specs.List.{Contains, slice_get}
use Rattle.std.specs.List.Sorted.{IsStrictlyIncreasing}
use Rattle.std.specs.Option.{IfSome}
use Rattle.txn_buffer.specs.Buffer.{IsAbsent}
use Rattle.txn_buffer.proofs.Lists.{slice_get_push_cases}
use Rattle.cell_base.specs.declared.cell.Cell.{Cell}
use Rattle.cell_base.specs.declared.value.Value.{Value}
use Rattle.cell_base.specs.declared.value.Value.TheVariants.{Unset}
use Rattle.history_core.specs.declared.event.Event.{Event}
use Rattle.history_core.specs.declared.event.Event.TheVariants.{Read, Own, Write, Commit}
use Rattle.history_core.specs.Events.{opened, names, defined_name, table_of}
use Rattle.history_core.specs.Initial.{IsStorable}
use Rattle.history_core.specs.Transactions.{IsPending, IsCommitted}
use Rattle.history_core.specs.Relations.{HasWritten, LastWrites, WritesValue}
use Rattle.history_core.specs.Legal.{IsDefined}
use Rattle.history_core.proofs.Next.{pending_bounded}
use Rattle.history_core.proofs.Offers.{pending_unique}
use Rattle.history_core.proofs.Prefixes.{IsSound, Contains-from_slice_get}
use Rattle.history_core.proofs.SessionLemmas.{IsPlain}
use Rattle.cell_writers.specs.declared.cell_note.CellNote.{CellNote}
use Rattle.cell_writers.specs.declared.cell_note.CellNotes.{CellNotes}
use Rattle.cell_writers.specs.declared.cell_numbers.CellNumbers.{CellNumbers}
use Rattle.cell_writers.specs.Numbered.{AreNumbered, AreNumberedSo, TakesCell, cell_in}
use Rattle.cell_writers.specs.Pairs.{Pairs, get}
use Rattle.cell_writers.proofs.Taken.{takes_count, takes_kept, takes_numbered, takes_unique}
use Rattle.order_test.specs.Glance.{HoldsLast, IsScan}
use Rattle.order_test.proofs.GlanceLemmas.{last_still, keeps_still}
use Rattle.order_test.proofs.PastSteps.{sound_from}
use Rattle.order_test.proofs.Taken.{source_apart, source_bounded}
use Rattle.history_check.specs.Rules.{IsRight}
use Rattle.history_check.specs.Notes.{StandsForSessionNotes, StandsForPendingWrites, StandsForCommits, IsLastWriteAt, IsNoteOf, AreNotesOf, AreCellNotes, IsChangedTo, SetsPlaceAt}
use Rattle.history_check.specs.declared.session_note.SessionNote.{SessionNote}
use Rattle.history_check.specs.declared.pending_writes.PendingWrites.{PendingWrites}
use Rattle.history_check.proofs.CellSteps.{cells_other, cells_write, never_written}
use Rattle.history_check.proofs.CommitLemmas.{commits_other}
use Rattle.history_check.proofs.Committed.{candidates_of}
use Rattle.history_check.proofs.PendingLemmas.{pending_other, pending_write}
use Rattle.history_check.proofs.SessionNoteLemmas.{session_notes_plain, plain_read, plain_own, plain_write}
use Rattle.history_check.proofs.Verdicts.{read_right, own_right, write_right}
use Rattle.history_check.proofs.WriteLemmas.{last_is, value_writes}
use Rattle.right_logs.specs.declared.pass.Pass.{Pass}
use Rattle.right_logs.specs.declared.open_reads.ReadNote.{ReadNote}
use Rattle.right_logs.specs.Accesses.{GivesLast, GivesValue, IsClearRead, MayTouch}
use Rattle.right_logs.specs.Seats.{IsPendingIn}
use Rattle.right_logs.specs.Passes.{HaveValues, StandsForSights, StandsFor, Goes, Stands}
use Rattle.right_logs.proofs.Still.{pending_from, session_in_place, right_push, settled_right, sessions_right, room_right, room_still, names_still, values_push, no_scan_push}
use Rattle.right_logs.proofs.Sights.{SameSights, ReadsSights, KeepsCells, sights_still, sights_read}

-- ---- the notes of the cells, once the cell of the next event has one

-- what no transaction has written has a note that says nothing
blank_for :
    (events : List Event) (cell : Cell) (note : CellNote) → ((number : ℕ) → HasWritten events number cell → ⊥) → note.places ≡ [] → note.committed ≡ [] → IsNoteOf events cell note
blank_for events cell note never no_place none = record {
  sound = λ number place is.
      let nothing : get note.places number ≡ None = ap (λ (ps : Pairs). get ps number) no_place in
      let both : None ≡ Some place = sym nothing ∙ is in cc;
  whole = λ number written. absurd (never number written);
  ascending = subst IsStrictlyIncreasing (sym none) (λ k within. absurd (omega arith));
  exact = λ number. (
    λ there. let nothing = subst (λ (ns : List ℕ). Contains ns number) none there in let within = nothing.1 in absurd (omega arith),
    λ both. absurd (elim both.1 [ inl initial ↦ let positive = both.0 in omega arith | inr own ↦ never number own.1 ]),
  );
}

pub notes_taken :
    (events : List Event) (old new : CellNotes) (cell : Cell) (at : ℕ) → AreNumbered events old.numbers → TakesCell old cell at new → AreCellNotes events old → AreCellNotes events new
notes_taken events old new cell at numbered takes are = record {
  count = takes_count old new cell at takes are.count;
  each = λ i q note at_cell at_note. elim takes.adds [
    | inl same ↦
        are.each i q note (subst (λ (cells : List Cell). slice_get cells i ≡ Some q) same.0 at_cell) (subst (λ (notes : List CellNote). slice_get notes i ≡ Some note) same.1 at_note)
    | inr fresh ↦
        let blank : CellNote = fresh.1.1.0 in
        let count = are.count in
        elim (slice_get_push_cases old.numbers.cells.keys cell i q (subst (λ (cells : List Cell). slice_get cells i ≡ Some q) fresh.0 at_cell)) [
          | inl old_cell ↦
              elim (slice_get_push_cases old.notes.items blank i note (subst (λ (notes : List CellNote). slice_get notes i ≡ Some note) fresh.1.1.1.1.1 at_note)) [
                | inl old_note ↦ are.each i q note old_cell.1 old_note.1
                | inr new_note ↦ let low = old_cell.0 in let high = new_note.0 in absurd (omega arith)
              ]
          | inr new_cell ↦
              elim (slice_get_push_cases old.notes.items blank i note (subst (λ (notes : List CellNote). slice_get notes i ≡ Some note) fresh.1.1.1.1.1 at_note)) [
                | inl old_note ↦ let high = new_cell.0 in let low = old_note.0 in absurd (omega arith)
                | inr new_note ↦
                    let never : (number : ℕ) → HasWritten events number cell → ⊥ =
                    never_written events cell old.numbers numbered (λ n is. fresh.1.0 (Contains-from_slice_get old.numbers.cells.keys n cell is))
                    in
                    subst (λ (n : CellNote). IsNoteOf events q n) new_note.1
                    (subst (λ (x : Cell). IsNoteOf events x blank) new_cell.1 (blank_for events cell blank never fresh.1.1.1.0 fresh.1.1.1.1.0))
              ]
        ]
  ];
}

-- the note at the number of the cell is that of the cell
note_at :
    (events : List Event) (old new : CellNotes) (cell : Cell) (at : ℕ) (note : CellNote) → AreNumbered events old.numbers → TakesCell old cell at new → AreCellNotes events old →
    slice_get new.notes.items at ≡ Some note → IsNoteOf events cell note
note_at events old new cell at note numbered takes are is = (notes_taken events old new cell at numbered takes are).each at cell note takes.is is

-- ---- what the notes show of a read

gives_last :
    (events : List Event) (k : ℕ) (cell : Cell) (v : Value) (note : CellNote) (values : List Value) → IsNoteOf events cell note → HaveValues events values → GivesLast note values k v →
    LastWrites events k cell v
gives_last events k cell v note values noted have gives =
    let write : IsLastWriteAt events k cell gives.place = noted.sound k gives.place gives.last in
    let both : Some write.value ≡ Some v = sym (have.each gives.place write.session cell write.value write.write.is) ∙ gives.written in
    let same : write.value ≡ v = cc in
    last_is events k cell write.value v same (record { place = gives.place; session = write.session; write = write.write; last = write.last })

committed_is : (events : List Event) (committed : List Bool) (w : ℕ) → StandsForCommits events committed → 0 < w → slice_get committed (w - 1) ≡ Some true → IsCommitted events w
committed_is events committed w commits positive is =
    let number : w - 1 + 1 ≡ w = omega arith in
    subst (λ (n : ℕ). IsCommitted events n) number ((commits.each (w - 1) true is).0 refl)

source_settled :
    (events : List Event) (cell : Cell) (w : ℕ) (v : Value) (note : CellNote) (values : List Value) (committed : List Bool) → StandsForCommits events committed →
    GivesValue note values committed cell w v → (w ≡ 0) ⊎ IsCommitted events w
source_settled events cell w v note values committed commits gives = elim gives [
  | inl initial ↦ inl initial.0
  | inr later ↦ inr (committed_is events committed w commits later.0 later.1.0)
]

none_initially : (cell : Cell) → IsAbsent [] cell
none_initially cell value there = let within = there.1 in absurd (omega arith)

writes_value :
    (events : List Event) (cell : Cell) (w : ℕ) (v : Value) (note : CellNote) (values : List Value) (committed : List Bool) → IsNoteOf events cell note → HaveValues events values →
    StandsForCommits events committed → GivesValue note values committed cell w v → WritesValue [] events w cell v
writes_value events cell w v note values committed noted have commits gives = elim gives [
  | inl initial ↦ inl (initial.0, inr (none_initially cell, initial.1))
  | inr later ↦ inr (committed_is events committed w commits later.0 later.1.0, gives_last events w cell v note values noted have later.1.1)
]

-- ---- that the event is right

read_is_right :
    (events : List Event) → IsSound events → (s k : ℕ) (cell : Cell) (w n u : ℕ) (v : Value) (note : CellNote) (values : List Value) (committed : List Bool) → IsPending events k s →
    IsDefined events (table_of cell) → IsNoteOf events cell note → HaveValues events values → StandsForCommits events committed → IsClearRead note values committed cell k w n v →
    IsRight [] events (Read s cell w n u v)
read_is_right events sound s k cell w n u v note values committed pending table noted have commits clear =
    let writes : WritesValue [] events w cell v = writes_value events cell w v note values committed noted have commits clear.gives in
    read_right [] events s cell w n u v
    ((k, pending), table, source_bounded events w (source_settled events cell w v note values committed commits clear.gives))
    (λ wrote. noted.whole k (subst (λ (t : ℕ). HasWritten events t cell) (pending_unique events sound s wrote.number k wrote.pending pending) wrote.written) clear.external)
    (value_writes [] events w cell v writes) writes (clear.some, (length note.committed + 1, candidates_of events cell note noted, clear.upto))

own_is_right :
    (events : List Event) (s k : ℕ) (cell : Cell) (v : Value) → IsPending events k s → IsDefined events (table_of cell) → LastWrites events k cell v → IsRight [] events (Own s cell v)
own_is_right events s k cell v pending table last =
    own_right [] events s cell v ((k, pending), table)
    (record { number = k; pending = pending; written = record { place = last.place; session = last.session; value = v; write = last.write } })
    (k, pending, last)

write_is_right :
    (events : List Event) (s k : ℕ) (cell : Cell) (v : Value) → IsPending events k s → IsDefined events (table_of cell) → IsStorable v → IsRight [] events (Write s cell v)
write_is_right events s k cell v pending table storable = write_right [] events s cell v ((k, pending), table, storable)

-- ---- all of it

-- an event that reads or writes a cell
record IsAccess (e : Event) (cell : Cell) : Type 0 where
  of : cell_in e ≡ Some cell
  plain : IsPlain e
  commits : (s : ℕ) → e ≡ Commit s → ⊥
  scans : IsScan e → ⊥
  defines : defined_name e ≡ None

read_accesses : (s : ℕ) (cell : Cell) (w n u : ℕ) (v : Value) → IsAccess (Read s cell w n u v) cell
read_accesses s cell w n u v = record { of = refl; plain = plain_read s cell w n u v; commits = λ t same. cc; scans = λ scan. scan; defines = refl }

own_accesses : (s : ℕ) (cell : Cell) (v : Value) → IsAccess (Own s cell v) cell
own_accesses s cell v = record { of = refl; plain = plain_own s cell v; commits = λ t same. cc; scans = λ scan. scan; defines = refl }

write_accesses : (s : ℕ) (cell : Cell) (v : Value) → IsAccess (Write s cell v) cell
write_accesses s cell v = record { of = refl; plain = plain_write s cell v; commits = λ t same. cc; scans = λ scan. scan; defines = refl }

-- nothing is noted of sessions, tables and commits
pub record KeepsRest (old new : Pass) : Type 0 where
  pub session_notes : new.session_notes.items ≡ old.session_notes.items
  pub committed : new.committed.items ≡ old.committed.items
  pub tables : new.names.items ≡ old.names.items
  pub last : new.last.items ≡ old.last.items

access_goes :
    (order places : List ℕ) (events : List Event) (e : Event) (cell : Cell) (at : ℕ) (old new : Pass) (taken : CellNotes) → IsAccess e cell → IsRight [] events e → KeepsRest old new →
    TakesCell old.cells cell at taken → new.cells.numbers ≡ taken.numbers → AreNotesOf (events ++ e ∷ []) taken.numbers.cells.keys new.cells.notes.items →
    StandsForPendingWrites (events ++ e ∷ []) new.pending.items → HaveValues (events ++ e ∷ []) new.values → StandsForSights places (events ++ e ∷ []) new →
    StandsFor order places events old → StandsFor order places (events ++ e ∷ []) new
access_goes order places events e cell at old new taken access right rest takes numbers notes pending values sights stands =
    let numbered : AreNumberedSo (events ++ e ∷ []) taken.numbers = takes_numbered events e old.cells taken cell at access.of takes stands.numbered in
    let named : names (events ++ e ∷ []) ≡ names events = names_still events e access.defines in
    let named_so : new.names.items ≡ names (events ++ e ∷ []) = rest.tables ∙ stands.names_are ∙ sym named in
    let room : length old.last.items ≡ opened (events ++ e ∷ []) + 1 = room_still events e old.last.items access.plain.opens_none stands.room in
    record {
      placed = stands.placed;
      right = right_push events e stands.right right;
      settled = settled_right events e stands.settled right;
      sessions = sessions_right events e stands.sessions right;
      session_notes =
          subst (λ (ns : List SessionNote). StandsForSessionNotes (events ++ e ∷ []) ns) (sym rest.session_notes)
          (session_notes_plain events e old.session_notes.items access.plain stands.session_notes);
      pending = pending;
      commits =
          subst (λ (flags : List Bool). StandsForCommits (events ++ e ∷ []) flags) (sym rest.committed)
          (commits_other events e old.committed.items access.plain.no_begin access.commits stands.commits);
      names_are = named_so;
      tables = ap length named_so;
      numbered = subst (λ (ns : CellNumbers). AreNumberedSo (events ++ e ∷ []) ns) (sym numbers) numbered;
      cells = subst (λ (ns : CellNumbers). AreNotesOf (events ++ e ∷ []) ns.cells.keys new.cells.notes.items) (sym numbers) notes;
      values = values;
      room = ap length rest.last ∙ room;
      last =
          subst (λ (xs : List ℕ). HoldsLast (events ++ e ∷ []) xs) (sym rest.last)
          (last_still events e old.last.items access.plain.begins_none (room_right events e old.last.items stands.sessions right room) stands.last);
      keeps = keeps_still events e order access.plain.begins_none stands.keeps;
      no_scan = no_scan_push events e access.scans stands.no_scan;
      sights = sights;
    }

-- the table of the cell is defined
table_is : (order places : List ℕ) (events : List Event) (pass : Pass) (cell : Cell) → StandsFor order places events pass → table_of cell < length pass.names.items → IsDefined events (table_of cell)
table_is order places events pass cell stands less = let same = stands.tables in omega arith

pub read_goes :
    (places : List ℕ) (s k : ℕ) (cell : Cell) (at w n u : ℕ) (v : Value) (old new : Pass) (note : CellNote) (seen : ReadNote) → MayTouch old s cell k → TakesCell old.cells cell at new.cells →
    slice_get new.cells.notes.items at ≡ Some note → IsClearRead note old.values old.committed.items cell k w n v → KeepsRest old new → new.pending.items ≡ old.pending.items →
    new.values ≡ old.values ++ Unset ∷ [] → seen.cell ≡ at → seen.source ≡ w → seen.reader ≡ k → seen.place ≡ length old.values → ReadsSights s k w seen old new →
    Goes places (Read s cell w n u v) old new
read_goes places s k cell at w n u v old new note seen may takes is clear rest lists pushed number from reader last reads order events stands =
    let e : Event = Read s cell w n u v in
    let sound = sound_from events stands.settled in
    let pending : IsPending events k s = pending_from events old.session_notes.items s k stands.session_notes may.pending in
    let settled = source_settled events cell w v note old.values old.committed.items stands.commits clear.gives in
    let bounded = source_bounded events w settled in
    let right : IsRight [] events e =
    read_is_right events sound s k cell w n u v note old.values old.committed.items pending (table_is order places events old cell stands may.table)
    (note_at events old.cells new.cells cell at note stands.numbered.are takes stands.cells is) stands.values stands.commits clear
    in
    access_goes order places events e cell at old new new.cells (read_accesses s cell w n u v) right rest takes refl
    (cells_other events e new.cells.numbers.cells.keys new.cells.notes.items tt (notes_taken events old.cells new.cells cell at stands.numbered.are takes stands.cells))
    (subst (λ (ls : List PendingWrites). StandsForPendingWrites (events ++ e ∷ []) ls) (sym lists) (pending_other events e old.pending.items tt stands.pending))
    (values_push events e old.values new.values Unset pushed (λ t q x same. absurd (no_write t q x same)) stands.values)
    (sights_read places events s k cell w n u v old new seen (right_push events e stands.right right) sound pending (source_apart events k s w pending settled) bounded from reader
    (last ∙ stands.values.count) (subst (λ (i : ℕ). slice_get new.cells.numbers.cells.keys i ≡ Some cell) (sym number) takes.is) reads
    (takes_kept old.cells new.cells cell at takes) stands.sights)
    stands
  where
    no_write : (t : ℕ) (q : Cell) (x : Value) → Read s cell w n u v ≡ Write t q x → ⊥
    no_write t q x same = cc

pub own_goes :
    (places : List ℕ) (s k : ℕ) (cell : Cell) (at : ℕ) (v : Value) (old new : Pass) (note : CellNote) → MayTouch old s cell k → TakesCell old.cells cell at new.cells →
    slice_get new.cells.notes.items at ≡ Some note → GivesLast note old.values k v → KeepsRest old new → new.pending.items ≡ old.pending.items →
    new.values ≡ old.values ++ Unset ∷ [] → SameSights old new → Goes places (Own s cell v) old new
own_goes places s k cell at v old new note may takes is gives rest lists pushed same_sights order events stands =
    let e : Event = Own s cell v in
    let pending : IsPending events k s = pending_from events old.session_notes.items s k stands.session_notes may.pending in
    let noted = note_at events old.cells new.cells cell at note stands.numbered.are takes stands.cells is in
    let right : IsRight [] events e =
    own_is_right events s k cell v pending (table_is order places events old cell stands may.table) (gives_last events k cell v note old.values noted stands.values gives)
    in
    access_goes order places events e cell at old new new.cells (own_accesses s cell v) right rest takes refl
    (cells_other events e new.cells.numbers.cells.keys new.cells.notes.items tt (notes_taken events old.cells new.cells cell at stands.numbered.are takes stands.cells))
    (subst (λ (ls : List PendingWrites). StandsForPendingWrites (events ++ e ∷ []) ls) (sym lists) (pending_other events e old.pending.items tt stands.pending))
    (values_push events e old.values new.values Unset pushed (λ t q x same. absurd (no_write t q x same)) stands.values)
    (sights_still places events e old new (right_push events e stands.right right) tt refl same_sights (takes_kept old.cells new.cells cell at takes) stands.sights) stands
  where
    no_write : (t : ℕ) (q : Cell) (x : Value) → Own s cell v ≡ Write t q x → ⊥
    no_write t q x same = cc

pub write_goes :
    (places : List ℕ) (s k : ℕ) (cell : Cell) (at place : ℕ) (v : Value) (old new : Pass) (taken : CellNotes) → MayTouch old s cell k → IsStorable v → TakesCell old.cells cell at taken →
    new.cells.numbers ≡ taken.numbers → place ≡ length old.values → SetsPlaceAt at k place taken.notes.items new.cells.notes.items →
    IsChangedTo old.pending.items s (λ before after. after ≡ before ++ place ∷ []) new.pending.items → new.values ≡ old.values ++ v ∷ [] → KeepsRest old new → SameSights old new →
    Goes places (Write s cell v) old new
write_goes places s k cell at place v old new taken may storable takes numbers last sets changed pushed rest same_sights order events stands =
    let e : Event = Write s cell v in
    let pending : IsPending events k s = pending_from events old.session_notes.items s k stands.session_notes may.pending in
    let here : place ≡ length events = last ∙ stands.values.count in
    let right : IsRight [] events e = write_is_right events s k cell v pending (table_is order places events old cell stands may.table) storable in
    access_goes order places events e cell at old new taken (write_accesses s cell v) right rest takes numbers
    (cells_write events (sound_from events stands.settled) s k at cell v taken.numbers.cells.keys taken.notes.items new.cells.notes.items
    (takes_unique old.cells taken cell at takes stands.numbered.are.unique) takes.is pending
    (subst (λ (p : ℕ). SetsPlaceAt at k p taken.notes.items new.cells.notes.items) here sets) (notes_taken events old.cells taken cell at stands.numbered.are takes stands.cells))
    (pending_write events s k cell v old.pending.items new.pending.items pending
    (subst (λ (p : ℕ). IsChangedTo old.pending.items s (λ before after. after ≡ before ++ p ∷ []) new.pending.items) here changed) stands.pending)
    (values_push events e old.values new.values v pushed (λ t q x same. same_value t q x same) stands.values)
    (sights_still places events e old new (right_push events e stands.right right) tt refl same_sights
    (subst (λ (ns : CellNumbers). KeepsCells old.cells.numbers.cells.keys ns.cells.keys) (sym numbers) (takes_kept old.cells taken cell at takes)) stands.sights)
    stands
  where
    same_value : (t : ℕ) (q : Cell) (x : Value) → Write s cell v ≡ Write t q x → v ≡ x
    same_value t q x same = cc

-- ---- what the calls ask, and what one answers

pub may_touch_if :
    (pass : Pass) (s : ℕ) (cell : Cell) (notes : List SessionNote) (found : Option ℕ) → notes ≡ pass.session_notes.items → table_of cell < length pass.names.items →
    IfSome found (IsPendingIn notes s) → IfSome found (MayTouch pass s cell)
may_touch_if pass s cell notes (Some txn) same table pending =
    record { pending = subst (λ (ns : List SessionNote). IsPendingIn ns s txn) same pending; table = table }
may_touch_if pass s cell notes None same table pending = tt

-- there are few cells
pub cells_few :
    (places : List ℕ) (pass : Pass) → Stands places pass → length pass.values < 2147483644 →
    (length pass.cells.notes.items ≡ length pass.cells.numbers.cells.keys) × (length pass.cells.numbers.cells.keys < 4294967296)
cells_few places pass (order, (events, stands)) few =
    let cells = stands.numbered.few in
    let count = stands.values.count in (stands.cells.count, omega arith)

-- the reader and the source have notes
pub txns_within :
    (places : List ℕ) (pass : Pass) (s k : ℕ) (cell : Cell) (w n : ℕ) (v : Value) (note : CellNote) → Stands places pass → MayTouch pass s cell k →
    IsClearRead note pass.values pass.committed.items cell k w n v → (k < length pass.txns.items) × (w < length pass.txns.items)
txns_within places pass s k cell w n v note (order, (events, stands)) may clear =
    let reader = pending_bounded events k s (pending_from events pass.session_notes.items s k stands.session_notes may.pending) in
    let from = source_bounded events w (source_settled events cell w v note pass.values pass.committed.items stands.commits clear.gives) in
    let count = stands.sights.txns.count in (omega arith, omega arith)

-- they are two
pub apart_from_source :
    (places : List ℕ) (pass : Pass) (s k : ℕ) (cell : Cell) (w n : ℕ) (v : Value) (note : CellNote) → Stands places pass → MayTouch pass s cell k →
    IsClearRead note pass.values pass.committed.items cell k w n v → w ≡ k → ⊥
apart_from_source places pass s k cell w n v note (order, (events, stands)) may clear =
    source_apart events k s w (pending_from events pass.session_notes.items s k stands.session_notes may.pending)
    (source_settled events cell w v note pass.values pass.committed.items stands.commits clear.gives)

-- the session has a list of reads
pub reads_within : (places : List ℕ) (pass : Pass) (s k : ℕ) (cell : Cell) → Stands places pass → MayTouch pass s cell k → (0 < s) × (s ≤ length pass.reads.items)
reads_within places pass s k cell (order, (events, stands)) may =
    let within = session_in_place pass.session_notes.items s k may.pending in
    let notes = stands.session_notes.count in
    let lists = stands.sights.lists in (within.0, let h = within.1 in omega arith)

-- the session has a list of pending writes
pub list_within : (places : List ℕ) (pass : Pass) (s k : ℕ) (cell : Cell) → Stands places pass → MayTouch pass s cell k → (0 < s) × (s ≤ length pass.pending.items)
list_within places pass s k cell (order, (events, stands)) may =
    let within = session_in_place pass.session_notes.items s k may.pending in
    let notes = stands.session_notes.count in
    let lists = stands.pending.count in (within.0, let h = within.1 in omega arith)
