-- How what a pass has noted goes on standing for the events, with one event more.
use Rattle.std.proofs.Common.{◌≡◌, ℕ, ◌+◌, ◌<◌, ◌≤◌, List, [], ◌∷◌, ◌++◌, Option, Some, None, Bool, false, length, take, arith, refl, ap, sym, ◌∙◌, subst, inl, inr, append-nil, IfSome}
use Rattle.std.specs.List.{slice_get, cons_option}
use Rattle.std.proofs.lemmas.List.{length_push, take-append-le, take_all}
use Rattle.std.proofs.lemmas.List.Elements.{filter_map-append}
use Rattle.std.proofs.lemmas.Option.{slice_get_within}
use Rattle.txn_buffer.proofs.Lists.{slice_get_push_cases}
use Rattle.cell_base.specs.declared.level.Level.{Level}
use Rattle.cell_base.specs.declared.cell.Cell.{Cell}
use Rattle.cell_base.specs.declared.value.Value.{Value}
use Rattle.cell_base.specs.declared.value.Value.TheVariants.{Unset}
use Rattle.history_core.specs.declared.event.Event.{Event}
use Rattle.history_core.specs.declared.event.Event.TheVariants.{Open, Close, Define, Look, Begin, Write, Commit, Rollback, Show}
use Rattle.history_core.specs.Events.{opened, names, defined_name, session_in, is_open_event, is_begin}
use Rattle.history_core.specs.Transactions.{IsPending, HasPending}
use Rattle.history_core.specs.Legal.{IsOpen}
use Rattle.history_core.proofs.Places.{slice_get-append_left}
use Rattle.history_core.proofs.Prefixes.{slice_get-at_end}
use Rattle.history_core.proofs.SessionLemmas.{IsPlain, opened-push_other}
use Rattle.further_reads.specs.Begun.{ForcesNothing}
use Rattle.further_reads.proofs.Sources.{begins_nothing}
use Rattle.cell_writers.specs.declared.cell_note.CellNote.{CellNote}
use Rattle.cell_writers.specs.declared.cell_numbers.CellNumbers.{CellNumbers}
use Rattle.cell_writers.specs.Numbered.{AreNumberedSo, cell_in}
use Rattle.cell_writers.proofs.Numbering.{numbered_next}
use Rattle.order_test.specs.Settled.{IsSettled}
use Rattle.order_test.specs.Glance.{HoldsLast, IsScan}
use Rattle.order_test.proofs.GlanceLemmas.{last_still, keeps_still}
use Rattle.history_check.specs.Rules.{shape, source, IsRight}
use Rattle.history_check.specs.Breaches.{AreRight}
use Rattle.history_check.specs.Notes.{AreOfSessions, IsSessionNoteOf, StandsForSessionNotes, StandsForPendingWrites, StandsForCommits, AreNotesOf}
use Rattle.history_check.specs.declared.session_note.SessionNote.{SessionNote}
use Rattle.history_check.specs.declared.pending_writes.PendingWrites.{PendingWrites}
use Rattle.history_check.proofs.Rights.{next_session, sessions_push}
use Rattle.history_check.proofs.Settled.{settled_push}
use Rattle.history_check.proofs.SessionNoteLemmas.{session_notes_plain}
use Rattle.history_check.proofs.PendingLemmas.{LeavesPending, pending_other}
use Rattle.history_check.proofs.CommitLemmas.{commits_other}
use Rattle.history_check.proofs.CellSteps.{LeavesCells, cells_other}
use Rattle.right_logs.specs.declared.pass.Pass.{Pass}
use Rattle.right_logs.specs.Passes.{HaveValues, HaveNoScan, StandsForSights, StandsFor}
use Rattle.right_logs.specs.Seats.{IsNotedAt, IsOpenIn, IsIdleIn, IsPendingIn}
use Rattle.right_logs.proofs.Sights.{SameSights, KeepsCells, sights_still}

-- ---- what the notes of the sessions say of the events

pub note_from : (events : List Event) (notes : List SessionNote) (s : ℕ) (note : SessionNote) → StandsForSessionNotes events notes → IsNotedAt notes s note → IsSessionNoteOf events s note
note_from events notes s note stands at = subst (λ (n : ℕ). IsSessionNoteOf events n note) at.1 (stands.each at.0 note at.2)

pub open_from : (events : List Event) (notes : List SessionNote) (s : ℕ) → StandsForSessionNotes events notes → IsOpenIn notes s → IsOpen events s
open_from events notes s stands is = (note_from events notes s is.0 stands is.1).open_is.0 is.2

pub idle_from : (events : List Event) (notes : List SessionNote) (s : ℕ) → StandsForSessionNotes events notes → IsIdleIn notes s → IsOpen events s × (HasPending events s → ⊥)
idle_from events notes s stands is =
    let session = note_from events notes s is.0 stands is.1 in (
      session.open_is.0 is.2,
      λ has. let both : None ≡ Some has.0 = sym is.3 ∙ (session.pending has.0).1 has.1 in cc,
    )

pub pending_from : (events : List Event) (notes : List SessionNote) (s txn : ℕ) → StandsForSessionNotes events notes → IsPendingIn notes s txn → IsPending events txn s
pending_from events notes s txn stands is = ((note_from events notes s is.0 stands is.1).pending txn).0 is.2

-- what is pending in the session, if anything
pub some_pending :
    (notes : List SessionNote) (s : ℕ) (note : SessionNote) (pending : Option ℕ) → IsNotedAt notes s note → note.pending ≡ pending → IfSome pending (λ txn. IsPendingIn notes s txn)
some_pending notes s note (Some txn) at is = (note, at, is)
some_pending notes s note None at is = tt

-- such a session has its place among the notes
pub noted_in_place : (notes : List SessionNote) (s : ℕ) (note : SessionNote) → IsNotedAt notes s note → (0 < s) × (s ≤ length notes)
noted_in_place notes s note at =
    let within = slice_get_within notes at.0 note at.2 in
    let number = at.1 in (omega arith, omega arith)

pub open_in_place : (notes : List SessionNote) (s : ℕ) → IsOpenIn notes s → (0 < s) × (s ≤ length notes)
open_in_place notes s is = noted_in_place notes s is.0 is.1

pub idle_in_place : (notes : List SessionNote) (s : ℕ) → IsIdleIn notes s → (0 < s) × (s ≤ length notes)
idle_in_place notes s is = noted_in_place notes s is.0 is.1

pub session_in_place : (notes : List SessionNote) (s txn : ℕ) → IsPendingIn notes s txn → (0 < s) × (s ≤ length notes)
session_in_place notes s txn is = noted_in_place notes s is.0 is.1

pub last_of_session : (order places : List ℕ) (events : List Event) (pass : Pass) (s : ℕ) → StandsFor order places events pass → 0 < s → s ≤ opened events → s < length pass.last.items
last_of_session order places events pass s stands some within = let room = stands.room in omega arith

-- ---- one field after another

pub right_push : (events : List Event) (e : Event) → AreRight [] events → IsRight [] events e → AreRight [] (events ++ e ∷ [])
right_push events e right next k f under is = elim (slice_get_push_cases events e k f is) [
  | inl old ↦
      let inside = old.0 in
      let front : take k (events ++ e ∷ []) ≡ take k events = take-append-le k events (e ∷ []) (omega arith) in
      subst (λ (xs : List Event). IsRight [] xs f) (sym front) (right k f old.0 old.1)
  | inr new ↦
      let last = new.0 in
      let front : take k (events ++ e ∷ []) ≡ events = take-append-le k events (e ∷ []) (omega arith) ∙ take_all k events (omega arith) in
      subst (λ (xs : List Event). IsRight [] xs f) (sym front) (subst (λ (g : Event). IsRight [] events g) new.1 next)
]

pub settled_right : (events : List Event) (e : Event) → IsSettled events → IsRight [] events e → IsSettled (events ++ e ∷ [])
settled_right events e settled right = settled_push events e settled (right shape) (right source)

pub sessions_right : (events : List Event) (e : Event) → AreOfSessions events → IsRight [] events e → AreOfSessions (events ++ e ∷ [])
sessions_right events e sessions right = sessions_push events e (next_session events e sessions (right shape)) sessions

-- there is room for the last transaction of the next event's session
pub room_right :
    (events : List Event) (e : Event) (last : List ℕ) → AreOfSessions events → IsRight [] events e → length last ≡ opened (events ++ e ∷ []) + 1 → session_in e < length last
room_right events e last sessions right room = let h = (next_session events e sessions (right shape)).1 in omega arith

pub room_still :
    (events : List Event) (e : Event) (last : List ℕ) → is_open_event e ≡ false → length last ≡ opened events + 1 → length last ≡ opened (events ++ e ∷ []) + 1
room_still events e last other room = let same = opened-push_other events e other in omega arith

pub names_still : (events : List Event) (e : Event) → defined_name e ≡ None → names (events ++ e ∷ []) ≡ names events
names_still events e none =
    filter_map-append defined_name events (e ∷ []) ∙ ap (λ (o : Option (List ℕ)). names events ++ cons_option o []) none ∙ append-nil (names events)

pub values_push :
    (events : List Event) (e : Event) (old new : List Value) (v : Value) → new ≡ old ++ v ∷ [] → ((s : ℕ) (cell : Cell) (w : Value) → e ≡ Write s cell w → v ≡ w) →
    HaveValues events old → HaveValues (events ++ e ∷ []) new
values_push events e old new v pushed writes have =
    let size : length new ≡ length old + 1 = ap length pushed ∙ length_push old v in
    let longer : length (events ++ e ∷ []) ≡ length events + 1 = length_push events e in
    let before : length old ≡ length events = have.count in
    record {
      count = omega arith;
      each = λ k s cell w is. subst (λ (vs : List Value). slice_get vs k ≡ Some w) (sym pushed) (elim (slice_get_push_cases events e k (Write s cell w) is) [
        | inl there ↦ slice_get-append_left old (v ∷ []) k (let h = there.0 in omega arith) ∙ have.each k s cell w there.1
        | inr now ↦
            let here : k ≡ length old = now.0 ∙ sym before in
            ap (λ (n : ℕ). slice_get (old ++ v ∷ []) n) here ∙ slice_get-at_end old v ∙ ap (λ (u : Value). Some u) (writes s cell w now.1)
      ]);
    }

pub numbered_skip :
    (events : List Event) (e : Event) (old new : CellNumbers) → cell_in e ≡ None → new.cells.keys ≡ old.cells.keys → new.of_events.items ≡ old.of_events.items ++ 0 ∷ [] →
    AreNumberedSo events old → AreNumberedSo (events ++ e ∷ []) new
numbered_skip events e old new none same pushed so =
    numbered_next events e old new 0 (record { adds = inl same; is = λ cell of. let both : None ≡ Some cell = sym none ∙ of in cc }) pushed so

pub no_scan_push : (events : List Event) (e : Event) → (IsScan e → ⊥) → HaveNoScan events → HaveNoScan (events ++ e ∷ [])
no_scan_push events e none have k f at scan = elim (slice_get_push_cases events e k f at) [
  | inl old ↦ have k f old.1 scan
  | inr new ↦ none (subst (λ (g : Event). IsScan g) (sym new.1) scan)
]

-- where the cells are the same, each keeps its number
pub cells_kept : (old new : List Cell) → new ≡ old → KeepsCells old new
cells_kept old new same i cell is = subst (λ (cells : List Cell). slice_get cells i ≡ Some cell) (sym same) is

-- ---- events that neither read nor write a cell, nor begin or commit a transaction

pub record IsQuiet (e : Event) : Type 0 where
  pub forces : ForcesNothing e
  pub leaves : LeavesCells e
  pub cell : cell_in e ≡ None
  pub scan : IsScan e → ⊥

pub quiet_open : (s : ℕ) → IsQuiet (Open s)
quiet_open s = record { forces = tt; leaves = tt; cell = refl; scan = λ scan. scan }

pub quiet_close : (s : ℕ) → IsQuiet (Close s)
quiet_close s = record { forces = tt; leaves = tt; cell = refl; scan = λ scan. scan }

pub quiet_define : (s : ℕ) (name : List ℕ) → IsQuiet (Define s name)
quiet_define s name = record { forces = tt; leaves = tt; cell = refl; scan = λ scan. scan }

pub quiet_look : (s tables : ℕ) → IsQuiet (Look s tables)
quiet_look s tables = record { forces = tt; leaves = tt; cell = refl; scan = λ scan. scan }

pub quiet_rollback : (s : ℕ) → IsQuiet (Rollback s)
quiet_rollback s = record { forces = tt; leaves = tt; cell = refl; scan = λ scan. scan }

pub quiet_show : (s number : ℕ) → IsQuiet (Show s number)
quiet_show s number = record { forces = tt; leaves = tt; cell = refl; scan = λ scan. scan }

pub no_begin : (e : Event) → ForcesNothing e → (s : ℕ) (level : Level) → e ≡ Begin s level → ⊥
no_begin e nothing s level same = subst (λ (f : Event). ForcesNothing f) same nothing

pub no_commit : (e : Event) → LeavesCells e → (s : ℕ) → e ≡ Commit s → ⊥
no_commit e leaves s same = subst (λ (f : Event). LeavesCells f) same leaves

pub no_write : (e : Event) → LeavesCells e → (s : ℕ) (cell : Cell) (v : Value) → e ≡ Write s cell v → ⊥
no_write e leaves s cell v same = subst (λ (f : Event). LeavesCells f) same leaves

-- no cell is at the event, and it has no value; nothing else is noted of cells and commits
pub record NotesPlace (old new : Pass) : Type 0 where
  pub committed : new.committed.items ≡ old.committed.items
  pub keys : new.cells.numbers.cells.keys ≡ old.cells.numbers.cells.keys
  pub of_events : new.cells.numbers.of_events.items ≡ old.cells.numbers.of_events.items ++ 0 ∷ []
  pub notes : new.cells.notes.items ≡ old.cells.notes.items
  pub values : new.values ≡ old.values ++ Unset ∷ []

-- the notes of the sessions, the pending writes, the names, the last transactions and what is noted of transactions and reads are the caller's
pub quiet_goes :
    (order places : List ℕ) (events : List Event) (e : Event) (old new : Pass) → IsQuiet e → IsRight [] events e → NotesPlace old new →
    StandsForSessionNotes (events ++ e ∷ []) new.session_notes.items → StandsForPendingWrites (events ++ e ∷ []) new.pending.items → new.names.items ≡ names (events ++ e ∷ []) →
    length new.last.items ≡ opened (events ++ e ∷ []) + 1 → HoldsLast events new.last.items → StandsForSights places (events ++ e ∷ []) new →
    StandsFor order places events old → StandsFor order places (events ++ e ∷ []) new
quiet_goes order places events e old new quiet right changes session_notes pending names_are room last sights stands =
    let begins : is_begin e ≡ false = begins_nothing e quiet.forces in
    record {
      placed = stands.placed;
      right = right_push events e stands.right right;
      settled = settled_right events e stands.settled right;
      sessions = sessions_right events e stands.sessions right;
      session_notes = session_notes;
      pending = pending;
      commits =
          subst (λ (flags : List Bool). StandsForCommits (events ++ e ∷ []) flags) (sym changes.committed)
          (commits_other events e old.committed.items (no_begin e quiet.forces) (no_commit e quiet.leaves) stands.commits);
      names_are = names_are;
      tables = ap length names_are;
      numbered = numbered_skip events e old.cells.numbers new.cells.numbers quiet.cell changes.keys changes.of_events stands.numbered;
      cells =
          subst (λ (cells : List Cell). AreNotesOf (events ++ e ∷ []) cells new.cells.notes.items) (sym changes.keys)
          (subst (λ (notes : List CellNote). AreNotesOf (events ++ e ∷ []) old.cells.numbers.cells.keys notes) (sym changes.notes)
          (cells_other events e old.cells.numbers.cells.keys old.cells.notes.items quiet.leaves stands.cells));
      values =
          values_push events e old.values new.values Unset changes.values (λ s cell v same. absurd (no_write e quiet.leaves s cell v same)) stands.values;
      room = room;
      last = last_still events e new.last.items begins (room_right events e new.last.items stands.sessions right room) last;
      keeps = keeps_still events e order begins stands.keeps;
      no_scan = no_scan_push events e quiet.scan stands.no_scan;
      sights = sights;
    }

-- ---- what isn't touched

pub pending_same :
    (events : List Event) (e : Event) (old new : List PendingWrites) → LeavesPending e → new ≡ old → StandsForPendingWrites events old → StandsForPendingWrites (events ++ e ∷ []) new
pending_same events e old new leaves same stands =
    subst (λ (lists : List PendingWrites). StandsForPendingWrites (events ++ e ∷ []) lists) (sym same) (pending_other events e old leaves stands)

pub names_same : (events : List Event) (e : Event) (old new : List (List ℕ)) → defined_name e ≡ None → new ≡ old → old ≡ names events → new ≡ names (events ++ e ∷ [])
names_same events e old new none same are = same ∙ are ∙ sym (names_still events e none)

pub room_same :
    (events : List Event) (e : Event) (old new : List ℕ) → is_open_event e ≡ false → new ≡ old → length old ≡ opened events + 1 → length new ≡ opened (events ++ e ∷ []) + 1
room_same events e old new other same room = room_still events e new other (ap length same ∙ room)

pub last_same : (events : List Event) (old new : List ℕ) → new ≡ old → HoldsLast events old → HoldsLast events new
last_same events old new same holds = subst (λ (last : List ℕ). HoldsLast events last) (sym same) holds

-- nothing is noted of the sessions either, nor of transactions and reads
pub record NotesNothing (old new : Pass) : Type 0 where
  pub place : NotesPlace old new
  pub session_notes : new.session_notes.items ≡ old.session_notes.items
  pub pending : new.pending.items ≡ old.pending.items
  pub names_are : new.names.items ≡ old.names.items
  pub last : new.last.items ≡ old.last.items
  pub sights : SameSights old new

-- an event that opens, closes, begins and ends nothing, and defines no table
pub plain_goes :
    (order places : List ℕ) (events : List Event) (e : Event) (old new : Pass) → IsQuiet e → IsPlain e → LeavesPending e → defined_name e ≡ None → IsRight [] events e →
    NotesNothing old new → StandsFor order places events old → StandsFor order places (events ++ e ∷ []) new
plain_goes order places events e old new quiet plain leaves no_name right nothing stands =
    quiet_goes order places events e old new quiet right nothing.place
    (subst (λ (notes : List SessionNote). StandsForSessionNotes (events ++ e ∷ []) notes) (sym nothing.session_notes)
    (session_notes_plain events e old.session_notes.items plain stands.session_notes))
    (pending_same events e old.pending.items new.pending.items leaves nothing.pending stands.pending)
    (names_same events e old.names.items new.names.items no_name nothing.names_are stands.names_are)
    (room_same events e old.last.items new.last.items plain.opens_none nothing.last stands.room)
    (last_same events old.last.items new.last.items nothing.last stands.last)
    (sights_still places events e old new (right_push events e stands.right right) quiet.forces plain.opens_none nothing.sights
    (cells_kept old.cells.numbers.cells.keys new.cells.numbers.cells.keys nothing.place.keys) stands.sights) stands
