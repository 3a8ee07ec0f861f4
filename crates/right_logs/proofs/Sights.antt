-- How the notes of the transactions and of the reads go on standing for the events, with one event more. An end is in SightEnds.
use Rattle.std.proofs.Common.{◌≡◌, ℕ, ◌+◌, ◌<◌, ◌≤◌, List, [], ◌∷◌, ◌++◌, Bool, false, Some, IsTrue, length, arith, refl, ap, sym, ◌∙◌, subst, inl, inr, ◌⊎◌}
use Rattle.std.specs.List.{slice_get}
use Rattle.std.proofs.lemmas.Bool.{cases_eq}
use Rattle.std.proofs.lemmas.List.{length_push, length-set}
use Rattle.std.proofs.lemmas.Option.{slice_get_within, same_Some}
use Rattle.graph_base.proofs.Places.{count_by-push}
use Rattle.txn_buffer.proofs.Lists.{slice_get_push_cases, slice_get-set_same, slice_get-set_other}
use Rattle.cell_base.specs.declared.level.Level.{Level}
use Rattle.cell_base.specs.declared.cell.Cell.{Cell}
use Rattle.cell_base.specs.declared.value.Value.{Value}
use Rattle.history_core.specs.declared.event.Event.{Event}
use Rattle.history_core.specs.declared.event.Event.TheVariants.{Open, Begin, Read}
use Rattle.history_core.specs.Events.{opened, begun, is_open_event, is_begin}
use Rattle.history_core.specs.Transactions.{IsPending}
use Rattle.history_core.proofs.Next.{of_new}
use Rattle.history_core.proofs.Places.{slice_get-append_left}
use Rattle.history_core.proofs.Prefixes.{IsSound, of_kept, begun-push_other, slice_get-at_end}
use Rattle.history_core.proofs.SessionLemmas.{opened-push_other}
use Rattle.further_reads.specs.Begun.{ForcesNothing, IsLastBegun}
use Rattle.history_check.specs.Breaches.{AreRight}
use Rattle.history_check.proofs.Rights.{opened-push}
use Rattle.right_logs.specs.declared.open_reads.ReadNote.{ReadNote}
use Rattle.right_logs.specs.declared.open_reads.SessionReads.{SessionReads}
use Rattle.right_logs.specs.declared.pass.Pass.{Pass}
use Rattle.right_logs.specs.declared.txn_notes.TxnNote.{TxnNote}
use Rattle.right_logs.specs.Clocks.{AreTxnNotes, AddsTxn, NotesSource}
use Rattle.right_logs.specs.OpenReads.{AreReadsOf, ChangesReads, IsReadNoteOf, HasReadNote, IsSettledRead, HoldReads}
use Rattle.right_logs.specs.Passes.{StandsForSights}
use Rattle.right_logs.specs.Standing.{AreHighest}
use Rattle.right_logs.proofs.ClockLemmas.{txns_none, txns_other, txns_begin, txns_read, txns_narrower}
use Rattle.right_logs.proofs.Settling.{comes_next, settled_push_read}

-- each cell has the number that it had
abbrev pub KeepsCells : List Cell → List Cell → Type 0
KeepsCells old new = (i : ℕ) (cell : Cell) → slice_get old i ≡ Some cell → slice_get new i ≡ Some cell

no_event : (k : ℕ) (e : Event) → slice_get [] k ≡ Some e → ⊥
no_event k e is = cc

pub not_read : (e : Event) → ForcesNothing e → (s : ℕ) (cell : Cell) (w n u : ℕ) (v : Value) → e ≡ Read s cell w n u v → ⊥
not_read e nothing s cell w n u v same = subst (λ (f : Event). ForcesNothing f) same nothing

-- ---- the lists of the sessions

pub lists_count :
    {Changes : List ReadNote → List ReadNote → Type 0} (old new : List SessionReads) (s : ℕ) → ChangesReads old s Changes new → length new ≡ length old
lists_count old new s change = let c = change.changes in ap length c.set_to ∙ length-set old change.place c.after

-- the reads of another session stay
pub reads_other :
    {Changes : List ReadNote → List ReadNote → Type 0} (old new : List SessionReads) (s : ℕ) → ChangesReads old s Changes new → (t : ℕ) (reads : List ReadNote) → (t ≡ s → ⊥) →
    AreReadsOf old t reads → AreReadsOf new t reads
reads_other old new s change t reads apart are =
    let c = change.changes in
    let elsewhere : are.place ≡ change.place → ⊥ = λ same. apart (let mine = are.number in let theirs = change.number in omega arith) in
    record {
      place = are.place;
      number = are.number;
      list = are.list;
      is =
          ap (λ (lists : List SessionReads). slice_get lists are.place) c.set_to ∙ slice_get-set_other old change.place are.place c.after elsewhere ∙ are.is;
      reads_are = are.reads_are;
    }

-- those of the session are lengthened by the one that is added
pub reads_with :
    (old new : List SessionReads) (s : ℕ) (note : ReadNote) → ChangesReads old s (λ before after. after ≡ before ++ note ∷ []) new → (reads : List ReadNote) →
    AreReadsOf old s reads → AreReadsOf new s (reads ++ note ∷ [])
reads_with old new s note change reads are =
    let c = change.changes in
    let mine : are.place + 1 ≡ s = are.number in
    let theirs : change.place + 1 ≡ s = change.number in
    let same : are.place ≡ change.place = omega arith in
    let both : Some are.list ≡ Some c.before = sym are.is ∙ ap (λ (i : ℕ). slice_get old i) same ∙ c.is in
    let one : are.list ≡ c.before = same_Some are.list c.before both in
    let adds : c.after.notes.items ≡ c.before.notes.items ++ note ∷ [] = c.changes in
    let were : reads ≡ c.before.notes.items = are.reads_are ∙ ap (λ (l : SessionReads). l.notes.items) one in
    let within : change.place < length old = slice_get_within old change.place c.before c.is in
    record {
      place = change.place;
      number = change.number;
      list = c.after;
      is = ap (λ (lists : List SessionReads). slice_get lists change.place) c.set_to ∙ slice_get-set_same old change.place c.after within;
      reads_are = ap (λ (rs : List ReadNote). rs ++ note ∷ []) were ∙ sym adds;
    }

-- a further list is that of no session before
reads_opened : (old : List SessionReads) (blank : SessionReads) (t : ℕ) (reads : List ReadNote) → AreReadsOf old t reads → AreReadsOf (old ++ blank ∷ []) t reads
reads_opened old blank t reads are =
    let within : are.place < length old = slice_get_within old are.place are.list are.is in
    record {
      place = are.place;
      number = are.number;
      list = are.list;
      is = slice_get-append_left old (blank ∷ []) are.place within ∙ are.is;
      reads_are = are.reads_are;
    }

-- ---- the notes of the reads

-- the note of an earlier read, whether cells are added or not
pub read_kept :
    (events : List Event) (e : Event) (old new : List Cell) (place s : ℕ) (cell : Cell) (w n u : ℕ) (v : Value) (note : ReadNote) → KeepsCells old new →
    IsReadNoteOf events old place s cell w n u v note → IsReadNoteOf (events ++ e ∷ []) new place s cell w n u v note
read_kept events e old new place s cell w n u v note kept is = record {
  numbered = kept note.cell cell is.numbered;
  from = is.from;
  at = is.at;
  read = record {
    of = of_kept events e note.reader place (Read s cell w n u v) is.read.of;
    from = let more = count_by-push is_begin events e in let before : w ≤ begun events = is.read.from in omega arith;
  };
}

-- it stands in the list that its session has now
pub note_in :
    (events : List Event) (e : Event) (old new : List Cell) (old_lists new_lists : List SessionReads) (place s : ℕ) (cell : Cell) (w n u : ℕ) (v : Value) → KeepsCells old new →
    (has : HasReadNote events old old_lists place s cell w n u v) → (reads : List ReadNote) → AreReadsOf new_lists s reads → slice_get reads has.k ≡ Some has.note →
    HasReadNote (events ++ e ∷ []) new new_lists place s cell w n u v
note_in events e old new old_lists new_lists place s cell w n u v kept has reads are noted = record {
  reads = reads;
  are = are;
  k = has.k;
  note = has.note;
  noted = noted;
  of = read_kept events e old new place s cell w n u v has.note kept has.of;
}

-- each read that has a note keeps it with the further event, or is settled by that
abbrev pub KeepReads : List ℕ → List Event → Event → List Cell → List Cell → List SessionReads → List SessionReads → Type 0
KeepReads places events e old new old_lists new_lists = (place s : ℕ) (cell : Cell) (w n u : ℕ) (v : Value) → HasReadNote events old old_lists place s cell w n u v →
    HasReadNote (events ++ e ∷ []) new new_lists place s cell w n u v ⊎ IsSettledRead places (events ++ e ∷ []) place s cell w n u v

-- so it is with all reads, where the event itself is none
pub reads_after :
    (places : List ℕ) (events : List Event) (e : Event) (old new : List Cell) (old_lists new_lists : List SessionReads) → AreRight [] (events ++ e ∷ []) →
    ((s : ℕ) (cell : Cell) (w n u : ℕ) (v : Value) → e ≡ Read s cell w n u v → ⊥) → KeepReads places events e old new old_lists new_lists → HoldReads places events old old_lists →
    HoldReads places (events ++ e ∷ []) new new_lists
reads_after places events e old new old_lists new_lists right none keep hold place s cell w n u v is =
    elim (slice_get_push_cases events e place (Read s cell w n u v) is) [
      | inl there ↦ elim (hold place s cell w n u v there.1) [
        | inl was ↦ keep place s cell w n u v was
        | inr settled ↦ inr (settled_push_read places events e place s cell w n u v (comes_next events e right) settled)
      ]
      | inr now ↦ absurd (none s cell w n u v now.1)
    ]

pub reads_still :
    (places : List ℕ) (events : List Event) (e : Event) (old new : List Cell) (lists : List SessionReads) → AreRight [] (events ++ e ∷ []) → KeepsCells old new →
    ((s : ℕ) (cell : Cell) (w n u : ℕ) (v : Value) → e ≡ Read s cell w n u v → ⊥) → HoldReads places events old lists → HoldReads places (events ++ e ∷ []) new lists
reads_still places events e old new lists right kept none hold =
    reads_after places events e old new lists lists right none
    (λ place s cell w n u v has. inl (note_in events e old new lists lists place s cell w n u v kept has has.reads has.are has.noted)) hold

-- ---- a read

pub note_of_read :
    (events : List Event) (cells : List Cell) (s k : ℕ) (cell : Cell) (w n u : ℕ) (v : Value) (note : ReadNote) → slice_get cells note.cell ≡ Some cell →
    note.source ≡ w → note.reader ≡ k → note.place ≡ length events → IsPending events k s → w ≤ begun events →
    IsReadNoteOf (events ++ Read s cell w n u v ∷ []) cells (length events) s cell w n u v note
note_of_read events cells s k cell w n u v note numbered from reader here pending bounded =
    let same : begun (events ++ Read s cell w n u v ∷ []) ≡ begun events = begun-push_other events (Read s cell w n u v) refl in
    let upto : w ≤ begun (events ++ Read s cell w n u v ∷ []) = omega arith in
    record {
      numbered = numbered;
      from = from;
      at = here;
      read = record {
        of = of_new events (Read s cell w n u v) note.reader (subst (λ (t : ℕ). IsPending events t s) (sym reader) pending);
        from = upto;
      };
    }

-- the note that comes after those of the session is that of the read
note_added :
    (events : List Event) (cells : List Cell) (old new : List SessionReads) (s k : ℕ) (cell : Cell) (w n u : ℕ) (v : Value) (note : ReadNote) →
    slice_get cells note.cell ≡ Some cell → note.source ≡ w → note.reader ≡ k → note.place ≡ length events → IsPending events k s → w ≤ begun events →
    ChangesReads old s (λ before after. after ≡ before ++ note ∷ []) new → HasReadNote (events ++ Read s cell w n u v ∷ []) cells new (length events) s cell w n u v
note_added events cells old new s k cell w n u v note numbered from reader here pending bounded change =
    let before : List ReadNote = change.changes.before.notes.items in
    let were : AreReadsOf old s before =
    record { place = change.place; number = change.number; list = change.changes.before; is = change.changes.is; reads_are = refl }
    in
    record {
      reads = before ++ note ∷ [];
      are = reads_with old new s note change before were;
      k = length before;
      note = note;
      noted = slice_get-at_end before note;
      of = note_of_read events cells s k cell w n u v note numbered from reader here pending bounded;
    }

-- each other note stays where it is
note_before :
    (events : List Event) (e : Event) (old new : List Cell) (old_lists new_lists : List SessionReads) (s : ℕ) (note : ReadNote) → KeepsCells old new →
    ChangesReads old_lists s (λ before after. after ≡ before ++ note ∷ []) new_lists → (place t : ℕ) (cell : Cell) (w n u : ℕ) (v : Value) →
    HasReadNote events old old_lists place t cell w n u v → HasReadNote (events ++ e ∷ []) new new_lists place t cell w n u v
note_before events e old new old_lists new_lists s note kept change place t cell w n u v has =
    elim (cases_eq t s) [
      | inl same ↦
          let own : AreReadsOf old_lists s has.reads = subst (λ (m : ℕ). AreReadsOf old_lists m has.reads) same has.are in
          let longer : AreReadsOf new_lists s (has.reads ++ note ∷ []) = reads_with old_lists new_lists s note change has.reads own in
          let within : has.k < length has.reads = slice_get_within has.reads has.k has.note has.noted in
          note_in events e old new old_lists new_lists place t cell w n u v kept has (has.reads ++ note ∷ [])
          (subst (λ (m : ℕ). AreReadsOf new_lists m (has.reads ++ note ∷ [])) (sym same) longer)
          (slice_get-append_left has.reads (note ∷ []) has.k within ∙ has.noted)
      | inr apart ↦
          note_in events e old new old_lists new_lists place t cell w n u v kept has has.reads (reads_other old_lists new_lists s change t has.reads apart has.are) has.noted
    ]

-- some note of the session is that of the event, if it is a read
abbrev pub HasNoteOfRead : List Event → List Cell → List SessionReads → ℕ → Event → Type 0
HasNoteOfRead events cells lists place (Read s cell w n u v) = HasReadNote events cells lists place s cell w n u v
HasNoteOfRead events cells lists place _ = Unit {0}

pub reads_push :
    (places : List ℕ) (events : List Event) (old new : List Cell) (old_lists new_lists : List SessionReads) (s k : ℕ) (cell : Cell) (w n u : ℕ) (v : Value) (note : ReadNote) →
    AreRight [] (events ++ Read s cell w n u v ∷ []) → KeepsCells old new → slice_get new note.cell ≡ Some cell → note.source ≡ w → note.reader ≡ k → note.place ≡ length events →
    IsPending events k s → w ≤ begun events → ChangesReads old_lists s (λ before after. after ≡ before ++ note ∷ []) new_lists → HoldReads places events old old_lists →
    HoldReads places (events ++ Read s cell w n u v ∷ []) new new_lists
reads_push places events old new old_lists new_lists s k cell w n u v note right kept numbered from reader here pending bounded change hold place t q a b c value is =
    elim (slice_get_push_cases events (Read s cell w n u v) place (Read t q a b c value) is) [
      | inl there ↦ elim (hold place t q a b c value there.1) [
        | inl was ↦ inl (note_before events (Read s cell w n u v) old new old_lists new_lists s note kept change place t q a b c value was)
        | inr settled ↦
            inr (settled_push_read places events (Read s cell w n u v) place t q a b c value (comes_next events (Read s cell w n u v) right) settled)
      ]
      | inr now ↦
          inl (subst (λ (e : Event). HasNoteOfRead (events ++ Read s cell w n u v ∷ []) new new_lists place e) now.1
          (subst (λ (p : ℕ). HasReadNote (events ++ Read s cell w n u v ∷ []) new new_lists p s cell w n u v) (sym now.0)
          (note_added events new old_lists new_lists s k cell w n u v note numbered from reader here pending bounded change)))
    ]

-- ---- all of it

pub sights_none :
    (places : List ℕ) (pass : Pass) (note : TxnNote) → pass.txns.items ≡ note ∷ [] → note.clock.items ≡ [] → pass.reads.items ≡ [] → AreHighest places pass.highest.items →
    StandsForSights places [] pass
sights_none places pass note txns clock none highest = record {
  txns = txns_none pass.clocked pass.txns.items note txns clock;
  highest = highest;
  lists = ap length none;
  reads = λ met place s cell w n u v is. absurd (no_event place (Read s cell w n u v) is);
}

-- the notes of transactions and of reads are those that they were
pub record SameSights (old new : Pass) : Type 0 where
  pub txns : new.txns.items ≡ old.txns.items
  pub clocked : new.clocked ≡ old.clocked
  pub highest : new.highest.items ≡ old.highest.items
  pub reads : new.reads.items ≡ old.reads.items
  pub met : new.met ≡ old.met

-- an event that opens no session, begins no transaction and reads nothing from another one
pub sights_still :
    (places : List ℕ) (events : List Event) (e : Event) (old new : Pass) → AreRight [] (events ++ e ∷ []) → ForcesNothing e → is_open_event e ≡ false → SameSights old new →
    KeepsCells old.cells.numbers.cells.keys new.cells.numbers.cells.keys → StandsForSights places events old → StandsForSights places (events ++ e ∷ []) new
sights_still places events e old new right nothing opens same kept sights = record {
  txns =
      subst (λ (notes : List TxnNote). AreTxnNotes (events ++ e ∷ []) new.clocked notes) (sym same.txns)
      (subst (λ (clocked : Bool). AreTxnNotes (events ++ e ∷ []) clocked old.txns.items) (sym same.clocked)
      (txns_other events e old.clocked old.txns.items nothing sights.txns));
  highest = subst (λ (highest : List ℕ). AreHighest places highest) (sym same.highest) sights.highest;
  lists = ap length same.reads ∙ sights.lists ∙ sym (opened-push_other events e opens);
  reads = λ met.
      subst (λ (lists : List SessionReads). HoldReads places (events ++ e ∷ []) new.cells.numbers.cells.keys lists) (sym same.reads)
      (reads_still places events e old.cells.numbers.cells.keys new.cells.numbers.cells.keys old.reads.items right kept (not_read e nothing)
      (sights.reads (subst (λ (b : Bool). IsTrue b) same.met met)));
}

-- the session that opens has its list, without a read; the clocks may end with it
pub record OpensReads (old new : Pass) : Type 0 where
  pub blank : SessionReads
  pub no_read : blank.notes.items ≡ []
  pub reads : new.reads.items ≡ old.reads.items ++ blank ∷ []
  pub txns : new.txns.items ≡ old.txns.items
  pub clocked : IsTrue new.clocked → IsTrue old.clocked
  pub highest : new.highest.items ≡ old.highest.items
  pub met : new.met ≡ old.met

pub sights_open :
    (places : List ℕ) (events : List Event) (s : ℕ) (old new : Pass) → AreRight [] (events ++ Open s ∷ []) → OpensReads old new →
    KeepsCells old.cells.numbers.cells.keys new.cells.numbers.cells.keys → StandsForSights places events old → StandsForSights places (events ++ Open s ∷ []) new
sights_open places events s old new right opens kept sights =
    let longer : length new.reads.items ≡ length old.reads.items + 1 = ap length opens.reads ∙ length_push old.reads.items opens.blank in
    let more : opened (events ++ Open s ∷ []) ≡ opened events + 1 = opened-push events (Open s) in
    let count : length old.reads.items ≡ opened events = sights.lists in
    let keep : KeepReads places events (Open s) old.cells.numbers.cells.keys new.cells.numbers.cells.keys old.reads.items (old.reads.items ++ opens.blank ∷ []) =
    λ place t cell w n u v has.
    inl (note_in events (Open s) old.cells.numbers.cells.keys new.cells.numbers.cells.keys old.reads.items (old.reads.items ++ opens.blank ∷ []) place t cell w n u v
    kept has has.reads (reads_opened old.reads.items opens.blank t has.reads has.are) has.noted)
    in
    record {
      txns =
          subst (λ (notes : List TxnNote). AreTxnNotes (events ++ Open s ∷ []) new.clocked notes) (sym opens.txns)
          (txns_narrower (events ++ Open s ∷ []) old.clocked new.clocked old.txns.items opens.clocked
          (txns_other events (Open s) old.clocked old.txns.items tt sights.txns));
      highest = subst (λ (highest : List ℕ). AreHighest places highest) (sym opens.highest) sights.highest;
      lists = omega arith;
      reads = λ met.
          subst (λ (lists : List SessionReads). HoldReads places (events ++ Open s ∷ []) new.cells.numbers.cells.keys lists) (sym opens.reads)
          (reads_after places events (Open s) old.cells.numbers.cells.keys new.cells.numbers.cells.keys old.reads.items (old.reads.items ++ opens.blank ∷ []) right
          (not_read (Open s) tt) keep (sights.reads (subst (λ (b : Bool). IsTrue b) opens.met met)));
    }

-- the transaction that begins has its note
pub record BeginsSights (s : ℕ) (level : Level) (last : ℕ) (old new : Pass) : Type 0 where
  pub txns : AddsTxn old.clocked s level last old.txns.items new.txns.items
  pub clocked : new.clocked ≡ old.clocked
  pub highest : new.highest.items ≡ old.highest.items
  pub reads : new.reads.items ≡ old.reads.items
  pub met : new.met ≡ old.met

pub sights_begin :
    (places : List ℕ) (events : List Event) (s last : ℕ) (level : Level) (old new : Pass) → AreRight [] (events ++ Begin s level ∷ []) → IsSound events →
    IsLastBegun events s last → BeginsSights s level last old new → KeepsCells old.cells.numbers.cells.keys new.cells.numbers.cells.keys → StandsForSights places events old →
    StandsForSights places (events ++ Begin s level ∷ []) new
sights_begin places events s last level old new right sound is begins kept sights = record {
  txns =
      subst (λ (clocked : Bool). AreTxnNotes (events ++ Begin s level ∷ []) clocked new.txns.items) (sym begins.clocked)
      (txns_begin events sound s last level old.clocked old.txns.items new.txns.items is begins.txns sights.txns);
  highest = subst (λ (highest : List ℕ). AreHighest places highest) (sym begins.highest) sights.highest;
  lists = ap length begins.reads ∙ sights.lists ∙ sym (opened-push_other events (Begin s level) refl);
  reads = λ met.
      subst (λ (lists : List SessionReads). HoldReads places (events ++ Begin s level ∷ []) new.cells.numbers.cells.keys lists) (sym begins.reads)
      (reads_still places events (Begin s level) old.cells.numbers.cells.keys new.cells.numbers.cells.keys old.reads.items right kept
      (λ t cell w n u v same. let both : Begin s level ≡ Read t cell w n u v = same in cc) (sights.reads (subst (λ (b : Bool). IsTrue b) begins.met met)));
}

-- the read has its note, and the clock of its reader takes in its source
pub record ReadsSights (s k w : ℕ) (note : ReadNote) (old new : Pass) : Type 0 where
  pub txns : NotesSource old.clocked k w old.txns.items new.txns.items
  pub clocked : new.clocked ≡ old.clocked
  pub highest : new.highest.items ≡ old.highest.items
  pub reads : ChangesReads old.reads.items s (λ before after. after ≡ before ++ note ∷ []) new.reads.items
  pub met : new.met ≡ old.met

pub sights_read :
    (places : List ℕ) (events : List Event) (s k : ℕ) (cell : Cell) (w n u : ℕ) (v : Value) (old new : Pass) (note : ReadNote) →
    AreRight [] (events ++ Read s cell w n u v ∷ []) → IsSound events → IsPending events k s → (w ≡ k → ⊥) → w ≤ begun events →
    note.source ≡ w → note.reader ≡ k → note.place ≡ length events →
    slice_get new.cells.numbers.cells.keys note.cell ≡ Some cell → ReadsSights s k w note old new → KeepsCells old.cells.numbers.cells.keys new.cells.numbers.cells.keys →
    StandsForSights places events old → StandsForSights places (events ++ Read s cell w n u v ∷ []) new
sights_read places events s k cell w n u v old new note right sound pending apart bounded from reader here numbered changes kept sights = record {
  txns =
      subst (λ (clocked : Bool). AreTxnNotes (events ++ Read s cell w n u v ∷ []) clocked new.txns.items) (sym changes.clocked)
      (txns_read events sound s k cell w n u v pending apart old.clocked old.txns.items new.txns.items changes.txns sights.txns);
  highest = subst (λ (highest : List ℕ). AreHighest places highest) (sym changes.highest) sights.highest;
  lists = lists_count old.reads.items new.reads.items s changes.reads ∙ sights.lists ∙ sym (opened-push_other events (Read s cell w n u v) refl);
  reads = λ met.
      reads_push places events old.cells.numbers.cells.keys new.cells.numbers.cells.keys old.reads.items new.reads.items s k cell w n u v note right kept numbered from reader
      here pending bounded changes.reads (sights.reads (subst (λ (b : Bool). IsTrue b) changes.met met));
}
