-- How the notes of all cells go on standing for the events.
use Rattle.std.proofs.Common.{◌≡◌, ℕ, ◌+◌, ◌<◌, List, [], ◌∷◌, ◌++◌, Some, Result, Ok, Err, length, take, get_or, arith, refl, ap, sym, ◌∙◌, subst, inl, inr}
use Rattle.std.specs.List.{slice_get}
use Rattle.std.specs.Prelude.{IfOk}
use Rattle.std.proofs.lemmas.Bool.{cases_lt}
use Rattle.std.proofs.lemmas.List.{length_push, length-set, length-take-le}
use Rattle.std.proofs.lemmas.Option.{slice_get_within, slice_get_cases}
use Rattle.txn_buffer.proofs.Lists.{slice_get_push_cases, slice_get-set_cases, at_contains, contains_at}
use Rattle.cell_base.specs.declared.cell.Cell.{Cell}
use Rattle.cell_base.specs.declared.value.Value.{Value}
use Rattle.cell_writers.specs.declared.cell_note.CellNote.{CellNote}
use Rattle.cell_writers.specs.declared.cell_note.CellNotes.{CellNotes}
use Rattle.cell_writers.specs.declared.cell_numbers.CellNumbers.{CellNumbers}
use Rattle.cell_writers.specs.Numbered.{AreNumbered, AreUnique, AreBlank, AreWriters}
use Rattle.history_core.specs.declared.event.Event.{Event}
use Rattle.history_core.specs.declared.event.Event.TheVariants.{Open, Close, Define, Look, Begin, Scan, Read, Own, Write, Commit, Rollback, Show}
use Rattle.history_core.specs.Transactions.{IsOf, IsPending}
use Rattle.history_core.specs.Relations.{HasWritten}
use Rattle.history_core.proofs.Places.{start_session, slice_get-append_left, slice_get-take}
use Rattle.history_core.proofs.Offers.{pending_unique}
use Rattle.history_core.proofs.Prefixes.{IsSound}
use Rattle.history_check.specs.Notes.{IsNoteOf, AreNotesOf, AreCellNotes, IsPendingWrite, ArePendingIn, AreAscending, SetsPlaceAt, GainAt, IsNumberAmong, IsGained, GainAmong}
use Rattle.history_check.proofs.NoteLemmas.{blank_note, note_stays, note_writes, note_commits}

-- ---- a transaction is noted at the cells of its writes, one after another

pub gain_none : (of_events places : List ℕ) (txn : ℕ) (notes : List CellNote) → AreAscending notes → GainAmong of_events places 0 txn notes notes
gain_none of_events places txn notes rises = record {
  count = refl;
  each = λ i before after at_before at_after.
      let both : Some before ≡ Some after = sym at_before ∙ at_after in
      let one : before ≡ after = cc in
      subst (λ (n : CellNote). IsGained of_events places 0 txn i before n) one record {
        places_are = refl;
        ascending = rises i before at_before;
        exact = λ other. (λ there. inl there, λ either. elim either [ inl was ↦ was | inr now ↦ let below = now.0.2 in absurd (omega arith) ]);
      };
}

pub gain_ascending : (of_events places : List ℕ) (n txn : ℕ) (old new : List CellNote) → GainAmong of_events places n txn old new → AreAscending new
gain_ascending of_events places n txn old new gain i note at =
    let within = slice_get_within new i note at in
    let count = gain.count in
    elim (slice_get_cases old i).1 [
      | inl found ↦ (gain.each i found.0 note found.2 at).ascending
      | inr none ↦ let h = none.0 in absurd (omega arith)
    ]

pub gain_more :
    (of_events places : List ℕ) (n txn place : ℕ) (old mid new : List CellNote) → slice_get places n ≡ Some place → GainAmong of_events places n txn old mid →
    GainAt (get_or of_events place 0) txn mid new → GainAmong of_events places (n + 1) txn old new
gain_more of_events places n txn place old mid new at before gain =
    subst (λ (ns : List CellNote). GainAmong of_events places (n + 1) txn old ns) (sym gain.set_to) record {
      count = length-set mid here gain.after ∙ before.count;
      each = λ i was is at_was at_is. elim (slice_get-set_cases mid here i gain.after is at_is) [
        | inl same ↦
            let is_there : slice_get mid i ≡ Some gain.before = ap (λ (j : ℕ). slice_get mid j) same.0 ∙ gain.is in
            let so_far : IsGained of_events places n txn i was gain.before = before.each i was gain.before at_was is_there in
            subst (λ (c : CellNote). IsGained of_events places (n + 1) txn i was c) same.1 record {
              places_are = gain.changes.places ∙ so_far.places_are;
              ascending = gain.changes.ascending;
              exact = λ other. (
                λ there. elim ((gain.changes.gains other).0 there) [
                  | inl mid_there ↦ elim ((so_far.exact other).0 mid_there) [
                    | inl old_there ↦ inl old_there
                    | inr among ↦ inr (more i among.0, among.1)
                  ]
                  | inr now ↦ inr ((n, place, omega arith, at, sym same.0), now)
                ],
                λ either. elim either [
                  | inl old_there ↦ (gain.changes.gains other).1 (inl ((so_far.exact other).1 (inl old_there)))
                  | inr among ↦ (gain.changes.gains other).1 (inr among.1)
                ],
              );
            }
        | inr apart ↦
            let so_far : IsGained of_events places n txn i was is = before.each i was is at_was apart.1 in
            record {
              places_are = so_far.places_are;
              ascending = so_far.ascending;
              exact = λ other. (
                λ there. elim ((so_far.exact other).0 there) [ inl old_there ↦ inl old_there | inr among ↦ inr (more i among.0, among.1) ],
                λ either. elim either [
                  | inl old_there ↦ (so_far.exact other).1 (inl old_there)
                  | inr among ↦ (so_far.exact other).1 (inr (fewer i apart.0 among.0, among.1))
                ],
              );
            }
      ];
    }
  where
    here : ℕ
    here = get_or of_events place 0

    more : (i : ℕ) → IsNumberAmong of_events places n i → IsNumberAmong of_events places (n + 1) i
    more i (k, p, below, is, number) = (k, p, omega arith, is, number)

    fewer : (i : ℕ) → (i ≡ here → ⊥) → IsNumberAmong of_events places (n + 1) i → IsNumberAmong of_events places n i
    fewer i apart (k, p, below, is, number) = elim (cases_lt k n) [
      | inl earlier ↦ (k, p, earlier, is, number)
      | inr last ↦
          let same : k ≡ n = omega arith in
          let both : Some p ≡ Some place = sym is ∙ ap (λ (j : ℕ). slice_get places j) same ∙ at in
          let one : p ≡ place = cc in
          absurd (apart (sym number ∙ ap (λ (q : ℕ). get_or of_events q 0) one))
    ]

-- ---- one event more

pub cells_none : (cells : List Cell) (notes : List CellNote) → length notes ≡ length cells → AreBlank notes → AreNotesOf [] cells notes
cells_none cells notes count blank = record { count = count; each = λ i cell note at_cell at_note. let none = blank i note at_note in blank_note cell note none.0 none.1 }

pub cells_none_if :
    {E : Type 0} (r : Result CellNotes E) → IfOk r (λ cells. length cells.notes.items ≡ length cells.numbers.cells.keys) → IfOk r (λ cells. AreBlank cells.notes.items) →
    IfOk r (AreCellNotes [])
cells_none_if (Ok cells) count blank = cells_none cells.numbers.cells.keys cells.notes.items count blank
cells_none_if (Err e) count blank = tt

-- the committed transactions ascend in all notes
pub ascending_of : {events : List Event} {cells : List Cell} {notes : List CellNote} → AreNotesOf events cells notes → AreAscending notes
ascending_of {events} {cells} {notes} are i note at =
    let within = slice_get_within notes i note at in
    let count = are.count in
    elim (slice_get_cases cells i).1 [
      | inl found ↦ (are.each i found.0 note found.2 at).ascending
      | inr none ↦ let h = none.0 in absurd (omega arith)
    ]

-- the event neither writes nor commits
pub cells_stay :
    (events : List Event) (e : Event) (cells : List Cell) (notes : List CellNote) → ((s : ℕ) (cell : Cell) (v : Value) → e ≡ Write s cell v → ⊥) → ((s : ℕ) → e ≡ Commit s → ⊥) →
    AreNotesOf events cells notes → AreNotesOf (events ++ e ∷ []) cells notes
cells_stay events e cells notes no_write no_commit are = record {
  count = are.count;
  each = λ i cell note at_cell at_note. note_stays events e cell note (λ s v same. no_write s cell v same) no_commit (are.each i cell note at_cell at_note);
}

pub cells_write :
    (events : List Event) → IsSound events → (s k at : ℕ) (cell : Cell) (v : Value) (cells : List Cell) (old new : List CellNote) → AreUnique cells → slice_get cells at ≡ Some cell →
    IsPending events k s → SetsPlaceAt at k (length events) old new → AreNotesOf events cells old → AreNotesOf (events ++ Write s cell v ∷ []) cells new
cells_write events sound s k at cell v cells old new unique here pending sets are =
    subst (λ (ns : List CellNote). AreNotesOf (events ++ Write s cell v ∷ []) cells ns) (sym sets.set_to) record {
      count = length-set old at sets.after ∙ are.count;
      each = λ i q note at_cell at_note. elim (slice_get-set_cases old at i sets.after note at_note) [
        | inl same ↦
            let both : Some q ≡ Some cell = sym at_cell ∙ ap (λ (j : ℕ). slice_get cells j) same.0 ∙ here in
            let one : q ≡ cell = cc in
            let made : IsNoteOf (events ++ Write s cell v ∷ []) cell sets.after =
            note_writes events sound s k cell v sets.before sets.after pending sets.changes (are.each at cell sets.before here sets.is)
            in
            subst (λ (n : CellNote). IsNoteOf (events ++ Write s cell v ∷ []) q n) same.1
            (subst (λ (c : Cell). IsNoteOf (events ++ Write s cell v ∷ []) c sets.after) (sym one) made)
        | inr apart ↦
            note_stays events (Write s cell v) q note (λ t u same. let one = written t q u same in apart.0 (unique i at q at_cell (subst (λ (c : Cell). slice_get cells at ≡ Some c) one here)))
            (λ t same. cc) (are.each i q note at_cell apart.1)
      ];
    }
  where
    written : (t : ℕ) (q : Cell) (u : Value) → Write s cell v ≡ Write t q u → cell ≡ q
    written t q u same = cc

slice_kept : (events : List Event) (e : Event) (place : ℕ) (f : Event) → slice_get events place ≡ Some f → slice_get (events ++ e ∷ []) place ≡ Some f
slice_kept events e place f is = slice_get-append_left events (e ∷ []) place (slice_get_within events place f is) ∙ is

-- one of the pending writes is of the cell of the number exactly where the transaction has written it
wrote_among :
    (events : List Event) → IsSound events → (s k i : ℕ) (cell : Cell) (numbers : CellNumbers) (places : List ℕ) → AreNumbered (events ++ Commit s ∷ []) numbers → IsPending events k s →
    ArePendingIn events s places → slice_get numbers.cells.keys i ≡ Some cell →
    IsNumberAmong numbers.of_events.items places (length places) i → HasWritten events k cell
wrote_among events sound s k i cell numbers places numbered pending are at (n, place, below, is, number) =
    let write : IsPendingWrite events s place = (are place).0 (contains_at places n place is) in
    let own : write.txn ≡ k = pending_unique events sound s write.txn k write.pending pending in
    let there : slice_get (events ++ Commit s ∷ []) place ≡ Some (Write s write.cell write.value) = slice_kept events (Commit s) place (Write s write.cell write.value) write.write.is in
    let cell_is : slice_get numbers.cells.keys (get_or numbers.of_events.items place 0) ≡ Some write.cell = numbered.each place (Write s write.cell write.value) write.cell there refl in
    let both : Some write.cell ≡ Some cell = sym cell_is ∙ ap (λ (j : ℕ). slice_get numbers.cells.keys j) number ∙ at in
    let one : write.cell ≡ cell = cc in
    subst (λ (c : Cell). HasWritten events k c) one
    (subst (λ (t : ℕ). HasWritten events t write.cell) own record { place = place; session = s; value = write.value; write = write.write })

among_wrote :
    (events : List Event) → IsSound events → (s k i : ℕ) (cell : Cell) (numbers : CellNumbers) (places : List ℕ) → AreNumbered (events ++ Commit s ∷ []) numbers → IsPending events k s →
    ArePendingIn events s places → slice_get numbers.cells.keys i ≡ Some cell →
    HasWritten events k cell → IsNumberAmong numbers.of_events.items places (length places) i
among_wrote events sound s k i cell numbers places numbered pending are at written =
    let session : written.session ≡ s = start_session events k written.session s written.write.start pending.start written.write.starts pending.starts in
    let write : IsPendingWrite events s written.place = record {
      txn = k;
      cell = cell;
      value = written.value;
      pending = pending;
      write = subst (λ (t : ℕ). IsOf events k written.place (Write t cell written.value)) session written.write;
    } in
    let there = at_contains places written.place ((are written.place).1 write) in
    let inside = slice_get_within places there.0 written.place there.1 in
    let there_event = slice_kept events (Commit s) written.place (Write written.session cell written.value) written.write.is in
    let cell_is : slice_get numbers.cells.keys (get_or numbers.of_events.items written.place 0) ≡ Some cell =
    numbered.each written.place (Write written.session cell written.value) cell there_event refl
    in
    (there.0, written.place, inside, there.1, numbered.unique (get_or numbers.of_events.items written.place 0) i cell cell_is at)

pub cells_commit :
    (events : List Event) → IsSound events → (s k : ℕ) (numbers : CellNumbers) (places : List ℕ) (old new : List CellNote) → AreNumbered (events ++ Commit s ∷ []) numbers → IsPending events k s →
    ArePendingIn events s places → GainAmong numbers.of_events.items places (length places) k old new → AreNotesOf events numbers.cells.keys old →
    AreNotesOf (events ++ Commit s ∷ []) numbers.cells.keys new
cells_commit events sound s k numbers places old new numbered pending pending_are gain are = record {
  count = gain.count ∙ are.count;
  each = λ i cell note at_cell at_note.
      let within = slice_get_within new i note at_note in
      let count = gain.count in
      elim (slice_get_cases old i).1 [
        | inl found ↦
            let gained = gain.each i found.0 note found.2 at_note in
            note_commits events sound s k cell (IsNumberAmong numbers.of_events.items places (length places) i) found.0 note pending
            (wrote_among events sound s k i cell numbers places numbered pending pending_are at_cell)
            (among_wrote events sound s k i cell numbers places numbered pending pending_are at_cell) gained.places_are gained.ascending gained.exact
            (are.each i cell found.0 at_cell found.2)
        | inr none ↦ let h = none.0 in absurd (omega arith)
      ];
}

-- no event but these changes a note
abbrev pub LeavesCells : Event → Type 0
LeavesCells (Write s x v) = ⊥
LeavesCells (Commit s) = ⊥
LeavesCells _ = Unit {0}

pub cells_other : (events : List Event) (e : Event) (cells : List Cell) (notes : List CellNote) → LeavesCells e → AreNotesOf events cells notes → AreNotesOf (events ++ e ∷ []) cells notes
cells_other events (Open s) cells notes leaves are = cells_stay events (Open s) cells notes (λ t x v same. cc) (λ t same. cc) are
cells_other events (Close s) cells notes leaves are = cells_stay events (Close s) cells notes (λ t x v same. cc) (λ t same. cc) are
cells_other events (Define s name) cells notes leaves are = cells_stay events (Define s name) cells notes (λ t x v same. cc) (λ t same. cc) are
cells_other events (Look s n) cells notes leaves are = cells_stay events (Look s n) cells notes (λ t x v same. cc) (λ t same. cc) are
cells_other events (Begin s level) cells notes leaves are = cells_stay events (Begin s level) cells notes (λ t x v same. cc) (λ t same. cc) are
cells_other events (Scan s table keys) cells notes leaves are = cells_stay events (Scan s table keys) cells notes (λ t x v same. cc) (λ t same. cc) are
cells_other events (Read s y w n u q) cells notes leaves are = cells_stay events (Read s y w n u q) cells notes (λ t x v same. cc) (λ t same. cc) are
cells_other events (Own s y q) cells notes leaves are = cells_stay events (Own s y q) cells notes (λ t x v same. cc) (λ t same. cc) are
cells_other events (Rollback s) cells notes leaves are = cells_stay events (Rollback s) cells notes (λ t x v same. cc) (λ t same. cc) are
cells_other events (Show s n) cells notes leaves are = cells_stay events (Show s n) cells notes (λ t x v same. cc) (λ t same. cc) are
cells_other events (Write s x v) cells notes leaves are = absurd leaves
cells_other events (Commit s) cells notes leaves are = absurd leaves

-- ---- the numbers of a part of the events

pub numbered_before : (events : List Event) (e : Event) (numbers : CellNumbers) → AreNumbered (events ++ e ∷ []) numbers → AreNumbered events numbers
numbered_before events e numbers are =
    let longer = length_push events e in
    record {
      long = let l = are.long in omega arith;
      unique = are.unique;
      each = λ k f cell is of. are.each k f cell (slice_kept events e k f is) of;
    }

pub numbered_to : (events : List Event) (n : ℕ) (e : Event) (numbers : CellNumbers) → slice_get events n ≡ Some e → AreNumbered events numbers → AreNumbered (take n events ++ e ∷ []) numbers
numbered_to events n e numbers at are =
    let within = slice_get_within events n e at in
    let short : length (take n events) ≡ n = length-take-le n events (omega arith) in
    let longer = length_push (take n events) e in
    record {
      long = let l = are.long in omega arith;
      unique = are.unique;
      each = λ k f cell is of. elim (slice_get_push_cases (take n events) e k f is) [
        | inl before ↦ are.each k f cell (sym (slice_get-take events n k (let h = before.0 in omega arith)) ∙ before.1) of
        | inr now ↦
            let same : k ≡ n = now.0 ∙ short in
            are.each k f cell (ap (λ (j : ℕ). slice_get events j) same ∙ at ∙ ap (λ (x : Event). Some x) now.1) of
      ];
    }

-- what an order is judged by
pub writers_of : (events : List Event) (cells : CellNotes) → AreNumbered events cells.numbers → AreCellNotes events cells → AreWriters events cells
writers_of events cells numbered are = record { numbered = numbered; count = are.count; ascending = ascending_of are; exact = λ i cell note number at_cell at_note. (are.each i cell note at_cell at_note).exact number }

-- what has no number is never written
pub never_written :
    (events : List Event) (cell : Cell) (numbers : CellNumbers) → AreNumbered events numbers → ((n : ℕ) → slice_get numbers.cells.keys n ≡ Some cell → ⊥) → (number : ℕ) →
    HasWritten events number cell → ⊥
never_written events cell numbers numbered none number written =
    none (get_or numbers.of_events.items written.place 0)
    (numbered.each written.place (Write written.session cell written.value) cell written.write.is refl)

-- ---- the places of pending writes among the numbers

pub pending_within :
    (events : List Event) (e : Event) (s : ℕ) (places : List ℕ) (numbers : CellNumbers) → AreNumbered (events ++ e ∷ []) numbers → ArePendingIn events s places → (k place : ℕ) →
    slice_get places k ≡ Some place → place < length numbers.of_events.items
pending_within events e s places numbers numbered are k place is =
    let write : IsPendingWrite events s place = (are place).0 (contains_at places k place is) in
    let within = slice_get_within events place (Write s write.cell write.value) write.write.is in
    let longer = length_push events e in
    let long = numbered.long in
    omega arith

pub pending_number :
    (events : List Event) (e : Event) (s : ℕ) (places : List ℕ) (numbers : CellNumbers) (notes : List CellNote) → AreNumbered (events ++ e ∷ []) numbers →
    length notes ≡ length numbers.cells.keys → ArePendingIn events s places → (k place : ℕ) → slice_get places k ≡ Some place →
    get_or numbers.of_events.items place 0 < length notes
pending_number events e s places numbers notes numbered count are k place is =
    let write : IsPendingWrite events s place = (are place).0 (contains_at places k place is) in
    let there = slice_kept events e place (Write s write.cell write.value) write.write.is in
    let within = slice_get_within numbers.cells.keys (get_or numbers.of_events.items place 0) write.cell (numbered.each place (Write s write.cell write.value) write.cell there refl) in
    omega arith
