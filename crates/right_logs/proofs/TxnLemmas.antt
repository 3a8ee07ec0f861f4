-- How a pass goes on standing for the events where a transaction begins or ends.
use Rattle.std.proofs.Common.{◌≡◌, ℕ, ◌+◌, ◌-◌, ◌<◌, ◌≤◌, List, [], ◌∷◌, ◌++◌, Bool, Some, None, true, false, length, get_or, set, arith, refl, ap, sym, ◌∙◌, subst}
use Rattle.std.specs.List.{slice_get}
use Rattle.std.proofs.lemmas.List.{length_push, length-set, get_or_append_left}
use Rattle.std.proofs.lemmas.List.Sums.{count_by-le-length}
use Rattle.std.proofs.lemmas.Option.{slice_get_within}
use Rattle.txn_buffer.proofs.Lists.{contains_at}
use Rattle.cell_base.specs.declared.level.Level.{Level}
use Rattle.cell_base.specs.declared.cell.Cell.{Cell}
use Rattle.cell_base.specs.declared.value.Value.TheVariants.{Unset}
use Rattle.history_core.specs.declared.event.Event.{Event}
use Rattle.history_core.specs.declared.event.Event.TheVariants.{Begin, Write, Commit, Rollback}
use Rattle.history_core.specs.Events.{begun, opened, names, is_begin}
use Rattle.history_core.specs.Transactions.{IsPending}
use Rattle.history_core.proofs.Next.{pending_bounded}
use Rattle.history_core.proofs.Numbers.{pending_positive}
use Rattle.further_reads.specs.Begun.{IsLastBegun}
use Rattle.cell_writers.specs.declared.cell_note.CellNote.{CellNote}
use Rattle.cell_writers.specs.Numbered.{AreNumberedSo}
use Rattle.order_test.specs.Places.{StandsAt}
use Rattle.order_test.specs.Glance.{HoldsLast}
use Rattle.order_test.proofs.PastSteps.{sound_from}
use Rattle.order_test.proofs.Taken.{last_bounded}
use Rattle.order_test.proofs.GlanceLemmas.{last_begins, last_still, keeps_still, keeps_begin, stands_from}
use Rattle.history_check.specs.Rules.{IsRight}
use Rattle.history_check.specs.Breaches.{AreRight}
use Rattle.history_check.specs.Notes.{StandsForPendingWrites, StandsForCommits, AreNotesOf, AreAscending, IsPendingWrite, ArePendingIn, TakesPending, IsChangedTo, GainAmong}
use Rattle.history_check.specs.declared.pending_writes.PendingWrites.{PendingWrites}
use Rattle.history_check.proofs.Verdicts.{begin_right, commit_right, rollback_right}
use Rattle.history_check.proofs.SessionNoteLemmas.{session_notes_begin, session_notes_commit, session_notes_rollback}
use Rattle.history_check.proofs.PendingLemmas.{pending_other, pending_end}
use Rattle.history_check.proofs.CommitLemmas.{commits_begin, commits_commit}
use Rattle.history_check.proofs.CellSteps.{cells_other, cells_commit, ascending_of}
use Rattle.right_logs.specs.declared.pass.Pass.{Pass}
use Rattle.right_logs.specs.Passes.{StandsFor, Stands}
use Rattle.right_logs.specs.Seats.{IsIdleIn, IsPendingIn}
use Rattle.right_logs.proofs.Still.{idle_from, pending_from, idle_in_place, session_in_place, last_of_session, right_push, settled_right, sessions_right, room_right, room_still, names_still, values_push, numbered_skip, no_scan_push, cells_kept, quiet_rollback, NotesPlace, quiet_goes}
use Rattle.right_logs.proofs.Sights.{BeginsSights, sights_begin}
use Rattle.right_logs.proofs.SightEnds.{EndsSights, sights_end}

-- ---- what stands where in the lists of a pass

-- an idle session has its last transaction
pub idle_room : (places : List ℕ) (pass : Pass) (s : ℕ) → Stands places pass → IsIdleIn pass.session_notes.items s → s < length pass.last.items
idle_room places pass s stands idle =
    let all = stands.1.1 in
    let seat = idle_in_place pass.session_notes.items s idle in
    let high = seat.1 in
    let count = all.session_notes.count in
    last_of_session stands.0 places stands.1.0 pass s all seat.0 (omega arith)

-- there are no more transactions than events, the initial one aside
pub txns_few : (places : List ℕ) (pass : Pass) → Stands places pass → length pass.values < 2147483644 → length pass.txns.items < 4294967296
txns_few places pass stands few =
    let count = stands.1.1.sights.txns.count in
    let long = stands.1.1.values.count in
    let begins = count_by-le-length is_begin stands.1.0 in
    omega arith

-- the last transaction of a session has its note
pub last_noted :
    (places : List ℕ) (pass : Pass) (s last : ℕ) → Stands places pass → s < length pass.last.items → last ≡ get_or pass.last.items s 0 → last < length pass.txns.items
last_noted places pass s last stands inside is =
    let count = stands.1.1.sights.txns.count in
    let bound = last_bounded stands.1.0 s (get_or pass.last.items s 0) (stands.1.1.last.each s inside) in
    omega arith

-- a session with a pending transaction has its list of pending writes
pub pending_room : (places : List ℕ) (pass : Pass) (s number : ℕ) → Stands places pass → IsPendingIn pass.session_notes.items s number → (0 < s) × (s ≤ length pass.pending.items)
pending_room places pass s number stands is =
    let seat = session_in_place pass.session_notes.items s number is in
    let high = seat.1 in
    let notes = stands.1.1.session_notes.count in
    let lists = stands.1.1.pending.count in
    (seat.0, omega arith)

-- it has its list of reads
pub reads_room : (places : List ℕ) (pass : Pass) (s number : ℕ) → Stands places pass → IsPendingIn pass.session_notes.items s number → (0 < s) × (s ≤ length pass.reads.items)
reads_room places pass s number stands is =
    let seat = session_in_place pass.session_notes.items s number is in
    let high = seat.1 in
    let notes = stands.1.1.session_notes.count in
    let lists = stands.1.1.sights.lists in
    (seat.0, omega arith)

-- a pending transaction has its flag
pub flag_room : (places : List ℕ) (pass : Pass) (s number : ℕ) → Stands places pass → IsPendingIn pass.session_notes.items s number → (0 < number) × (number ≤ length pass.committed.items)
flag_room places pass s number stands is =
    let pending = pending_from stands.1.0 pass.session_notes.items s number stands.1.1.session_notes is in
    let bound = pending_bounded stands.1.0 number s pending in
    let count = stands.1.1.commits.count in
    (pending_positive stands.1.0 number s pending, omega arith)

pub notes_ascending : (places : List ℕ) (pass : Pass) → Stands places pass → AreAscending pass.cells.notes.items
notes_ascending places pass stands = ascending_of stands.1.1.cells

-- the list of the session's pending writes, whatever events the lists stand for
abbrev pub AreThoseOf : List PendingWrites → ℕ → List ℕ → Type 0
AreThoseOf lists s writes = (events : List Event) → StandsForPendingWrites events lists → ArePendingIn events s writes

pub those_of : (lists : List PendingWrites) (s place : ℕ) (pending : PendingWrites) → place + 1 ≡ s → slice_get lists place ≡ Some pending → AreThoseOf lists s pending.places.items
those_of lists s place pending number is events stands = subst (λ (n : ℕ). ArePendingIn events n pending.places.items) number (stands.each place pending is)

number_kept : (numbers pushed : List ℕ) (place : ℕ) → pushed ≡ numbers ++ 0 ∷ [] → place < length numbers → get_or pushed place 0 ≡ get_or numbers place 0
number_kept numbers pushed place is within = ap (λ (ns : List ℕ). get_or ns place 0) is ∙ get_or_append_left numbers (0 ∷ []) 0 place within

-- the pending writes stand among the events, with one more
pub writes_within :
    (places : List ℕ) (pass : Pass) (s : ℕ) (writes of_events : List ℕ) → Stands places pass → AreThoseOf pass.pending.items s writes →
    of_events ≡ pass.cells.numbers.of_events.items ++ 0 ∷ [] → (k place : ℕ) → slice_get writes k ≡ Some place → place < length of_events
writes_within places pass s writes of_events stands those pushed k place is =
    let write : IsPendingWrite stands.1.0 s place = (those stands.1.0 stands.1.1.pending place).0 (contains_at writes k place is) in
    let within = slice_get_within stands.1.0 place (Write s write.cell write.value) write.write.is in
    let count = stands.1.1.numbered.count in
    let long : length of_events ≡ length pass.cells.numbers.of_events.items + 1 = ap length pushed ∙ length_push pass.cells.numbers.of_events.items 0 in
    omega arith

-- their cells have notes
pub writes_noted :
    (places : List ℕ) (pass : Pass) (s : ℕ) (writes of_events : List ℕ) → Stands places pass → AreThoseOf pass.pending.items s writes →
    of_events ≡ pass.cells.numbers.of_events.items ++ 0 ∷ [] → (k place : ℕ) → slice_get writes k ≡ Some place → get_or of_events place 0 < length pass.cells.notes.items
writes_noted places pass s writes of_events stands those pushed k place is =
    let write : IsPendingWrite stands.1.0 s place = (those stands.1.0 stands.1.1.pending place).0 (contains_at writes k place is) in
    let within = slice_get_within stands.1.0 place (Write s write.cell write.value) write.write.is in
    let count = stands.1.1.numbered.count in
    let same = number_kept pass.cells.numbers.of_events.items of_events place pushed (omega arith) in
    let at = stands.1.1.numbered.are.each place (Write s write.cell write.value) write.cell write.write.is refl in
    let inside = slice_get_within pass.cells.numbers.cells.keys (get_or pass.cells.numbers.of_events.items place 0) write.cell at in
    let noted = stands.1.1.cells.count in
    omega arith

-- ---- a begin and a commit

-- no cell is at the event, and it has no value; no table comes
pub record NotesTxn (old new : Pass) : Type 0 where
  pub names_are : new.names.items ≡ old.names.items
  pub keys : new.cells.numbers.cells.keys ≡ old.cells.numbers.cells.keys
  pub of_events : new.cells.numbers.of_events.items ≡ old.cells.numbers.of_events.items ++ 0 ∷ []
  pub values : new.values ≡ old.values ++ Unset ∷ []

-- a transaction of the number begins in the session, after the last one there
pub record BeginsTxn (s number last : ℕ) (level : Level) (old new : Pass) : Type 0 where
  pub notes : NotesTxn old new
  pub session_notes : TakesPending old.session_notes.items s (Some number) new.session_notes.items
  pub pending : new.pending.items ≡ old.pending.items
  pub committed : new.committed.items ≡ old.committed.items ++ false ∷ []
  pub cells : new.cells.notes.items ≡ old.cells.notes.items
  pub last_set : new.last.items ≡ set old.last.items s number
  pub sights : BeginsSights s level last old new

-- the number is the next one; the order has it after the last one of the session
pub record ComesAfter (places : List ℕ) (pass : Pass) (s before number : ℕ) : Type 0 where
  pub last_is : before ≡ get_or pass.last.items s 0
  pub number_is : number ≡ length pass.txns.items
  pub stands : StandsAt places before number

-- the notes of cells with the keys are those of the events
cells_as :
    (events : List Event) (old_keys new_keys : List Cell) (old_notes new_notes : List CellNote) → new_keys ≡ old_keys → new_notes ≡ old_notes → AreNotesOf events old_keys old_notes →
    AreNotesOf events new_keys new_notes
cells_as events old_keys new_keys old_notes new_notes keys notes are =
    subst (λ (cells : List Cell). AreNotesOf events cells new_notes) (sym keys) (subst (λ (ns : List CellNote). AreNotesOf events old_keys ns) (sym notes) are)

pub begin_goes :
    (order places : List ℕ) (events : List Event) (s before number : ℕ) (level : Level) (old new : Pass) → IsIdleIn old.session_notes.items s →
    ComesAfter places old s before number → BeginsTxn s number before level old new → StandsFor order places events old → StandsFor order places (events ++ Begin s level ∷ []) new
begin_goes order places events s before number level old new idle comes begins stands =
    let e : Event = Begin s level in
    let own = idle_from events old.session_notes.items s stands.session_notes idle in
    let right : IsRight [] events e = begin_right [] events s level own in
    let seat = idle_in_place old.session_notes.items s idle in
    let high = seat.1 in
    let noted = stands.session_notes.count in
    let inside : s < length old.last.items = last_of_session order places events old s stands seat.0 (omega arith) in
    let counted : number ≡ begun events + 1 = comes.number_is ∙ stands.sights.txns.count in
    let is : IsLastBegun events s before = subst (λ (n : ℕ). IsLastBegun events s n) (sym comes.last_is) (stands.last.each s inside) in
    let at : StandsAt places before (begun events + 1) = subst (λ (n : ℕ). StandsAt places before n) counted comes.stands in
    let lasts : new.last.items ≡ set old.last.items s (begun events + 1) = begins.last_set ∙ ap (λ (n : ℕ). set old.last.items s n) counted in
    let named : new.names.items ≡ names (events ++ e ∷ []) = begins.notes.names_are ∙ stands.names_are ∙ sym (names_still events e refl) in
    let all : AreRight [] (events ++ e ∷ []) = right_push events e stands.right right in
    record {
      placed = stands.placed;
      right = all;
      settled = settled_right events e stands.settled right;
      sessions = sessions_right events e stands.sessions right;
      session_notes =
          session_notes_begin events s level old.session_notes.items new.session_notes.items own.1
          (subst (λ (n : ℕ). TakesPending old.session_notes.items s (Some n) new.session_notes.items) counted begins.session_notes) stands.session_notes;
      pending =
          subst (λ (lists : List PendingWrites). StandsForPendingWrites (events ++ e ∷ []) lists) (sym begins.pending)
          (pending_other events e old.pending.items tt stands.pending);
      commits =
          subst (λ (flags : List Bool). StandsForCommits (events ++ e ∷ []) flags) (sym begins.committed)
          (commits_begin events s level old.committed.items stands.commits);
      names_are = named;
      tables = ap length named;
      numbered = numbered_skip events e old.cells.numbers new.cells.numbers refl begins.notes.keys begins.notes.of_events stands.numbered;
      cells =
          cells_as (events ++ e ∷ []) old.cells.numbers.cells.keys new.cells.numbers.cells.keys old.cells.notes.items new.cells.notes.items begins.notes.keys begins.cells
          (cells_other events e old.cells.numbers.cells.keys old.cells.notes.items tt stands.cells);
      values =
          values_push events e old.values new.values Unset begins.notes.values
          (λ t cell v same. let both : Begin s level ≡ Write t cell v = same in cc) stands.values;
      room = room_still events e new.last.items refl (ap length begins.last_set ∙ length-set old.last.items s number ∙ stands.room);
      last =
          subst (λ (xs : List ℕ). HoldsLast (events ++ e ∷ []) xs) (sym lasts)
          (last_begins events s level old.last.items inside stands.last);
      keeps = keeps_begin events s before level order is (stands_from (length places) order places stands.placed before (begun events + 1) at) stands.keeps;
      no_scan = no_scan_push events e (λ scan. scan) stands.no_scan;
      sights =
          sights_begin places events s before level old new all (sound_from events stands.settled) is begins.sights
          (cells_kept old.cells.numbers.cells.keys new.cells.numbers.cells.keys begins.notes.keys) stands.sights;
    }

-- the pending transaction of the session commits, which is noted at the cells of its writes
pub record CommitsTxn (places : List ℕ) (s number : ℕ) (writes : List ℕ) (old new : Pass) : Type 0 where
  pub notes : NotesTxn old new
  pub session_notes : TakesPending old.session_notes.items s None new.session_notes.items
  pub pending : IsChangedTo old.pending.items s (λ before after. after ≡ []) new.pending.items
  pub committed : new.committed.items ≡ set old.committed.items (number - 1) true
  pub cells : GainAmong new.cells.numbers.of_events.items writes (length writes) number old.cells.notes.items new.cells.notes.items
  pub last : new.last.items ≡ old.last.items
  pub sights : EndsSights places s number old new

pub commit_goes :
    (order places : List ℕ) (events : List Event) (s number : ℕ) (writes : List ℕ) (old new : Pass) → IsPendingIn old.session_notes.items s number → AreThoseOf old.pending.items s writes →
    CommitsTxn places s number writes old new → StandsFor order places events old → StandsFor order places (events ++ Commit s ∷ []) new
commit_goes order places events s number writes old new is those commits stands =
    let e : Event = Commit s in
    let pending : IsPending events number s = pending_from events old.session_notes.items s number stands.session_notes is in
    let right : IsRight [] events e = commit_right [] events s (number, pending) in
    let sound = sound_from events stands.settled in
    let named : new.names.items ≡ names (events ++ e ∷ []) = commits.notes.names_are ∙ stands.names_are ∙ sym (names_still events e refl) in
    let numbered : AreNumberedSo (events ++ e ∷ []) new.cells.numbers =
    numbered_skip events e old.cells.numbers new.cells.numbers refl commits.notes.keys commits.notes.of_events stands.numbered in
    let room : length new.last.items ≡ opened (events ++ e ∷ []) + 1 = room_still events e new.last.items refl (ap length commits.last ∙ stands.room) in
    let all : AreRight [] (events ++ e ∷ []) = right_push events e stands.right right in
    record {
      placed = stands.placed;
      right = all;
      settled = settled_right events e stands.settled right;
      sessions = sessions_right events e stands.sessions right;
      session_notes = session_notes_commit events s old.session_notes.items new.session_notes.items commits.session_notes stands.session_notes;
      pending =
          pending_end events e s old.pending.items new.pending.items refl refl refl (λ t cell v same. let both : Commit s ≡ Write t cell v = same in cc) commits.pending stands.pending;
      commits = commits_commit events sound s number old.committed.items new.committed.items pending commits.committed stands.commits;
      names_are = named;
      tables = ap length named;
      numbered = numbered;
      cells =
          cells_commit events sound s number new.cells.numbers writes old.cells.notes.items new.cells.notes.items numbered.are pending (those events stands.pending) commits.cells
          (cells_as events old.cells.numbers.cells.keys new.cells.numbers.cells.keys old.cells.notes.items old.cells.notes.items commits.notes.keys refl stands.cells);
      values =
          values_push events e old.values new.values Unset commits.notes.values
          (λ t cell v same. let both : Commit s ≡ Write t cell v = same in cc) stands.values;
      room = room;
      last =
          last_still events e new.last.items refl (room_right events e new.last.items stands.sessions right room)
          (subst (λ (xs : List ℕ). HoldsLast events xs) (sym commits.last) stands.last);
      keeps = keeps_still events e order refl stands.keeps;
      no_scan = no_scan_push events e (λ scan. scan) stands.no_scan;
      sights =
          sights_end order places events e s number old new all tt refl refl refl refl pending commits.sights
          (cells_kept old.cells.numbers.cells.keys new.cells.numbers.cells.keys commits.notes.keys) stands;
    }

-- ---- a rollback

-- the pending transaction of the session is rolled back
pub record RollsBack (places : List ℕ) (s number : ℕ) (old new : Pass) : Type 0 where
  pub place : NotesPlace old new
  pub names_are : new.names.items ≡ old.names.items
  pub session_notes : TakesPending old.session_notes.items s None new.session_notes.items
  pub pending : IsChangedTo old.pending.items s (λ before after. after ≡ []) new.pending.items
  pub last : new.last.items ≡ old.last.items
  pub sights : EndsSights places s number old new

pub rollback_goes :
    (order places : List ℕ) (events : List Event) (s number : ℕ) (old new : Pass) → IsPendingIn old.session_notes.items s number → RollsBack places s number old new →
    StandsFor order places events old → StandsFor order places (events ++ Rollback s ∷ []) new
rollback_goes order places events s number old new is rolls stands =
    let e : Event = Rollback s in
    let pending : IsPending events number s = pending_from events old.session_notes.items s number stands.session_notes is in
    let right : IsRight [] events e = rollback_right [] events s (number, pending) in
    quiet_goes order places events e old new (quiet_rollback s) right rolls.place
    (session_notes_rollback events s old.session_notes.items new.session_notes.items rolls.session_notes stands.session_notes)
    (pending_end events e s old.pending.items new.pending.items refl refl refl (λ t cell v same. let both : Rollback s ≡ Write t cell v = same in cc) rolls.pending stands.pending)
    (rolls.names_are ∙ stands.names_are ∙ sym (names_still events e refl)) (room_still events e new.last.items refl (ap length rolls.last ∙ stands.room))
    (subst (λ (xs : List ℕ). HoldsLast events xs) (sym rolls.last) stands.last)
    (sights_end order places events e s number old new (right_push events e stands.right right) tt refl refl refl refl pending rolls.sights
    (cells_kept old.cells.numbers.cells.keys new.cells.numbers.cells.keys rolls.place.keys) stands) stands
