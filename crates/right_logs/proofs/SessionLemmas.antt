-- How a pass goes on standing for the events where a session opens or closes, defines a table, looks or shows.
use Rattle.std.proofs.Common.{◌≡◌, ℕ, ◌+◌, List, [], ◌∷◌, ◌++◌, None, true, length, arith, refl, ap, sym, ◌∙◌, subst}
use Rattle.std.specs.List.{Contains}
use Rattle.std.proofs.lemmas.List.{length_push, get_or_append_left, get_or_push}
use Rattle.std.proofs.lemmas.List.Elements.{filter_map-append}
use Rattle.history_core.specs.declared.event.Event.{Event}
use Rattle.history_core.specs.declared.event.Event.TheVariants.{Open, Close, Define, Look, Show}
use Rattle.history_core.specs.Events.{opened, defined_name}
use Rattle.order_test.specs.Glance.{HoldsLast, IsWidened}
use Rattle.order_test.proofs.GlanceLemmas.{last_widened}
use Rattle.history_check.specs.declared.session_note.SessionNote.{SessionNote}
use Rattle.history_check.specs.declared.pending_writes.PendingWrites.{PendingWrites}
use Rattle.history_check.specs.Rules.{IsRight}
use Rattle.history_check.specs.Notes.{StandsForSessionNotes, StandsForPendingWrites, IsClosed}
use Rattle.history_check.proofs.Rights.{opened-push}
use Rattle.history_check.proofs.SessionNoteLemmas.{session_notes_plain, session_notes_open, session_notes_close, plain_define, plain_look, plain_show}
use Rattle.history_check.proofs.PendingLemmas.{pending_open}
use Rattle.history_check.proofs.Verdicts.{open_right, close_right, define_right, look_right, show_right}
use Rattle.right_logs.specs.declared.pass.Pass.{Pass}
use Rattle.right_logs.specs.Passes.{StandsFor}
use Rattle.right_logs.specs.Seats.{IsOpenIn, IsIdleIn}
use Rattle.right_logs.proofs.Still.{open_from, idle_from, quiet_open, quiet_close, quiet_define, quiet_look, quiet_show, quiet_goes, plain_goes, NotesPlace, NotesNothing, pending_same, names_same, room_same, last_same, right_push, cells_kept}
use Rattle.right_logs.proofs.Sights.{SameSights, OpensReads, sights_still, sights_open}

-- ---- a session opens

widened_push : (last : List ℕ) → IsWidened (length last + 1) last (last ++ 0 ∷ [])
widened_push last = record {
  wider = omega arith;
  count = length_push last 0;
  kept = λ s small. get_or_append_left last (0 ∷ []) 0 s small;
  zeros = λ s past small. get_or_push last 0 0 s (omega arith);
}

last_opens : (events : List Event) (old new : List ℕ) → new ≡ old ++ 0 ∷ [] → HoldsLast events old → HoldsLast events new
last_opens events old new pushed holds =
    subst (λ (last : List ℕ). HoldsLast events last) (sym pushed) (last_widened events (length old + 1) old (old ++ 0 ∷ []) (widened_push old) holds)

room_opens :
    (events : List Event) (s : ℕ) (old new : List ℕ) → new ≡ old ++ 0 ∷ [] → length old ≡ opened events + 1 → length new ≡ opened (events ++ Open s ∷ []) + 1
room_opens events s old new pushed room =
    let longer : length new ≡ length old + 1 = ap length pushed ∙ length_push old 0 in
    let more : opened (events ++ Open s ∷ []) ≡ opened events + 1 = opened-push events (Open s) in omega arith

-- the session has a note, a list of pending writes, room for its last transaction and a list of reads
pub record NotesOpen (old new : Pass) : Type 0 where
  pub note : SessionNote
  pub is_open : note.is_open ≡ true
  pub none_pending : note.pending ≡ None
  pub session_notes : new.session_notes.items ≡ old.session_notes.items ++ note ∷ []
  pub blank : PendingWrites
  pub no_place : blank.places.items ≡ []
  pub pending : new.pending.items ≡ old.pending.items ++ blank ∷ []
  pub names_are : new.names.items ≡ old.names.items
  pub last : new.last.items ≡ old.last.items ++ 0 ∷ []
  pub sights : OpensReads old new
  pub place : NotesPlace old new

pub open_goes :
    (order places : List ℕ) (events : List Event) (s : ℕ) (old new : Pass) → s ≡ length old.session_notes.items + 1 → NotesOpen old new → StandsFor order places events old →
    StandsFor order places (events ++ Open s ∷ []) new
open_goes order places events s old new next notes stands =
    let number : s ≡ opened events + 1 = next ∙ ap (λ (n : ℕ). n + 1) stands.session_notes.count in
    let right : IsRight [] events (Open s) = open_right [] events s number in
    quiet_goes order places events (Open s) old new (quiet_open s) right notes.place
    (subst (λ (session_notes : List SessionNote). StandsForSessionNotes (events ++ Open s ∷ []) session_notes) (sym notes.session_notes)
    (session_notes_open events s old.session_notes.items notes.note stands.sessions number notes.is_open notes.none_pending stands.session_notes))
    (subst (λ (lists : List PendingWrites). StandsForPendingWrites (events ++ Open s ∷ []) lists) (sym notes.pending)
    (pending_open events s old.pending.items notes.blank stands.sessions notes.no_place stands.pending))
    (names_same events (Open s) old.names.items new.names.items refl notes.names_are stands.names_are)
    (room_opens events s old.last.items new.last.items notes.last stands.room)
    (last_opens events old.last.items new.last.items notes.last stands.last)
    (sights_open places events s old new (right_push events (Open s) stands.right right) notes.sights
    (cells_kept old.cells.numbers.cells.keys new.cells.numbers.cells.keys notes.place.keys) stands.sights) stands

-- ---- a session closes

pub record NotesClose (s : ℕ) (old new : Pass) : Type 0 where
  pub session_notes : IsClosed old.session_notes.items s new.session_notes.items
  pub pending : new.pending.items ≡ old.pending.items
  pub names_are : new.names.items ≡ old.names.items
  pub last : new.last.items ≡ old.last.items
  pub sights : SameSights old new
  pub place : NotesPlace old new

pub close_goes :
    (order places : List ℕ) (events : List Event) (s : ℕ) (old new : Pass) → IsIdleIn old.session_notes.items s → NotesClose s old new → StandsFor order places events old →
    StandsFor order places (events ++ Close s ∷ []) new
close_goes order places events s old new idle notes stands =
    let right : IsRight [] events (Close s) = close_right [] events s (idle_from events old.session_notes.items s stands.session_notes idle) in
    quiet_goes order places events (Close s) old new (quiet_close s) right notes.place
    (session_notes_close events s old.session_notes.items new.session_notes.items notes.session_notes stands.session_notes)
    (pending_same events (Close s) old.pending.items new.pending.items tt notes.pending stands.pending)
    (names_same events (Close s) old.names.items new.names.items refl notes.names_are stands.names_are)
    (room_same events (Close s) old.last.items new.last.items refl notes.last stands.room)
    (last_same events old.last.items new.last.items notes.last stands.last)
    (sights_still places events (Close s) old new (right_push events (Close s) stands.right right) tt refl notes.sights
    (cells_kept old.cells.numbers.cells.keys new.cells.numbers.cells.keys notes.place.keys) stands.sights) stands

-- ---- a session defines a table

pub record NotesDefine (name : List ℕ) (old new : Pass) : Type 0 where
  pub session_notes : new.session_notes.items ≡ old.session_notes.items
  pub pending : new.pending.items ≡ old.pending.items
  pub names_are : new.names.items ≡ old.names.items ++ name ∷ []
  pub last : new.last.items ≡ old.last.items
  pub sights : SameSights old new
  pub place : NotesPlace old new

pub define_goes :
    (order places : List ℕ) (events : List Event) (s : ℕ) (name : List ℕ) (old new : Pass) → IsOpenIn old.session_notes.items s → (Contains old.names.items name → ⊥) →
    NotesDefine name old new → StandsFor order places events old → StandsFor order places (events ++ Define s name ∷ []) new
define_goes order places events s name old new opens free notes stands =
    let right : IsRight [] events (Define s name) =
    define_right [] events s name (
      open_from events old.session_notes.items s stands.session_notes opens,
      λ taken. free (subst (λ (names : List (List ℕ)). Contains names name) (sym stands.names_are) taken),
    )
    in
    quiet_goes order places events (Define s name) old new (quiet_define s name) right notes.place
    (subst (λ (session_notes : List SessionNote). StandsForSessionNotes (events ++ Define s name ∷ []) session_notes) (sym notes.session_notes)
    (session_notes_plain events (Define s name) old.session_notes.items (plain_define s name) stands.session_notes))
    (pending_same events (Define s name) old.pending.items new.pending.items tt notes.pending stands.pending)
    (notes.names_are ∙ ap (λ (names : List (List ℕ)). names ++ name ∷ []) stands.names_are ∙ sym (filter_map-append defined_name events (Define s name ∷ [])))
    (room_same events (Define s name) old.last.items new.last.items refl notes.last stands.room)
    (last_same events old.last.items new.last.items notes.last stands.last)
    (sights_still places events (Define s name) old new (right_push events (Define s name) stands.right right) tt refl notes.sights
    (cells_kept old.cells.numbers.cells.keys new.cells.numbers.cells.keys notes.place.keys) stands.sights) stands

-- ---- a session looks, or shows

pub look_goes :
    (order places : List ℕ) (events : List Event) (s tables : ℕ) (old new : Pass) → IsOpenIn old.session_notes.items s → tables ≡ length old.names.items → NotesNothing old new →
    StandsFor order places events old → StandsFor order places (events ++ Look s tables ∷ []) new
look_goes order places events s tables old new opens counts nothing stands =
    plain_goes order places events (Look s tables) old new (quiet_look s tables) (plain_look s tables) tt refl
    (look_right [] events s tables (open_from events old.session_notes.items s stands.session_notes opens) (counts ∙ stands.tables)) nothing stands

pub show_goes :
    (order places : List ℕ) (events : List Event) (s number : ℕ) (old new : Pass) → IsOpenIn old.session_notes.items s → number ≡ length old.values + 1 → NotesNothing old new →
    StandsFor order places events old → StandsFor order places (events ++ Show s number ∷ []) new
show_goes order places events s number old new opens counts nothing stands =
    plain_goes order places events (Show s number) old new (quiet_show s number) (plain_show s number) tt refl
    (show_right [] events s number (open_from events old.session_notes.items s stands.session_notes opens) (counts ∙ ap (λ (n : ℕ). n + 1) stands.values.count)) nothing stands
