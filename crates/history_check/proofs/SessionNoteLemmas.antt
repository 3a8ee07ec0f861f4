-- How the notes of the sessions go on standing for the events.
use Rattle.std.proofs.Common.{◌≡◌, ℕ, ◌+◌, ◌<◌, ◌≤◌, List, [], ◌∷◌, ◌++◌, Option, Some, None, true, false, length, set, arith, refl, ap, sym, ◌∙◌, subst, inl, inr, get_or}
use Rattle.std.specs.List.{Contains}
use Rattle.std.proofs.lemmas.List.{length_push, length-set}
use Rattle.std.proofs.lemmas.List.Elements.{Contains-push_cases, Contains-push}
use Rattle.std.proofs.lemmas.Option.{slice_get_read}
use Rattle.cell_base.specs.declared.level.Level.{Level}
use Rattle.cell_base.specs.declared.cell.Cell.{Cell}
use Rattle.cell_base.specs.declared.key.Key.{Key}
use Rattle.cell_base.specs.declared.value.Value.{Value}
use Rattle.history_core.specs.declared.event.Event.{Event}
use Rattle.history_core.specs.declared.event.Event.TheVariants.{Open, Close, Define, Look, Begin, Scan, Read, Own, Write, Commit, Rollback, Show}
use Rattle.history_core.specs.declared.kept.SessionRecord.{SessionRecord}
use Rattle.history_core.specs.Events.{opened, begun, session_in, is_open_event, is_end}
use Rattle.history_core.specs.Transactions.{IsPending, HasPending}
use Rattle.history_core.specs.Legal.{IsOpen}
use Rattle.txn_buffer.proofs.Lists.{slice_get_push_cases, slice_get-set_cases, at_contains}
use Rattle.history_core.proofs.Next.{pending_back}
use Rattle.history_core.proofs.SessionLemmas.{IsPlain, session_goes, session_other, session_begins, session_ends, session_closes, opened-push_other}
use Rattle.history_check.specs.declared.session_note.SessionNote.{SessionNote}
use Rattle.history_check.specs.Notes.{IsSessionNoteOf, StandsForSessionNotes, ChangesSessionNote, TakesPending, IsClosed, AreOfSessions}
use Rattle.history_check.proofs.Rights.{open_bounds, pending_bounds, opened-push}

abbrev pub as_record : SessionNote → SessionRecord
as_record session_note = record { is_open = session_note.is_open; pending = session_note.pending }

pub session_note_read :
    (events : List Event) (session_notes : List SessionNote) → StandsForSessionNotes events session_notes → (i s : ℕ) (session_note : SessionNote) →
    i + 1 ≡ s → i < length session_notes → session_note ≡ get_or session_notes i session_note → IsSessionNoteOf events s session_note
session_note_read events session_notes stands i s session_note number within is =
    subst (λ (n : ℕ). IsSessionNoteOf events n session_note) number (stands.each i session_note (slice_get_read session_notes (length session_notes) i session_note refl within is))

pub session_notes_plain : (events : List Event) (e : Event) (session_notes : List SessionNote) → IsPlain e → StandsForSessionNotes events session_notes → StandsForSessionNotes (events ++ e ∷ []) session_notes
session_notes_plain events e session_notes plain stands = record {
  count = stands.count ∙ sym (opened-push_other events e plain.opens_none);
  each = λ i session_note is.
      session_goes events e (i + 1) (as_record session_note) (plain.no_open (i + 1)) (plain.no_close (i + 1)) (plain.no_begin (i + 1)) (λ _. plain.no_end)
      (stands.each i session_note is);
}

pub session_notes_change :
    (events : List Event) (e : Event) (session_notes : List SessionNote) (at : ℕ) (session_note : SessionNote) → is_open_event e ≡ false → at + 1 ≡ session_in e →
    StandsForSessionNotes events session_notes → IsSessionNoteOf (events ++ e ∷ []) (at + 1) session_note → StandsForSessionNotes (events ++ e ∷ []) (set session_notes at session_note)
session_notes_change events e session_notes at session_note other number stands is = record {
  count = length-set session_notes at session_note ∙ stands.count ∙ sym (opened-push_other events e other);
  each = λ i q there. elim (slice_get-set_cases session_notes at i session_note q there) [
    | inl here ↦
        subst (λ (u : SessionNote). IsSessionNoteOf (events ++ e ∷ []) (i + 1) u) here.1
        (subst (λ (n : ℕ). IsSessionNoteOf (events ++ e ∷ []) (n + 1) session_note) (sym here.0) is)
    | inr apart ↦ session_other events e (i + 1) (as_record q) (λ same. apart.0 (omega arith)) (stands.each i q apart.1)
  ];
}

pub session_notes_open :
    (events : List Event) (s : ℕ) (session_notes : List SessionNote) (session_note : SessionNote) → AreOfSessions events → s ≡ opened events + 1 → session_note.is_open ≡ true → session_note.pending ≡ None →
    StandsForSessionNotes events session_notes → StandsForSessionNotes (events ++ Open s ∷ []) (session_notes ++ session_note ∷ [])
session_notes_open events s session_notes session_note are number opens pending stands = record {
  count =
      let long = length_push session_notes session_note in
      let more : opened (events ++ Open s ∷ []) ≡ opened events + 1 = opened-push events (Open s) in
      let before = stands.count in omega arith;
  each = λ i q is. elim (slice_get_push_cases session_notes session_note i q is) [
    | inl old ↦
        session_other events (Open s) (i + 1) (as_record q) (λ same. let h = old.0 in let c = stands.count in absurd (omega arith)) (stands.each i q old.1)
    | inr new ↦
        let is_s : s ≡ i + 1 = let c = stands.count in let h = new.0 in omega arith in
        subst (λ (u : SessionNote). IsSessionNoteOf (events ++ Open s ∷ []) (i + 1) u) new.1
        (subst (λ (n : ℕ). IsSessionNoteOf (events ++ Open s ∷ []) n session_note) is_s made)
  ];
}
  where
    closed_never : Contains events (Close s) → ⊥
    closed_never member =
        let found = at_contains events (Close s) member in
        let h = are found.0 (Close s) found.1 in let b = h.1 in absurd (omega arith)

    made : IsSessionNoteOf (events ++ Open s ∷ []) s session_note
    made = record {
      open_is = (
        λ _. (
          Contains-push events (Open s),
          λ closed. elim (Contains-push_cases events (Open s) (Close s) closed) [ inl old ↦ closed_never old | inr new ↦ cc ],
        ),
        λ _. opens,
      );
      pending = λ k. (
        λ h. let both : None ≡ Some k = sym pending ∙ h in cc,
        λ h. absurd (elim (pending_back events (Open s) k s h) [
          | inl before ↦ let b = (pending_bounds events k s are before.0).1 in absurd (omega arith)
          | inr new ↦ let e = new.is in cc
        ]),
      );
    }

-- no other session is open or has anything pending
pub not_open_beyond : (events : List Event) (session_notes : List SessionNote) (s : ℕ) → AreOfSessions events → StandsForSessionNotes events session_notes → length session_notes < s → IsOpen events s → ⊥
not_open_beyond events session_notes s are stands beyond is =
    let h = open_bounds events s are is.0 in let c = stands.count in let b = h.1 in absurd (omega arith)

pub not_pending_beyond :
    (events : List Event) (session_notes : List SessionNote) (k s : ℕ) → AreOfSessions events → StandsForSessionNotes events session_notes → length session_notes < s → IsPending events k s → ⊥
not_pending_beyond events session_notes k s are stands beyond is =
    let h = pending_bounds events k s are is in let c = stands.count in let b = h.1 in absurd (omega arith)

-- what is pending in no session, where nothing is
none_pending : (events : List Event) (s : ℕ) (session_note : SessionNote) → IsSessionNoteOf events s session_note → (HasPending events s → ⊥) → session_note.pending ≡ None
none_pending events s session_note is none = of session_note.pending refl
  where
    of : (o : Option ℕ) → session_note.pending ≡ o → session_note.pending ≡ None
    of None same = same
    of (Some k) same = absurd (none (k, (is.pending k).0 same))

session_note_at : (events : List Event) (old new : List SessionNote) (s : ℕ) (Changes : SessionNote → SessionNote → Type 0) → (c : ChangesSessionNote old s Changes new) → StandsForSessionNotes events old →
    IsSessionNoteOf events s c.changes.before
session_note_at events old new s Changes c stands =
    subst (λ (n : ℕ). IsSessionNoteOf events n c.changes.before) c.number (stands.each c.place c.changes.before c.changes.is)

pub session_notes_begin :
    (events : List Event) (s : ℕ) (level : Level) (old new : List SessionNote) → (HasPending events s → ⊥) → TakesPending old s (Some (begun events + 1)) new →
    StandsForSessionNotes events old → StandsForSessionNotes (events ++ Begin s level ∷ []) new
session_notes_begin events s level old new none c stands =
    let before = session_note_at events old new s _ c stands in
    let after : IsSessionNoteOf (events ++ Begin s level ∷ []) s c.changes.after =
    session_begins events s level (as_record c.changes.before) (as_record c.changes.after) none
    (ap (λ (r : SessionNote). r.is_open) c.changes.changes) (ap (λ (r : SessionNote). r.pending) c.changes.changes) before in
    rw c.changes.set_to (session_notes_change events (Begin s level) old c.place c.changes.after refl c.number stands
    (subst (λ (n : ℕ). IsSessionNoteOf (events ++ Begin s level ∷ []) n c.changes.after) (sym c.number) after))

pub session_notes_end :
    (events : List Event) (e : Event) (s : ℕ) (old new : List SessionNote) → session_in e ≡ s → is_end e ≡ true → is_open_event e ≡ false → (e ≡ Open s → ⊥) → (e ≡ Close s → ⊥) →
    ((level : Level) → e ≡ Begin s level → ⊥) → TakesPending old s None new → StandsForSessionNotes events old → StandsForSessionNotes (events ++ e ∷ []) new
session_notes_end events e s old new same ends opens no_open no_close no_begin c stands =
    let before = session_note_at events old new s _ c stands in
    let after : IsSessionNoteOf (events ++ e ∷ []) s c.changes.after =
    session_ends events e s (as_record c.changes.before) (as_record c.changes.after) same ends no_open no_close no_begin
    (ap (λ (r : SessionNote). r.is_open) c.changes.changes) (ap (λ (r : SessionNote). r.pending) c.changes.changes) before in
    rw c.changes.set_to (session_notes_change events e old c.place c.changes.after opens (c.number ∙ sym same) stands
    (subst (λ (n : ℕ). IsSessionNoteOf (events ++ e ∷ []) n c.changes.after) (sym c.number) after))

pub session_notes_close :
    (events : List Event) (s : ℕ) (old new : List SessionNote) → IsClosed old s new → StandsForSessionNotes events old → StandsForSessionNotes (events ++ Close s ∷ []) new
session_notes_close events s old new c stands =
    let before = session_note_at events old new s _ c stands in
    let after : IsSessionNoteOf (events ++ Close s ∷ []) s c.changes.after =
    session_closes events s (as_record c.changes.before) (as_record c.changes.after)
    (ap (λ (r : SessionNote). r.is_open) c.changes.changes) (ap (λ (r : SessionNote). r.pending) c.changes.changes) before in
    rw c.changes.set_to (session_notes_change events (Close s) old c.place c.changes.after refl c.number stands
    (subst (λ (n : ℕ). IsSessionNoteOf (events ++ Close s ∷ []) n c.changes.after) (sym c.number) after))

-- a session that is open, or has something pending, has a note
pub open_within : (events : List Event) (session_notes : List SessionNote) (s : ℕ) → AreOfSessions events → StandsForSessionNotes events session_notes → IsOpen events s → (0 < s) × (s ≤ length session_notes)
open_within events session_notes s are stands is =
    let h = open_bounds events s are is.0 in let c = stands.count in (h.0, let b = h.1 in omega arith)

pub pending_within : (events : List Event) (session_notes : List SessionNote) (s : ℕ) → AreOfSessions events → StandsForSessionNotes events session_notes → HasPending events s → (0 < s) × (s ≤ length session_notes)
pending_within events session_notes s are stands has =
    let h = pending_bounds events has.0 s are has.1 in let c = stands.count in (h.0, let b = h.1 in omega arith)

-- the events that change no note
pub plain_look : (s n : ℕ) → IsPlain (Look s n)
plain_look s n = record { no_open = λ t h. cc; no_close = λ t h. cc; no_begin = λ t l h. cc; no_end = refl; opens_none = refl; begins_none = refl }

pub plain_define : (s : ℕ) (name : List ℕ) → IsPlain (Define s name)
plain_define s name = record { no_open = λ t h. cc; no_close = λ t h. cc; no_begin = λ t l h. cc; no_end = refl; opens_none = refl; begins_none = refl }

pub plain_show : (s n : ℕ) → IsPlain (Show s n)
plain_show s n = record { no_open = λ t h. cc; no_close = λ t h. cc; no_begin = λ t l h. cc; no_end = refl; opens_none = refl; begins_none = refl }

pub plain_scan : (s table : ℕ) (keys : List Key) → IsPlain (Scan s table keys)
plain_scan s table keys = record { no_open = λ t h. cc; no_close = λ t h. cc; no_begin = λ t l h. cc; no_end = refl; opens_none = refl; begins_none = refl }

pub plain_read : (s : ℕ) (x : Cell) (w n u : ℕ) (v : Value) → IsPlain (Read s x w n u v)
plain_read s x w n u v = record { no_open = λ t h. cc; no_close = λ t h. cc; no_begin = λ t l h. cc; no_end = refl; opens_none = refl; begins_none = refl }

pub plain_own : (s : ℕ) (x : Cell) (v : Value) → IsPlain (Own s x v)
plain_own s x v = record { no_open = λ t h. cc; no_close = λ t h. cc; no_begin = λ t l h. cc; no_end = refl; opens_none = refl; begins_none = refl }

pub plain_write : (s : ℕ) (x : Cell) (v : Value) → IsPlain (Write s x v)
plain_write s x v = record { no_open = λ t h. cc; no_close = λ t h. cc; no_begin = λ t l h. cc; no_end = refl; opens_none = refl; begins_none = refl }

pub session_notes_commit : (events : List Event) (s : ℕ) (old new : List SessionNote) → TakesPending old s None new → StandsForSessionNotes events old → StandsForSessionNotes (events ++ Commit s ∷ []) new
session_notes_commit events s old new = session_notes_end events (Commit s) s old new refl refl refl (λ h. cc) (λ h. cc) (λ l h. cc)

pub session_notes_rollback : (events : List Event) (s : ℕ) (old new : List SessionNote) → TakesPending old s None new → StandsForSessionNotes events old → StandsForSessionNotes (events ++ Rollback s ∷ []) new
session_notes_rollback events s old new = session_notes_end events (Rollback s) s old new refl refl refl (λ h. cc) (λ h. cc) (λ l h. cc)
