-- How the note of a cell goes on standing for the events.
use Rattle.std.proofs.Common.{◌≡◌, ℕ, ◌<◌, List, [], ◌∷◌, ◌++◌, Some, None, length, arith, ap, sym, ◌∙◌, subst, inl, inr, ◌⊎◌, ◌↔◌}
use Rattle.std.specs.List.{Contains}
use Rattle.std.specs.List.Sorted.{IsStrictlyIncreasing}
use Rattle.std.proofs.lemmas.Bool.{cases_eq}
use Rattle.std.proofs.lemmas.List.{length_push}
use Rattle.std.proofs.lemmas.Option.{slice_get_within}
use Rattle.cell_base.specs.declared.cell.Cell.{Cell}
use Rattle.cell_base.specs.declared.value.Value.{Value}
use Rattle.cell_writers.specs.declared.cell_note.CellNote.{CellNote}
use Rattle.cell_writers.specs.Pairs.{Pairs, get}
use Rattle.history_core.specs.declared.event.Event.{Event}
use Rattle.history_core.specs.declared.event.Event.TheVariants.{Write, Commit}
use Rattle.history_core.specs.Events.{session_in}
use Rattle.history_core.specs.Transactions.{IsPending}
use Rattle.history_core.specs.Relations.{HasWritten, Writes}
use Rattle.history_core.proofs.Grown.{of_back, writes_back}
use Rattle.history_core.proofs.Next.{of_new, committed_new}
use Rattle.history_core.proofs.Offers.{pending_unique, writer_bounded}
use Rattle.history_core.proofs.Prefixes.{IsSound, of_kept}
use Rattle.history_core.proofs.Numbers.{pending_positive}
use Rattle.indexed_history.proofs.Indexes.{written_kept, written_back}
use Rattle.saturation.proofs.After.{writes_kept}
use Rattle.history_check.specs.Notes.{IsLastWriteAt, IsNoteOf, SetsPlaceIn}

-- what a place says, where there is one
abbrev pub SoundIn : List Event → Cell → Pairs → Type 0
SoundIn events cell pairs = (number place : ℕ) → get pairs number ≡ Some place → IsLastWriteAt events number cell place

abbrev pub WholeIn : List Event → Cell → Pairs → Type 0
WholeIn events cell pairs = (number : ℕ) → HasWritten events number cell → get pairs number ≡ None → ⊥

-- ---- before all events

pub blank_note : (cell : Cell) (note : CellNote) → note.places ≡ [] → note.committed ≡ [] → IsNoteOf [] cell note
blank_note cell note no_place none = record {
  sound = λ number place is.
      let nothing : get note.places number ≡ None = ap (λ (ps : Pairs). get ps number) no_place in
      let both : None ≡ Some place = sym nothing ∙ is in cc;
  whole = λ number written. let within = slice_get_within [] written.place (Write written.session cell written.value) written.write.is in absurd (omega arith);
  ascending = subst IsStrictlyIncreasing (sym none) (λ k within. absurd (omega arith));
  exact = λ number. (
    λ there. let nothing = subst (λ (ns : List ℕ). Contains ns number) none there in let within = nothing.1 in absurd (omega arith),
    λ both. let bound : number < 1 = writer_bounded [] number cell both.1 in let positive = both.0 in absurd (omega arith),
  );
}

-- ---- an event that doesn't write the cell

last_stays :
    (events : List Event) (e : Event) (number : ℕ) (cell : Cell) (place : ℕ) → ((s : ℕ) (v : Value) → e ≡ Write s cell v → IsPending events number (session_in e) → ⊥) →
    IsLastWriteAt events number cell place → IsLastWriteAt (events ++ e ∷ []) number cell place
last_stays events e number cell place none is = record {
  session = is.session;
  value = is.value;
  write = of_kept events e number place (Write is.session cell is.value) is.write;
  last = λ q s v of. elim (of_back events e number q (Write s cell v) of) [
    | inl old ↦ is.last q s v old
    | inr new ↦ absurd (none s v new.1 new.2)
  ];
}

sound_stays :
    (events : List Event) (e : Event) (cell : Cell) (pairs : Pairs) → ((s : ℕ) (v : Value) → e ≡ Write s cell v → ⊥) → SoundIn events cell pairs → SoundIn (events ++ e ∷ []) cell pairs
sound_stays events e cell pairs none sound number place is = last_stays events e number cell place (λ s v same pending. none s v same) (sound number place is)

whole_stays :
    (events : List Event) (e : Event) (cell : Cell) (pairs : Pairs) → ((s : ℕ) (v : Value) → e ≡ Write s cell v → ⊥) → WholeIn events cell pairs → WholeIn (events ++ e ∷ []) cell pairs
whole_stays events e cell pairs none whole number written nothing =
    elim (written_back events e number cell written) [
      | inl old ↦ whole number old nothing
      | inr new ↦ none new.0 new.1.0 new.1.1.0
    ]

-- the committed ones, where none commits
committed_stay :
    (events : List Event) (e : Event) (cell : Cell) (note : CellNote) → ((s : ℕ) → e ≡ Commit s → ⊥) → IsNoteOf events cell note → (number : ℕ) →
    Contains note.committed number ↔ ((0 < number) × Writes (events ++ e ∷ []) number cell)
committed_stay events e cell note none is number = (
  λ there. let both = (is.exact number).0 there in (both.0, writes_kept events e number cell both.1),
  λ both. elim (writes_back events e number cell both.1) [
    | inl old ↦ (is.exact number).1 (both.0, old)
    | inr now ↦ absurd (none now.0 now.1.0)
  ],
)

-- an event that neither writes the cell nor commits
pub note_stays :
    (events : List Event) (e : Event) (cell : Cell) (note : CellNote) → ((s : ℕ) (v : Value) → e ≡ Write s cell v → ⊥) → ((s : ℕ) → e ≡ Commit s → ⊥) →
    IsNoteOf events cell note → IsNoteOf (events ++ e ∷ []) cell note
note_stays events e cell note no_write no_commit is = record {
  sound = sound_stays events e cell note.places no_write is.sound;
  whole = whole_stays events e cell note.places no_write is.whole;
  ascending = is.ascending;
  exact = committed_stay events e cell note no_commit is;
}

-- ---- a write of the cell

write_is_no_commit : (s u : ℕ) (cell : Cell) (v : Value) → Write s cell v ≡ Commit u → ⊥
write_is_no_commit s u cell v same = cc

pub note_writes :
    (events : List Event) → IsSound events → (s k : ℕ) (cell : Cell) (v : Value) (old new : CellNote) → IsPending events k s → SetsPlaceIn k (length events) old new →
    IsNoteOf events cell old → IsNoteOf (events ++ Write s cell v ∷ []) cell new
note_writes events sound s k cell v old new pending sets is = record {
  sound = λ number place at. elim (cases_eq number k) [
    | inl own ↦
        let here : get new.places number ≡ Some (length events) = ap (get new.places) own ∙ sets.sets.this_key in
        let both : Some (length events) ≡ Some place = sym here ∙ at in
        let one : length events ≡ place = cc in
        subst (λ (p : ℕ). IsLastWriteAt (events ++ e ∷ []) number cell p) one
        (subst (λ (n : ℕ). IsLastWriteAt (events ++ e ∷ []) n cell (length events)) (sym own) now)
    | inr other ↦
        last_stays events e number cell place (λ t u same of. other (pending_unique events sound s number k of pending))
        (is.sound number place (sym (sets.sets.other_keys number other) ∙ at))
  ];
  whole = λ number written nothing. elim (cases_eq number k) [
    | inl own ↦
        let here : get new.places number ≡ Some (length events) = ap (get new.places) own ∙ sets.sets.this_key in
        let both : None ≡ Some (length events) = sym nothing ∙ here in cc
    | inr other ↦ elim (written_back events e number cell written) [
      | inl before ↦ is.whole number before (sym (sets.sets.other_keys number other) ∙ nothing)
      | inr new_one ↦ other (pending_unique events sound s number k new_one.1.1.1 pending)
    ]
  ];
  ascending = subst IsStrictlyIncreasing (sym sets.committed) is.ascending;
  exact = λ number.
      subst (λ (ns : List ℕ). Contains ns number ↔ ((0 < number) × Writes (events ++ e ∷ []) number cell)) (sym sets.committed)
      (committed_stay events e cell old (λ u same. write_is_no_commit s u cell v same) is number);
}
  where
    e : Event
    e = Write s cell v

    now : IsLastWriteAt (events ++ e ∷ []) k cell (length events)
    now = record {
      session = s;
      value = v;
      write = of_new events e k pending;
      last = λ q t u of.
          let within = slice_get_within (events ++ e ∷ []) q (Write t cell u) of.is in
          let longer = length_push events e in
          omega arith;
    }

-- ---- a commit

-- so it is with a cell where a transaction commits that has written it, or hasn't
pub note_commits :
    (events : List Event) → IsSound events → (s k : ℕ) (cell : Cell) (Wrote : Type 0) (old new : CellNote) → IsPending events k s → (Wrote → HasWritten events k cell) →
    (HasWritten events k cell → Wrote) → new.places ≡ old.places → IsStrictlyIncreasing new.committed →
    ((other : ℕ) → Contains new.committed other ↔ (Contains old.committed other ⊎ (Wrote × (other ≡ k)))) → IsNoteOf events cell old →
    IsNoteOf (events ++ Commit s ∷ []) cell new
note_commits events sound s k cell Wrote old new pending to from places rises gains is = record {
  sound = subst (λ (ps : Pairs). SoundIn (events ++ e ∷ []) cell ps) (sym places) (sound_stays events e cell old.places no_write is.sound);
  whole = subst (λ (ps : Pairs). WholeIn (events ++ e ∷ []) cell ps) (sym places) (whole_stays events e cell old.places no_write is.whole);
  ascending = rises;
  exact = λ number. (
    λ there. elim ((gains number).0 there) [
      | inl was ↦ let both = (is.exact number).0 was in (both.0, writes_kept events e number cell both.1)
      | inr now ↦
          let positive : 0 < k = pending_positive events k s pending in
          let same = now.1 in (
            omega arith,
            subst (λ (n : ℕ). Writes (events ++ e ∷ []) n cell) (sym now.1)
                (inr (committed_new events k s pending, written_kept events e k cell (to now.0))),
          )
    ],
    λ both. elim (writes_back events e number cell both.1) [
      | inl writes ↦ (gains number).1 (inl ((is.exact number).1 (both.0, writes)))
      | inr now ↦
          let same : number ≡ k = pending_unique events sound s number k now.1.1 pending in
          (gains number).1 (inr (from (subst (λ (n : ℕ). HasWritten events n cell) same (wrote number both.0 both.1)), same))
    ],
  );
}
  where
    e : Event
    e = Commit s

    no_write : (t : ℕ) (v : Value) → e ≡ Write t cell v → ⊥
    no_write t v same = cc

    -- what has written at a commit had written before
    wrote : (number : ℕ) → 0 < number → Writes (events ++ e ∷ []) number cell → HasWritten events number cell
    wrote number positive (inl initial) = absurd (omega arith)
    wrote number positive (inr own) = elim (written_back events e number cell own.1) [ inl before ↦ before | inr new ↦ absurd (no_write new.0 new.1.0 new.1.1.0) ]
