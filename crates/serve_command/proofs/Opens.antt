-- A record that begins without a session opens each session that it has an event of.
use Rattle.std.proofs.Common.{◌≡◌, ℕ, ◌<◌, true, List, [], ◌∷◌, All, map, arith, refl, sym, ap, ◌∙◌, inl, inr, ◌⊎◌}
use Rattle.std.proofs.lemmas.Bool.{cases_eq}
use Rattle.std.proofs.lemmas.List.Elements.{All-nil, All-cons}
use Rattle.cell_base.specs.declared.level.Level.{Level}
use Rattle.history_core.specs.declared.event.Event.{Event}
use Rattle.history_core.specs.declared.fault.DefineAnswer.TheVariants as defines
use Rattle.history_core.specs.Events.{session_in, is_open_event, opened}
use Rattle.history_core.specs.Chronicle.{own_events}
use Rattle.history_core.specs.declared.fault.BookFault.{BookFault}
use Rattle.history_core.specs.declared.fault.BookFault.TheVariants as faults
use Rattle.history_book.specs.Book.{Past, SessionState, no_session, session_of}
use Rattle.block_machine.specs.Calls.{Call}
use Rattle.block_machine.specs.Calls as calls
use Rattle.block_machine.specs.declared.call.Answer.{Answer}
use Rattle.block_machine.specs.declared.call.Answer.TheVariants as answers
use Rattle.block_machine.specs.Script.{Entry, did, refused, short, unsent, stop}
use Rattle.session_core.specs.Record.{Happens, Declines, StateAfter, IsValidRecord, events_of}
use Rattle.door_workers.specs.Visits.{Visit, AreVisits}
use Rattle.serve_command.specs.Parts.{record_of}
use Rattle.serve_command.proofs.OwnEvents.{own_here, own_other, opened_opening}

-- each session that the list has an event of is opened in it
abbrev pub OpensItsSessions : List Event → Type 0
OpensItsSessions events = (s : ℕ) → 0 < s → opened (own_events events s) ≡ 0 → own_events events s ≡ []

-- an answered call opens a session, or its event is of the session before; after it the book is in one of the two, or in none
record Steps (old new : SessionState) (e : Event) : Type 0 where
  made : (is_open_event e ≡ true) ⊎ (session_in e ≡ session_of old)
  left : (session_of new ≡ session_of old) ⊎ ((session_of new ≡ session_in e) ⊎ (session_of new ≡ 0))

steps : (p : Past) (c : Call) (a : Answer) (e : Event) (m : Past) → Happens p c a e m → StateAfter c a p.state m.state → Steps p.state m.state e
steps p calls.Open (answers.Opened s) e m h k = record {
  made = inl (ap is_open_event h.0);
  left = inr (inl (ap session_of k ∙ sym (ap session_in h.0)));
}
steps p calls.Close answers.Closed e m h k = record { made = inr (ap session_in h.0); left = inr (inr (ap session_of k)) }
steps p (calls.Look known) (answers.Looked tables) e m h k = record { made = inr (ap session_in h.0); left = inl (ap session_of k) }
steps p (calls.Define table) (answers.Defined (defines.Defined n)) e m h k =
    record { made = inr (ap session_in h.0); left = inl (ap session_of k) }
steps p (calls.Define table) (answers.Defined (defines.Taken n)) e m h k = record { made = inr (ap session_in h.0); left = inl (ap session_of k) }
steps p (calls.Begin level) (answers.Begun n) e m h k = record { made = inr (ap session_in h.0); left = inl (ap session_of k) }
steps p (calls.Scan table) (answers.Listed keys) e m h k = record { made = inr (ap session_in h.0); left = inl (ap session_of k) }
steps p (calls.Touch cell) (answers.Found value) e m h k = record {
  made = inr (elim h.0 [ inl back ↦ ap session_in back.event_is | inr from ↦ ap session_in from.event_is ]);
  left = inl (ap session_of k);
}
steps p (calls.Write cell value) answers.Written e m h k = record { made = inr (ap session_in h.0); left = inl (ap session_of k) }
steps p calls.Commit answers.Committed e m h k = record { made = inr (ap session_in h.0); left = inl (ap session_of k) }
steps p calls.Rollback answers.RolledBack e m h k = record { made = inr (ap session_in h.0); left = inl (ap session_of k) }
steps p calls.Show (answers.Shown n) e m h k = record { made = inr (ap session_in h.0); left = inl (ap session_of k) }
steps p _ _ e m h k = absurd h

-- a refusal leaves the session of the book
stays : (p : Past) (c : Call) (why : BookFault) (m : Past) → Declines p c why m → m.state ≡ p.state
stays p c (faults.Full limit) m declined = declined.1.state
stays p c faults.Memory m declined = declined.1.state

did_opens : (old new : SessionState) (e : Event) (xs : List Event) (s : ℕ) → Steps old new e → 0 < s → (s ≡ session_of old → ⊥) →
    opened (own_events (e ∷ xs) s) ≡ 0 → ((s ≡ session_of new → ⊥) → opened (own_events xs s) ≡ 0 → own_events xs s ≡ []) →
    own_events (e ∷ xs) s ≡ []
did_opens old new e xs s step above other none rest = elim (cases_eq (session_in e) s) [
  | inl same ↦ elim step.made [
    | inl opens ↦
        let one = ap opened (own_here e xs s same) ∙ opened_opening e (own_events xs s) opens in
        absurd (omega arith)
    | inr old_is ↦ absurd (other (sym same ∙ old_is))
  ]
  | inr apart ↦
      let outside : s ≡ session_of new → ⊥ = λ is. elim step.left [
        | inl kept ↦ other (is ∙ kept)
        | inr moved ↦ elim moved [ inl here ↦ apart (sym (is ∙ here)) | inr closed ↦ let zero_is = is ∙ closed in omega arith ]
      ] in
      own_other e xs s apart ∙ rest outside (sym (ap opened (own_other e xs s apart)) ∙ none)
]

-- a session that isn't the one at the beginning has no event in a record that doesn't open it
pub record_opens : {W : Type 0} (gives : W → ℕ → W → Type 0) (p : Past) (v : W) (cs : List Call) (es : List Entry) (q : Past) (w : W) →
    IsValidRecord gives p v cs es q w → (s : ℕ) → 0 < s → (s ≡ session_of p.state → ⊥) → opened (own_events (events_of es) s) ≡ 0 →
    own_events (events_of es) s ≡ []
record_opens gives p v [] [] q w valid s above other none = refl
record_opens gives p v [] (did a e ∷ es) q w valid s above other none = absurd valid
record_opens gives p v [] (refused why ∷ es) q w valid s above other none = absurd valid
record_opens gives p v [] (short final n ∷ es) q w valid s above other none = record_opens gives p v [] es q w valid s above other none
record_opens gives p v [] (unsent n ∷ es) q w valid s above other none = record_opens gives p v [] es q w valid s above other none
record_opens gives p v [] (stop cause ∷ es) q w valid s above other none = record_opens gives p v [] es q w valid s above other none
record_opens gives p v (c ∷ cs) [] q w valid s above other none = absurd valid
record_opens gives p v (c ∷ cs) (did a e ∷ es) q w valid s above other none =
    did_opens p.state valid.0.state e (events_of es) s (steps p c a e valid.0 valid.2 valid.5) above other none
    (record_opens gives valid.0 valid.1 cs es q w valid.4 s above)
record_opens gives p v (c ∷ cs) (refused why ∷ es) q w valid s above other none =
    record_opens gives valid.0 valid.1 cs es q w valid.4 s above
    (λ is. other (is ∙ ap session_of (stays p c why valid.0 valid.2))) none
record_opens gives p v (c ∷ cs) (short final n ∷ es) q w valid s above other none =
    record_opens gives p v (c ∷ cs) es q w valid s above other none
record_opens gives p v (c ∷ cs) (unsent n ∷ es) q w valid s above other none =
    record_opens gives p v (c ∷ cs) es q w valid s above other none
record_opens gives p v (c ∷ cs) (stop cause ∷ es) q w valid s above other none =
    record_opens gives p v (c ∷ cs) es q w valid s above other none

-- each link that was served on a book without a session opens its sessions in its own record
pub visits_open : {W : Type 0} (gives : W → ℕ → W → Type 0) (level : Level) (past : Past) (words : W) (visits : List Visit) (q : Past) (w : W) →
    past.state ≡ no_session → AreVisits gives level past words visits q w → All OpensItsSessions (map record_of visits)
visits_open gives level past words [] q w rests are = All-nil OpensItsSessions
visits_open gives level past words (visit ∷ visits) q w rests are =
    All-cons OpensItsSessions (record_of visit) (map record_of visits)
    (λ s above none.
    record_opens gives past words visit.account.calls visit.account.entries are.0 are.1 are.2.valid s above
    (λ is. let zero_is = is ∙ ap session_of rests in omega arith) none)
    (visits_open gives level are.0 are.1 visits q w are.3 are.4)
