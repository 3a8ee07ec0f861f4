-- No read of a served history shows a cell without a value.
use Rattle.std.proofs.Common.{◌≡◌, ℕ, List, ◌∷◌, ◌++◌, All, Any, Option, Some, None, refl, sym, ap, ◌∙◌, subst, inl, inr, ◌⊎◌}
use Rattle.std.specs.List.{Contains}
use Rattle.std.proofs.lemmas.List.{append-nil}
use Rattle.std.proofs.lemmas.List.Elements.{All-contains}
use Rattle.cell_base.specs.declared.level.Level.{Level}
use Rattle.sql_tree.specs.declared.table.Table.{Table}
use Rattle.history_core.specs.declared.event.Event.{Event}
use Rattle.history_core.specs.Events.{session_in}
use Rattle.history_core.specs.Initial.{HoldsWholeRows}
use Rattle.history_core.specs.Chronicle.{Chronicle, own_events}
use Rattle.shared_book.specs.Finish.{Finished}
use Rattle.doors.specs.Passage.{Passage}
use Rattle.door_workers.specs.Visits.{Visit}
use Rattle.serve_command.specs.Parts.{Part, AreParts, record_of, records_of}
use Rattle.serve_command.proofs.OwnEvents.{own_append, own_or_none}
use Rattle.session_laws.proofs.OwnEvents.{all_of_it}
use Rattle.statement_laws.specs.WholeRows.{ShowsNoUnset}
use Rattle.statement_laws.proofs.RowsWhole.{all_set}
use Rattle.session_laws.specs.Alone.{KeepsRowsAlone}
use Rattle.session_laws.proofs.Histories.{keeps_rows}
use Rattle.program_laws.specs.ServedSessions.{links_of, IsItsSession, AreSessions}
use Rattle.program_laws.proofs.ServedOn.{links_on, keeps_of}
use Rattle.program_laws.proofs.OneEach.{are_sessions}
use Rattle.program_laws.proofs.WholeStart.{none_there, whole_with_more, IsWholeStart}

-- a record that has an event of the session is all that the history has of it
all_of_session : (events own : List Event) (number : Option ℕ) (e : Event) (session : ℕ) → IsItsSession events number own → Contains own e →
    session_in e ≡ session → own_events events session ≡ own
all_of_session events own None e session none there of_it = absurd (none_there e (subst (λ (es : List Event). Contains es e) none there))
all_of_session events own (Some n) e session is there of_it =
    let same : n ≡ session = sym (All-contains (λ e. session_in e ≡ n) own e (all_of_it n own is.begins) there) ∙ of_it in
    subst (λ (s : ℕ). own_events events s ≡ own) same is.all

-- the events that came keep the rows whole, and so do those of the start
each_keeps : (links : List Visit) (start history : Chronicle) (tables : List Table) → AreSessions links start history → IsWholeStart start →
    All (λ link. KeepsRowsAlone tables (record_of link)) links → (session : ℕ) → KeepsRowsAlone tables (own_events history.events session)
each_keeps links start history tables are begins keeps session = elim (own_or_none are.later session) [
  | inl none ↦
      subst (λ (es : List Event). KeepsRowsAlone tables es)
      (sym (split ∙ ap (λ (es : List Event). own_events start.events session ++ es) none ∙ append-nil (own_events start.events session)))
      (begins.keeps tables session)
  | inr some ↦
      let at = are.held some.1 (some.0, some.2, some.3) in
      let there : Contains links at.1 = (at.0, at.2, at.3) in
      let its = All-contains (λ link. IsItsSession history.events link.outcome.session (record_of link)) links at.1 are.each there in
      subst (λ (es : List Event). KeepsRowsAlone tables es)
      (sym (all_of_session history.events (record_of at.1) at.1.outcome.session some.1 session its at.4 some.4))
      (All-contains (λ link. KeepsRowsAlone tables (record_of link)) links at.1 keeps there)
]
  where
    split : own_events history.events session ≡ own_events start.events session ++ own_events are.later session
    split = ap (λ (es : List Event). own_events es session) are.events ∙ own_append start.events are.later session

pub served_whole : (level : Level) (start history : Chronicle) (seed most : ℕ) (befores : List Passage) (parts : List Part) (afters : List Passage) →
    AreParts level start history seed most 0 befores parts afters → Finished start (records_of parts) history → IsWholeStart start →
    ShowsNoUnset history.events
served_whole level start history seed most befores parts afters are finished begins =
    all_set history.tables history.initial history.events (record {
      state = finished.legal.initial;
      legal = finished.legal.legal;
      rows = rows;
      keeps = keeps_rows history.tables history.events
          (each_keeps (links_of parts) start history history.tables (are_sessions level start history seed most befores parts afters are finished) begins
          (λ k d within. keeps_of level history _ (links_on level start history seed most 0 befores parts afters are k d within)));
    })
  where
    rows : HoldsWholeRows history.tables history.initial
    rows =
        subst (λ (tables : List Table). HoldsWholeRows tables history.initial) (sym finished.tables)
        (whole_with_more start.tables finished.more history.initial finished.legal.initial
        (subst (λ cells. HoldsWholeRows start.tables cells) (sym finished.initial) begins.rows))
