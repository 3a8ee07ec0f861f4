-- However clients take their steps, their sessions keep rows whole.
use Rattle.std.proofs.Common.{◌≡◌, inl, inr, ℕ, List, [], ◌∷◌, ◌++◌, All, Option, Some, None, refl, sym, ap, subst, ◌∙◌}
use Rattle.std.proofs.lemmas.Bool.{cases_eq}
use Rattle.std.proofs.lemmas.List.{append-nil}
use Rattle.std.proofs.lemmas.List.Elements.{filter-append}
use Rattle.std.specs.Prelude.{◌==◌}
use Rattle.cell_base.specs.declared.level.Level.{Level}
use Rattle.history_core.specs.declared.event.Event.{Event}
use Rattle.history_core.specs.Events.{session_in}
use Rattle.history_core.specs.Chronicle.{Chronicle, own_events}
use Rattle.valid_writes.specs.Desk.{given_events}
use Rattle.valid_writes.specs.Beginnings.{no_past}
use Rattle.choice_stream.specs.Choices.{DrawsFirst}
use Rattle.block_machine.specs.declared.end.End.{End}
use Rattle.session_core.specs.Told.{opened_in}
use Rattle.session_core.specs.Record.{events_of}
use Rattle.session_core.specs.Serve.{Account}
use Rattle.session_hall.specs.declared.client.Client.{Client}
use Rattle.session_hall.specs.Clients.{IsServed}
use Rattle.sim_command.specs.Runs.{Moment, Pick, Moves, Runs, at_first}
use Rattle.statement_laws.specs.WholeRows.{ShowsNoUnset}
use Rattle.session_laws.specs.Alone.{KeepsRowsAlone}
use Rattle.session_laws.proofs.Records.{told_keeps}
use Rattle.session_laws.proofs.OwnEvents.{own_none}
use Rattle.program_laws.proofs.ProgramRows.{keeps_more, shows_whole}

-- the sessions of a history that begins without a row keep rows whole
record AreWhole (history : Chronicle) : Type 0 where
  initial : history.initial ≡ []
  alone : (session : ℕ) → KeepsRowsAlone history.tables (own_events history.events session)
  shows : ShowsNoUnset history.events

-- what a client was told keeps rows whole
client_keeps : (level : Level) (history : Chronicle) (client : Client) (end : Option End) (account : Account) → IsServed level history client end account →
    KeepsRowsAlone history.tables (events_of account.entries)
client_keeps level history client end account served =
    told_keeps DrawsFirst level served.requests _ served.next account.entries (no_past level) client.words.items served.past served.words history.tables
    served.told_is served.valid (record { more = served.goes_on.more; whole = served.goes_on.tables })

-- other sessions have the events that they had
others : (before after : Chronicle) (added : List Event) (session : ℕ) → after.events ≡ before.events ++ added → All (λ e. session_in e ≡ session → ⊥) added →
    own_events after.events session ≡ own_events before.events session
others before after added session events apart =
    ap (λ (es : List Event). own_events es session) events ∙ filter-append (λ (e : Event). session_in e == session) before.events added
    ∙ ap (λ (es : List Event). own_events before.events session ++ es) (own_none added session apart) ∙ append-nil (own_events before.events session)

not_none : (n : ℕ) → ◌≡◌ {A = Option ℕ} None (Some n) → ⊥
not_none n is = cc

same_number : (m n : ℕ) → ◌≡◌ {A = Option ℕ} (Some m) (Some n) → m ≡ n
same_number m n is = cc

-- the events of each session after a step, given whose step it was
by_number : (number : Option ℕ) (before after : Chronicle) (own added : List Event) → after.events ≡ before.events ++ added →
    given_events number after.events ≡ own → All (λ e. number ≡ Some (session_in e)) added → KeepsRowsAlone after.tables own →
    (session : ℕ) → KeepsRowsAlone after.tables (own_events before.events session) → KeepsRowsAlone after.tables (own_events after.events session)
by_number None before after own added events given of_it keeps session old =
    subst (λ (es : List Event). KeepsRowsAlone after.tables es)
    (sym (others before after added session events (λ k d within same. not_none _ (of_it k d within)))) old
by_number (Some n) before after own added events given of_it keeps session old = elim (cases_eq n session) [
  | inl here ↦ subst (λ (s : ℕ). KeepsRowsAlone after.tables (own_events after.events s)) here (subst (λ (es : List Event). KeepsRowsAlone after.tables es) (sym given) keeps)
  | inr apart ↦
      subst (λ (es : List Event). KeepsRowsAlone after.tables es)
      (sym (others before after added session events (λ k d within same. apart (same_number n _ (of_it k d within) ∙ same)))) old
]

moved : (level : Level) (clients : List Client) (pick : Pick) (before after : Moment) → Moves level clients pick before after → AreWhole before.history → AreWhole after.history
moved level clients pick before after moves whole =
    let grew = moves.grew in
    let initial : after.history.initial ≡ [] = grew.comes.initial ∙ whole.initial in
    let entries = (after.accounts pick.client).entries in
    let alone : (session : ℕ) → KeepsRowsAlone after.history.tables (own_events after.history.events session) =
    λ session. by_number (opened_in entries) before.history after.history (events_of entries) (events_of grew.added) grew.comes.seen moves.served.own grew.own
    (client_keeps level after.history moves.client moves.end (after.accounts pick.client) moves.served) session
    (keeps_more before.history.tables after.history.tables [] [] (own_events before.history.events session)
    (record { more = grew.comes.more; whole = grew.comes.tables }) (whole.alone session)) in
    record { initial = initial; alone = alone; shows = shows_whole after.history moves.legal initial alone }

all_moved : (level : Level) (clients : List Client) (picks : List Pick) (before last : Moment) → AreWhole before.history → Runs level clients before picks last → AreWhole last.history
all_moved level clients [] before last whole runs = subst (λ (m : Moment). AreWhole m.history) runs whole
all_moved level clients (pick ∷ picks) before last whole runs =
    all_moved level clients picks runs.0 last (moved level clients pick before runs.0 runs.1 whole) runs.2

first_whole : (level : Level) → AreWhole (at_first level).history
first_whole level = record { initial = refl; alone = λ session. tt; shows = λ k e is. cc }

pub runs_whole : (level : Level) (clients : List Client) (picks : List Pick) (last : Moment) → Runs level clients (at_first level) picks last →
    ShowsNoUnset last.history.events
runs_whole level clients picks last runs = (all_moved level clients picks (at_first level) last (first_whole level) runs).shows
