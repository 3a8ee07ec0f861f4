-- A session that is served alone keeps rows whole.
use Rattle.std.proofs.Common.{ℕ, List, sym, subst}
use Rattle.cell_base.specs.declared.level.Level.{Level}
use Rattle.history_core.specs.declared.event.Event.{Event}
use Rattle.history_core.specs.Chronicle.{own_events}
use Rattle.link_traits.specs.Traffic.{Sight}
use Rattle.choice_stream.specs.Choices.{DrawsFirst}
use Rattle.session_core.specs.declared.served.Served.{Served}
use Rattle.session_core.specs.Told.{opened_in}
use Rattle.session_core.specs.Record.{events_of}
use Rattle.monkey_server.specs.Program.{no_past, ServesAlone}
use Rattle.session_laws.specs.Openings.{AreOfOneSession}
use Rattle.session_laws.proofs.OneOpening.{one_session}
use Rattle.statement_laws.specs.WholeRows.{ShowsNoUnset}
use Rattle.session_laws.specs.Alone.{KeepsRowsAlone}
use Rattle.session_laws.proofs.Fronts.{first_all}
use Rattle.session_laws.proofs.Histories.{each_keeps}
use Rattle.session_laws.proofs.Records.{told_keeps}
use Rattle.program_laws.proofs.ProgramRows.{shows_whole}

pub alone_whole : (level : Level) (words : List ℕ) (before : Sight) (outcome : Served) (after : Sight) → (alone : ServesAlone level words before outcome after) →
    ShowsNoUnset alone.past.seen.events
alone_whole level words before outcome after alone =
    let serves = alone.serves in
    let entries = alone.account.entries in
    let tables = alone.past.seen.tables in
    let one : AreOfOneSession (opened_in entries) (events_of entries) =
    one_session DrawsFirst level serves.requests _ _ entries (no_past level) words alone.past alone.rest serves.told_is serves.valid in
    let keeps : KeepsRowsAlone tables (events_of entries) =
    told_keeps DrawsFirst level serves.requests _ _ entries (no_past level) words alone.past alone.rest tables serves.told_is serves.valid (first_all tables) in
    shows_whole alone.past.seen alone.legal alone.initial (λ session.
    subst (λ (es : List Event). KeepsRowsAlone tables (own_events es session)) (sym alone.events)
    (each_keeps tables (opened_in entries) (events_of entries) one keeps session))
