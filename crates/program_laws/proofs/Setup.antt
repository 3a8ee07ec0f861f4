-- The rows that a setup leaves are whole.
use Rattle.std.proofs.Common.{ℕ, List, [], sym, subst}
use Rattle.std.specs.List.{AllByRecursion}
use Rattle.cell_base.specs.declared.cell.Cell.{Cell}
use Rattle.cell_base.specs.declared.level.Level.TheVariants as levels
use Rattle.cell_base.specs.declared.value.Value.{Value}
use Rattle.choice_stream.specs.Choices.{DrawsFirst}
use Rattle.history_core.specs.declared.event.Event.{Event}
use Rattle.history_core.specs.Chronicle.{Chronicle, own_events}
use Rattle.history_core.specs.Initial.{HoldsWholeRows}
use Rattle.session_core.specs.Told.{opened_in}
use Rattle.session_core.specs.Record.{events_of}
use Rattle.setup_session.specs.Setups.{no_past, SetsUp}
use Rattle.committed_rows.specs.Rows.{AreCommittedRows}
use Rattle.session_laws.specs.Openings.{AreOfOneSession}
use Rattle.session_laws.proofs.OneOpening.{one_session}
use Rattle.session_laws.specs.Alone.{AreFirst, KeepsRowsAlone}
use Rattle.session_laws.proofs.Fronts.{first_all}
use Rattle.session_laws.proofs.Histories.{each_keeps, keeps_rows}
use Rattle.session_laws.proofs.Records.{told_keeps}
use Rattle.program_laws.proofs.Records.{WritesField, told_fits}
use Rattle.program_laws.proofs.Committed.{rows_whole}

pub setup_whole : (text : List ℕ) (setup : Chronicle) (cells : List (Cell × Value)) → SetsUp text setup → AreCommittedRows setup cells →
    HoldsWholeRows setup.tables cells
setup_whole text setup cells sets are =
    let ran = sets.ran in
    let serves = ran.serves in
    let entries = ran.account.entries in
    let first : AreFirst ran.past.seen.tables setup.tables =
    subst (λ (h : Chronicle). AreFirst ran.past.seen.tables h.tables) (sym ran.history_is) (first_all ran.past.seen.tables) in
    let one : AreOfOneSession (opened_in entries) (events_of entries) =
    one_session DrawsFirst levels.Cc serves.requests _ _ entries no_past [] ran.past ran.rest serves.told_is serves.valid in
    let keeps : KeepsRowsAlone setup.tables (events_of entries) =
    told_keeps DrawsFirst levels.Cc serves.requests _ _ entries no_past [] ran.past ran.rest setup.tables serves.told_is serves.valid first in
    let fits : AllByRecursion (WritesField setup.tables) (events_of entries) =
    told_fits DrawsFirst levels.Cc serves.requests _ _ entries no_past [] ran.past ran.rest setup.tables serves.told_is serves.valid first in
    rows_whole setup cells (record {
      legal = ran.legal;
      initial = ran.initial;
      keeps = keeps_rows setup.tables setup.events (λ session.
          subst (λ (es : List Event). KeepsRowsAlone setup.tables (own_events es session)) (sym ran.events)
          (each_keeps setup.tables (opened_in entries) (events_of entries) one keeps session));
      fits = subst (λ (es : List Event). AllByRecursion (WritesField setup.tables) es) (sym ran.events) fits;
    }) are
