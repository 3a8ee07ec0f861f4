-- Sessions of a history that were told what a session is told.
use Rattle.std.specs.Prelude.{◌≡◌, ℕ, List}
use Rattle.cell_base.specs.declared.level.Level.{Level}
use Rattle.history_book.specs.Book.{Past}
use Rattle.history_core.specs.Chronicle.{Chronicle, own_events}
use Rattle.block_machine.specs.Script.{Entry, Said, Next}
use Rattle.session_core.specs.Requests.{Requests}
use Rattle.session_core.specs.Told.{told}
use Rattle.session_core.specs.Record.{IsValidRecord, events_of}
use Rattle.session_laws.specs.Alone.{AreFirst}

-- The history has of the session just the events of a record: one that a session was told of, of its level and its requests, so far or to
-- its end; which is valid; and whose book saw no other tables than the first of the history's.
pub record IsMade {W : Type 0} (gives : W → ℕ → W → Type 0) (history : Chronicle) (session : ℕ) : Type 0 where
  pub level : Level
  pub requests : Requests
  pub entries : List Entry
  pub said : Said
  pub next : Next
  pub told_is : told level requests entries ≡ (said, next)
  pub before : Past
  pub words : W
  pub after : Past
  pub left : W
  pub valid : IsValidRecord gives before words said.calls entries after left
  pub tables : AreFirst after.seen.tables history.tables
  pub events : own_events history.events session ≡ events_of entries
