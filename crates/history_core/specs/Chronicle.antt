-- A history as its readers see it: the served level, the initial state, the events, and one table for each definition.
use Rattle.std.specs.Prelude.{◌≡◌, ◌==◌, ℕ, List, [], ◌∷◌, ◌++◌, map, filter, All}
use Rattle.cell_base.specs.declared.level.Level.{Level}
use Rattle.cell_base.specs.declared.cell.Cell.{Cell}
use Rattle.cell_base.specs.declared.value.Value.{Value}
use Rattle.sql_tree.specs.declared.table.Table.{Table}
use Rattle.sound_table.specs.Sound.{IsSound}
use Rattle.history_core.specs.declared.event.Event.{Event}
use Rattle.history_core.specs.declared.event.Event.TheVariants.{Define}
use Rattle.history_core.specs.Events.{names, session_in}
use Rattle.history_core.specs.Initial.{IsInitialState}
use Rattle.history_core.specs.Legal.{IsFormed, IsLegal}

pub record Chronicle : Type 0 where
  pub level : Level
  pub initial : List (Cell × Value)
  pub events : List Event
  pub tables : List Table

-- the tables are those that the events define, in order, and each is sound
pub record KeepsTables (history : Chronicle) : Type 0 where
  pub named : map (λ t. t.name) history.tables ≡ names history.events
  pub sound : All IsSound history.tables

-- a history in which each event fits what came before
pub record IsFormedChronicle (history : Chronicle) : Type 0 where
  pub initial : IsInitialState history.initial
  pub formed : IsFormed history.initial history.events
  pub tables : KeepsTables history

-- a history whose reads were also offered exactly what the levels of their transactions permit
pub record IsLegalChronicle (history : Chronicle) : Type 0 where
  pub initial : IsInitialState history.initial
  pub legal : IsLegal history.initial history.events
  pub tables : KeepsTables history

-- the history followed by the event
abbrev pub followed_by : Chronicle → Event → Chronicle
followed_by history event = record history { events = history.events ++ event ∷ [] }

-- the history followed by the definition of the table
abbrev pub with_table : Chronicle → ℕ → Table → Chronicle
with_table history session table =
    record history { events = history.events ++ Define session table.name ∷ []; tables = history.tables ++ table ∷ [] }

-- the events of one session, in order
abbrev pub own_events : List Event → ℕ → List Event
own_events events session = filter (λ e. session_in e == session) events
