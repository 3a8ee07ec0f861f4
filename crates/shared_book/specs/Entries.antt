-- A history as the list of entries that the lock keeps: its level and initial state, and then its events with the tables that they define.
use Rattle.std.specs.Prelude.{ℕ, List, [], ◌∷◌, ◌++◌, drop, map, Option, Some, None}
use Rattle.cell_base.specs.declared.cell.Cell.{Cell}
use Rattle.cell_base.specs.declared.value.Value.{Value}
use Rattle.cell_base.specs.declared.level.Level.{Level}
use Rattle.cell_base.specs.declared.level.Level.TheVariants.{Rc}
use Rattle.sql_tree.specs.declared.table.Table.{Table}
use Rattle.history_core.specs.declared.event.Event.{Event}
use Rattle.history_core.specs.Events.{session_in, defined_name}
use Rattle.history_core.specs.Chronicle.{Chronicle}
use Rattle.turn_lock.specs.Passes.{PassValue, lists_of}
use Rattle.shared_book.specs.declared.entry.Entry.{Entry}
use Rattle.shared_book.specs.declared.entry.Entry.TheVariants.{Start, Happened}

-- whose entry it is: the session of an event. Sessions are numbered from 1, so the start is nobody's
abbrev pub key_of : Entry → ℕ
key_of (Start level initial) = 0
key_of (Happened event table) = session_in event

-- the table of a definition, which is the first that is left
abbrev pub table_for : Option (List ℕ) → List Table → Option Table
table_for None tables = None
table_for (Some name) [] = None
table_for (Some name) (table ∷ tables) = Some table

abbrev pub left_for : Option (List ℕ) → List Table → List Table
left_for None tables = tables
left_for (Some name) tables = drop 1 tables

-- the events, each definition with the next of the tables
abbrev pub with_tables : List Event → List Table → List Entry
with_tables [] tables = []
with_tables (e ∷ es) tables = Happened e (table_for (defined_name e) tables) ∷ with_tables es (left_for (defined_name e) tables)

abbrev pub entries_of : Chronicle → List Entry
entries_of history = Start history.level history.initial ∷ with_tables history.events history.tables

-- the events of the entries, in order
abbrev pub events_of : List Entry → List Event
events_of [] = []
events_of (Start level initial ∷ rest) = events_of rest
events_of (Happened event table ∷ rest) = event ∷ events_of rest

abbrev pub if_some : Option Table → List Table
if_some None = []
if_some (Some table) = table ∷ []

-- the tables of the entries, in order
abbrev pub tables_of : List Entry → List Table
tables_of [] = []
tables_of (Start level initial ∷ rest) = tables_of rest
tables_of (Happened event table ∷ rest) = if_some table ++ tables_of rest

-- the level and the initial state of a list, which stand in its first entry
abbrev pub level_of : List Entry → Level
level_of [] = Rc
level_of (Start level initial ∷ rest) = level
level_of (Happened event table ∷ rest) = Rc

abbrev pub initial_of : List Entry → List (Cell × Value)
initial_of [] = []
initial_of (Start level initial ∷ rest) = initial
initial_of (Happened event table ∷ rest) = []

-- the history that a list of entries stands for
abbrev pub chronicle_of : List Entry → Chronicle
chronicle_of entries = record { level = level_of entries; initial = initial_of entries; events = events_of entries; tables = tables_of entries }

-- what a pass's lists say: the events of each, in order
abbrev pub event_lists : PassValue Entry → List (List Event)
event_lists pass = map events_of (lists_of pass)

-- the history of a store that may be away
abbrev pub history_in : Option Chronicle → Chronicle
history_in None = chronicle_of []
history_in (Some history) = history
