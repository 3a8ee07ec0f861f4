-- A history as it was seen earlier.
use Rattle.std.specs.Prelude.{◌≡◌, List, ◌++◌, length}
use mathlib.Core.List.{IsPrefix}
use Rattle.sql_tree.specs.declared.table.Table.{Table}
use Rattle.history_core.specs.declared.event.Event.{Event}
use Rattle.history_core.specs.Events as numbers
use Rattle.history_core.specs.Chronicle.{Chronicle}
use Rattle.turn_lock.specs.Passes.{PassValue}
use Rattle.shared_book.specs.declared.entry.Entry.{Entry}
use Rattle.shared_book.specs.Entries.{entries_of}

-- The history was seen so earlier: it has the same level and the same initial state, its events begin with those that were seen, and its tables
-- with those that were seen, which are as many as the seen events define. So a front of a legal history is legal.
pub record IsFrontOf (seen history : Chronicle) : Type 0 where
  pub level : seen.level ≡ history.level
  pub initial : seen.initial ≡ history.initial
  pub later : List Event
  pub events : history.events ≡ seen.events ++ later
  pub more : List Table
  pub tables : history.tables ≡ seen.tables ++ more
  pub defined : length seen.tables ≡ numbers.defined seen.events

-- the history goes on from what the pass has seen
abbrev pub GoesOnFrom : Chronicle → PassValue Entry → Type 0
GoesOnFrom history pass = IsPrefix pass.seen (entries_of history)
