-- A history and a book to which nothing has come.
use Rattle.std.specs.Prelude.{[]}
use Rattle.cell_base.specs.declared.level.Level.{Level}
use Rattle.history_core.specs.Chronicle.{Chronicle}
use Rattle.history_book.specs.Book.{Past, no_session}

-- a history at a level without a row at first and without an event
abbrev pub empty_history : Level → Chronicle
empty_history level = record { level = level; initial = []; events = []; tables = [] }

-- the past of a book of this history, which has no session
abbrev pub no_past : Level → Past
no_past level = record { seen = empty_history level; own = []; state = no_session }
