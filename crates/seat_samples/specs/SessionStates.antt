-- Where the session of a test stands.
use Rattle.std.specs.Prelude.{◌≡◌, ◌<◌, ℕ, [], length}
use Rattle.history_book.specs.Book.{Past, IsIdle, IsInTransaction, HasTable, writes_of}
use Rattle.history_core.specs.Chronicle.{Chronicle}
use Rattle.history_core.specs.Legal.{IsOpen}
use Rattle.history_core.specs.Transactions.{HasPending}

-- a session is open with nothing pending, and there is a table
pub record IsReady (past : Past) : Type 0 where
  pub idle : IsIdle past.state
  pub table : HasTable past 0

-- a transaction is pending, which wrote nothing
pub record IsFresh (past : Past) : Type 0 where
  pub pending : IsInTransaction past.state
  pub table : HasTable past 0
  pub unwritten : writes_of past.state ≡ []

-- a transaction is pending
pub record IsBusy (past : Past) : Type 0 where
  pub pending : IsInTransaction past.state
  pub table : HasTable past 0

-- the session is open in the history with nothing pending, and there is a table
pub record MayBegin (history : Chronicle) (session : ℕ) : Type 0 where
  pub open_is : IsOpen history.events session
  pub free : ¬ HasPending history.events session
  pub table : 0 < length history.tables

-- a transaction of the session is pending in the history, and there is a table
pub record MayGoOn (history : Chronicle) (session : ℕ) : Type 0 where
  pub open_is : IsOpen history.events session
  pub pending : HasPending history.events session
  pub table : 0 < length history.tables
