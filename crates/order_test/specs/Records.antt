-- How a record of a transaction begins.
use Rattle.std.specs.Prelude.{◌≡◌, [], ℕ}
use Rattle.cell_base.specs.declared.level.Level.{Level}
use Rattle.history_core.specs.declared.txn.Txn.{Txn}
use Rattle.history_core.specs.declared.txn.TxnState.TheVariants.{Pending}

-- the record of a transaction that did nothing yet
pub record IsFreshRecord (txn : Txn) (session : ℕ) (level : Level) : Type 0 where
  pub session_is : txn.session ≡ session
  pub level_is : txn.level ≡ level
  pub state_is : txn.state ≡ Pending
  pub nothing_seen : txn.seen ≡ []
  pub nothing_written : txn.buffer.writes ≡ []
