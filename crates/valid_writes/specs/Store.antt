-- What a store keeps, and which events leave its sessions and transactions.
use Rattle.std.specs.Prelude.{◌≡◌, ℕ}
use Rattle.history_core.specs.declared.event.Event.{Event}
use Rattle.history_core.specs.declared.event.Event.TheVariants.{Look, Scan, Own, Show}
use Rattle.history_core.specs.Events.{opened}
use Rattle.history_core.specs.Chronicle.{IsLegalChronicle}
use Rattle.forced_rows.specs.Rows.{AreRowsOf, HaveRoom}
use Rattle.valid_writes.specs.declared.kept.Kept.{Kept}

-- a legal history, its rows, and the number of its sessions
pub record IsStore (store : Kept) : Type 0 where
  pub legal : IsLegalChronicle store.history
  pub rows : AreRowsOf store.history.events store.rows
  pub count : store.sessions ≡ opened store.history.events

-- the same, where the rows have room for the next transaction of the session
pub record HasRoom (store : Kept) (session : ℕ) : Type 0 where
  pub legal : IsLegalChronicle store.history
  pub room : HaveRoom store.history.events session store.rows
  pub count : store.sessions ≡ opened store.history.events

-- the history stays
pub record Leaves (old new : Kept) : Type 0 where
  pub history : new.history ≡ old.history

-- the event changes neither transactions nor sessions, nor what was written, read or defined
abbrev pub IsStill : Event → Type 0
IsStill (Look s count) = Unit {0}
IsStill (Scan s table keys) = Unit {0}
IsStill (Own s cell value) = Unit {0}
IsStill (Show s number) = Unit {0}
IsStill _ = ⊥
