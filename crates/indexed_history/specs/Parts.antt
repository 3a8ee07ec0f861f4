-- What an indexed history keeps.
use Rattle.std.specs.Prelude.{◌≡◌, ◌↔◌, ℕ, List}
use Rattle.history_core.specs.declared.event.Event.{Event}
use Rattle.history_core.specs.Transactions.{IsPending}
use Rattle.indexed_history.specs.declared.parts.Parts.{Parts}
use Rattle.indexed_history.specs.Index.{IsIndex}
use Rattle.indexed_history.specs.Keys.{IsKeyIndex}

-- the indexes are those of the history
pub record AreIndexed (parts : Parts) : Type 0 where
  pub writers : IsIndex parts.history.events parts.index
  pub keys : IsKeyIndex parts.history.initial parts.history.events parts.keys

-- the transaction of the number, and no other, is pending in the session
abbrev pub IsTheTxn : List Event → ℕ → ℕ → Type 0
IsTheTxn events session number = (n : ℕ) → IsPending events n session ↔ (n ≡ number)
