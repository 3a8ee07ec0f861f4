-- The writers of a cell, and which events leave all of them.
use Rattle.std.specs.Prelude.{◌<◌, ◌≤◌, ◌⊎◌, ℕ, List, Contains}
use Rattle.std.specs.List.Sorted.{IsStrictlyIncreasing}
use Rattle.cell_base.specs.declared.cell.Cell.{Cell}
use Rattle.history_core.specs.declared.event.Event.{Event}
use Rattle.history_core.specs.declared.event.Event.TheVariants.{Define, Write, Commit, Rollback, Close}
use Rattle.history_core.specs.Events.{begun}
use Rattle.history_core.specs.Transactions.{IsCommitted, IsPending}
use Rattle.history_core.specs.Relations.{HasWritten, Writes}

-- the transactions but the initial one that wrote the cell and have committed or may commit yet, ascending
pub record ListsWriters (events : List Event) (cell : Cell) (numbers : List ℕ) : Type 0 where
  pub ascending : IsStrictlyIncreasing numbers
  pub wrote : (n : ℕ) → Contains numbers n → (0 < n) × (n ≤ begun events) × HasWritten events n cell × (IsCommitted events n ⊎ ((s : ℕ) × IsPending events n s))
  pub whole : (n : ℕ) → 0 < n → Writes events n cell → Contains numbers n
  pub pending : (n s : ℕ) → IsPending events n s → HasWritten events n cell → Contains numbers n

-- any event but a definition, a write and an end, which have calls of their own
abbrev pub IsPlain : Event → Type 0
IsPlain (Define s name) = ⊥
IsPlain (Write s cell value) = ⊥
IsPlain (Commit s) = ⊥
IsPlain (Rollback s) = ⊥
IsPlain (Close s) = ⊥
IsPlain _ = Unit {0}
