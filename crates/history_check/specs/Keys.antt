-- What a scan has to list.
use Rattle.std.specs.Prelude.{◌≡◌, ◌<◌, ◌+◌, ◌⊎◌, ℕ, true, Some, List, Contains, slice_get}
use Rattle.cell_base.specs.declared.cell.Cell.{Cell}
use Rattle.cell_base.specs.declared.cell.Cell.TheVariants.{Presence}
use Rattle.cell_base.specs.declared.key.Key.{Key}
use Rattle.cell_base.specs.declared.value.Value.{Value}
use Rattle.cell_base.specs.declared.value.Value.TheVariants.{Flag}
use Rattle.history_core.specs.declared.event.Event.{Event}
use Rattle.history_core.specs.Relations.{Writes}
use Rattle.history_core.specs.Legal.{IsKeyBelow, WroteItself}

-- each key is below the next
abbrev pub IsAscending : List Key → Type 0
IsAscending keys = (k : ℕ) (a b : Key) → slice_get keys k ≡ Some a → slice_get keys (k + 1) ≡ Some b → IsKeyBelow a b

-- a transaction after the initial one has committed a write of the cell
abbrev pub HasLaterWriter : List Event → Cell → Type 0
HasLaterWriter events cell = (txn : ℕ) × (0 < txn) × Writes events txn cell

-- the presence is true from the start, or a later transaction committed a write of it, or the pending one of the session did
abbrev pub IsPresent : List (Cell × Value) → List Event → ℕ → Cell → Type 0
IsPresent initial events session cell = Contains initial (cell, Flag true) ⊎ (HasLaterWriter events cell ⊎ WroteItself events session cell)

-- the row is one that a scan has to list
abbrev pub IsToList : List (Cell × Value) → List Event → ℕ → ℕ → Key → Type 0
IsToList initial events session table key = IsPresent initial events session (Presence table key)

-- each listed key is one that a scan has to list
abbrev pub ListsNoOther : List (Cell × Value) → List Event → ℕ → ℕ → List Key → Type 0
ListsNoOther initial events session table keys = (k : ℕ) (key : Key) → slice_get keys k ≡ Some key → IsToList initial events session table key

-- each of these keys is listed that a scan has to list
abbrev pub ListsAll : List (Cell × Value) → List Event → ℕ → ℕ → List Key → List Key → Type 0
ListsAll initial events session table among keys = (key : Key) → Contains among key → IsToList initial events session table key → Contains keys key
