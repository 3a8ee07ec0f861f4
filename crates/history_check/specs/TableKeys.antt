-- Which keys are noted of each table.
use Rattle.std.specs.Prelude.{◌≡◌, ℕ, Some, List, Contains, slice_get, nat_eq}
use Rattle.std.specs.HashMap.{get}
use Rattle.cell_base.specs.declared.cell.Cell.{Cell}
use Rattle.cell_base.specs.declared.cell.Cell.TheVariants.{Presence, Field}
use Rattle.cell_base.specs.declared.key.Key.{Key}
use Rattle.cell_base.specs.declared.value.Value.{Value}
use Rattle.indexed_history.specs.Keys.{some_keys}
use Rattle.history_check.specs.declared.table_keys.TableKeys.{TableKeys}

-- the keys that are noted of the table
abbrev pub keys_at : TableKeys → ℕ → List Key
keys_at keys table = some_keys (get nat_eq keys.tables table)

-- each key that was noted at a table is noted
abbrev pub KeepsKeys : TableKeys → TableKeys → Type 0
KeepsKeys old new = (table : ℕ) (key : Key) → Contains (keys_at old table) key → Contains (keys_at new table) key

-- the key of a presence is noted at its table
abbrev pub IsKept : TableKeys → Cell → Type 0
IsKept keys (Presence table key) = Contains (keys_at keys table) key
IsKept keys (Field table key column) = Unit {0}

-- so it is with each of the cells
abbrev pub AreKept : TableKeys → List (Cell × Value) → Type 0
AreKept keys cells = (k : ℕ) (entry : Cell × Value) → slice_get cells k ≡ Some entry → IsKept keys entry.0
