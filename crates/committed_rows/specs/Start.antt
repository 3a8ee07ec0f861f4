-- A history that begins with what another one has committed.
use Rattle.std.specs.Prelude.{◌≡◌, ◌≤◌, ◌+◌, List, [], ◌∷◌, ◌++◌, length, map}
use Rattle.cell_base.specs.declared.level.Level.{Level}
use Rattle.sql_tree.specs.declared.table.Table.{Table}
use Rattle.history_core.specs.declared.event.Event.{Event}
use Rattle.history_core.specs.declared.event.Event.TheVariants.{Open, Close, Define}
use Rattle.history_core.specs.Chronicle.{Chronicle}
use Rattle.history_core.specs.Initial.{HoldsWholeRows, initial_load}
use Rattle.committed_rows.specs.Rows.{AreCommittedRows}

-- session 1 defines each table, in order
abbrev pub definitions : List Table → List Event
definitions tables = map (λ t. Define 1 t.name) tables

-- the rows that are there at the end of the setup, which are whole, are the initial state; the tables are those of the setup, and session 1
-- defines them and is closed
pub record StartsAfter (served : Level) (setup start : Chronicle) : Type 0 where
  pub level : start.level ≡ served
  pub rows : AreCommittedRows setup start.initial
  pub whole : HoldsWholeRows start.tables start.initial
  pub tables : start.tables ≡ setup.tables
  pub events : start.events ≡ Open 1 ∷ (definitions setup.tables ++ Close 1 ∷ [])

-- whatever would start after the setup has no room for its events
abbrev pub HasNoRoom : Level → Chronicle → Type 0
HasNoRoom level setup = (start : Chronicle) → StartsAfter level setup start → 1048576 ≤ initial_load start.initial + length start.tables
