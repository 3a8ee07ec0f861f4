-- The events of a session that writes a row and reads it back. The test makes them.
use Rattle.std.specs.Prelude.{ℕ, true, false, List, [], ◌∷◌, ◌++◌}
use Rattle.cell_base.specs.declared.level.Level.TheVariants.{Rc, Cc}
use Rattle.cell_base.specs.declared.key.Key.{Key}
use Rattle.cell_base.specs.declared.cell.Cell.TheVariants.{Presence, Field}
use Rattle.cell_base.specs.declared.value.Value.{Value}
use Rattle.cell_base.specs.declared.value.Value.TheVariants.{Flag}
use Rattle.history_core.specs.declared.event.Event.{Event}
use Rattle.history_core.specs.declared.event.Event.TheVariants.{Open, Close, Define, Look, Begin, Scan, Read, Own, Write, Commit, Rollback, Show}

-- the session, the table of the name, and the transaction that writes the value into the row of the key
abbrev pub row_written : List ℕ → Key → Value → List Event
row_written name key value =
    Open 1 ∷ Define 1 name ∷ Look 1 1 ∷ Begin 1 Cc ∷ Read 1 (Presence 0 key) 0 1 0 (Flag false) ∷ Write 1 (Presence 0 key) (Flag true)
    ∷ Write 1 (Field 0 key 1) value ∷ Own 1 (Field 0 key 1) value ∷ Commit 1 ∷ []

-- and the transaction that reads the row, at another level
abbrev pub row_read : List ℕ → Key → Value → List Event
row_read name key value =
    row_written name key value ++ Begin 1 Rc ∷ Read 1 (Presence 0 key) 1 2 1 (Flag true) ∷ Read 1 (Field 0 key 1) 1 1 7 value
    ∷ Scan 1 0 (key ∷ []) ∷ Rollback 1 ∷ Show 1 15 ∷ Close 1 ∷ []
