-- The events of a fractured read. The test makes them.
use Rattle.std.specs.Prelude.{ℕ, true, false, List, [], ◌∷◌, ◌++◌}
use Rattle.cell_base.specs.declared.level.Level.TheVariants.{Ra}
use Rattle.cell_base.specs.declared.key.Key.{Key}
use Rattle.cell_base.specs.declared.cell.Cell.TheVariants.{Presence}
use Rattle.cell_base.specs.declared.value.Value.TheVariants.{Flag}
use Rattle.history_core.specs.declared.event.Event.{Event}
use Rattle.history_core.specs.declared.event.Event.TheVariants.{Open, Define, Begin, Read}

-- two sessions and the table of the name, and the first session's transaction, which misses the row of the key
abbrev pub missed : List ℕ → Key → List Event
missed name key = Open 1 ∷ Open 2 ∷ Define 1 name ∷ Begin 1 Ra ∷ Read 1 (Presence 0 key) 0 1 0 (Flag false) ∷ []
