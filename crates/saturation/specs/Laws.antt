-- The laws of forced pairs.
use Rattle.std.specs.Prelude.{◌+◌, ℕ, List, [], ◌∷◌, ◌++◌}
use Rattle.graph_base.specs.declared.Edge.{Edge}
use Rattle.cell_base.specs.declared.cell.Cell.{Cell}
use Rattle.cell_base.specs.declared.value.Value.{Value}
use Rattle.history_core.specs.declared.event.Event.{Event}
use Rattle.history_core.specs.declared.event.Event.TheVariants.{Read}
use Rattle.history_core.specs.Events.{begun}
use Rattle.history_core.specs.Forced.{IsForced, IsPairList}

-- the edges are exactly the pairs that the history forces
abbrev pub AreForced : List Event → List Edge → Type 0
AreForced events edges = IsPairList (IsForced events) (begun events + 1) edges

-- the history with a further read of the session
abbrev pub with_read : List Event → ℕ → Cell → ℕ → ℕ → ℕ → Value → List Event
with_read events session cell source count word value = events ++ Read session cell source count word value ∷ []
