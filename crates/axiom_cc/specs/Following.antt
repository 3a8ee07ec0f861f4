-- Marks on a causal past, as they are made: those whose predecessors are marked are done.
use Rattle.std.specs.Prelude.{◌≡◌, ◌⊎◌, ◌↔◌, ℕ, Bool, List, length}
use Rattle.order_witness.specs.Marks.{IsMarked}
use Rattle.history_core.specs.declared.event.Event.{Event}
use Rattle.history_core.specs.Relations.{Precedes}

-- the new marks are the old ones, and those on what precedes the transaction
pub record MarksPredecessors (events : List Event) (second : ℕ) (old new : List Bool) : Type 0 where
  pub size : length new ≡ length old
  pub exact : (n : ℕ) → IsMarked new n ↔ (IsMarked old n ⊎ Precedes events n second)
