-- The pairs of transactions that a history, or a further read, forces on each commit order.
use Rattle.std.specs.Prelude.{◌≡◌, ◌↔◌, ◌⊎◌, ℕ, List, [], ◌∷◌, ◌++◌, Contains}
use Rattle.std.specs.List.Sorted.{IsStrictlyIncreasing}
use Rattle.graph_base.specs.declared.Edge.{Edge}
use Rattle.graph_base.specs.Walk.{IsInRange}
use Rattle.graph_base.specs.Order.{IsOrder}
use Rattle.cell_base.specs.declared.cell.Cell.{Cell}
use Rattle.cell_base.specs.declared.value.Value.{Value}
use Rattle.history_core.specs.declared.event.Event.{Event}
use Rattle.history_core.specs.declared.event.Event.TheVariants.{Read}
use Rattle.history_core.specs.Relations.{Precedes, Demands, Writes}

-- session order, the write-read relation, and what the levels demand
abbrev pub IsForced : List Event → ℕ → ℕ → Type 0
IsForced events first second = Precedes events first second ⊎ Demands events first second

-- a read of the one reader demands the pair
abbrev pub IsDemandOf : List Event → ℕ → ℕ → ℕ → Type 0
IsDemandOf events reader first second = (demand : Demands events first second) × (demand.reader ≡ reader)

-- what a further read of the cell from the source forces: the source before the reader, and the pairs that the reader demands with it and
-- didn't demand before
abbrev pub IsTrial : List Event → ℕ → ℕ → Cell → ℕ → ℕ → ℕ → Type 0
IsTrial events session reader cell source first second =
    ((first ≡ source) × (second ≡ reader))
    ⊎ (((count word : ℕ) (value : Value) → IsDemandOf (events ++ Read session cell source count word value ∷ []) reader first second)
    × (¬ IsDemandOf events reader first second))

-- the edges are exactly the pairs of the relation
pub record IsPairList (Is : ℕ → ℕ → Type 0) (size : ℕ) (edges : List Edge) : Type 0 where
  pub sound : (e : Edge) → Contains edges e → Is e.before e.after
  pub whole : (a b : ℕ) → Is a b → (e : Edge) × (Contains edges e × (e.before ≡ a) × (e.after ≡ b))
  pub in_range : IsInRange size edges

-- some order extends the edges
abbrev pub HasOrder : ℕ → List Edge → Type 0
HasOrder size edges = (order : List ℕ) × IsOrder size edges order

-- 0 and the committed transactions that write the cell, ascending
pub record AreCandidates (events : List Event) (cell : Cell) (numbers : List ℕ) : Type 0 where
  pub ascending : IsStrictlyIncreasing numbers
  pub exact : (number : ℕ) → Contains numbers number ↔ Writes events number cell
