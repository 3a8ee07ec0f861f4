-- Where a cell may stand after others.
use Rattle.std.specs.Prelude.{◌≡◌, ℕ, Some, List, slice_get}
use Rattle.std.specs.declared.cmp.Ordering.TheVariants.{Less}
use Rattle.cell_base.specs.contracts.cell.CellOrd.TheImpl as cell_order
use Rattle.cell_base.specs.declared.cell.Cell.{Cell}
use Rattle.cell_base.specs.declared.value.Value.{Value}

-- the cell is above each of these, as cells are ordered
abbrev pub IsAbove : List (Cell × Value) → Cell → Type 0
IsAbove initial cell = (k : ℕ) (e : Cell × Value) → slice_get initial k ≡ Some e → (cell_order.ghosts).cmp e.0 cell ≡ Less
