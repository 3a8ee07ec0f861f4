-- The writes so far, and those of the values that are left; their columns have numbers.
use Rattle.std.proofs.Common.{◌≡◌, ◌+◌, ◌<◌, ◌^◌, true, ◌∷◌, ◌++◌, length}
use Rattle.std.specs.Vec.Iter.{into_iter_items}
use Rattle.cell_base.specs.declared.cell.Cell.TheVariants.{Presence}
use Rattle.cell_base.specs.declared.value.Value.TheVariants.{Flag}
use Rattle.statement_course.specs.Writing as spec
use Rattle.row_writes.proofs.cells.add_row.Given as goal

abbrev pub invariant-loop-value : goal.invariant-loop-value
invariant-loop-value l =
    (l.writes ++ spec.fields_of l.number l.key l.key_column l.column (into_iter_items l.value-iterator)
    ≡ l.fn.writes ++ (Presence l.number l.key, Flag true) ∷ spec.fields_of l.number l.key l.key_column 0 l.fn.values)
    × (l.column + length (into_iter_items l.value-iterator) < 2 ^ 32)
